-- A step from a lawful state answers a command in its kind.
use Rattle.std.proofs.Common.{◌≡◌, ℕ, List, Option, Some, None, Result, Ok, Err, IfOk, Global, String, refl, sym, subst}
use Rattle.std.specs.Prelude.{string_bytes}
use Rattle.std.specs.FinMap.{get}
use Rattle.tally_setup.specs.Constituency.{Constituency}
use Rattle.tally_setup.specs.Setup.{constituency_with}
use Rattle.tally_returns.specs.Checks.{first_refusal, refused_or}
use Rattle.tally_returns.specs.Counts.{VoteCounts}
use Rattle.tally_returns.specs.Decide.{show_checks}
use Rattle.tally_returns.specs.GoneCandidate.{GoneCandidate}
use Rattle.tally_returns.specs.PastSeats.{PastSeats}
use Rattle.tally_returns.specs.Lodge.{lodge_answer}
use Rattle.tally_returns.specs.Named.{con_named}
use Rattle.tally_returns.specs.Return.{StationReturn}
use Rattle.tally_returns.specs.State.{State, stations_of}
use Rattle.tally_machine_law.specs.Step.{change_in_state, ConChange, Decides, certified_with, change_of_result, gone_for_good, lot_set, open_again, Answer, IsConStepSeen, IsStepSeenAt, answer, con_answer, lodge_reply, move_reply, return_reply}
use Rattle.tally_returns.specs.View.{FitsView, View}
use Rattle.tally_returns.specs.declared.ask.Ask.{Ask}
use Rattle.tally_returns.specs.declared.ask.Ask.TheVariants.{Lodge, Query, Correct, Close, Confirm, ShowReturn, Draw, Certify, Reopen, Vacate, ShowCon, ShowProgress}
use Rattle.tally_returns.specs.declared.change.Change.{Change}
use Rattle.tally_returns.specs.declared.change.Change.TheVariants.{PutReturn}
use Rattle.tally_returns.specs.declared.refusal.Refusal.{Refusal}
use Rattle.tally_returns.specs.declared.refusal.Refusal.TheVariants.{NoConstituency}
use Rattle.tally_returns.specs.declared.reply.LodgeReply.{LodgeReply}
use Rattle.tally_returns.specs.declared.reply.LodgeReply.TheVariants as reply
use Rattle.tally_machine_law.specs.Certification.{reopen_result, vacate_result}
use Rattle.tally_machine_law.specs.Decisions.{AnswersAreOfTheirKind}
use Rattle.tally_machine_law.specs.Kinds.{IsAnswerTo}
use Rattle.tally_machine_law.proofs.ViewLemmas.{view-lawful}

-- what is so of an answer that was given
given-kind : (P : Answer → Type 0) (r : Result Answer Refusal) (a : Answer) → Ok a ≡ r → IfOk r P → P a
given-kind P (Ok b) a is kind = let same : a ≡ b = cc in subst P (sym same) kind
given-kind P (Err e) a is kind = cc

-- ---- commands on returns

lodge-kind : (setup : List Constituency) (station slip : List ℕ) (counts : VoteCounts) (x : Result LodgeReply Refusal) → IfOk (lodge_reply x) (IsAnswerTo setup (Lodge station slip counts))
lodge-kind setup station slip counts (Ok (reply.Lodged rev)) = tt
lodge-kind setup station slip counts (Ok (reply.Same rev)) = tt
lodge-kind setup station slip counts (Err e) = tt

show-kind : (setup : List Constituency) (station : List ℕ) (refused : Option Refusal) (found : Option StationReturn) → IfOk (refused_or refused (return_reply found)) (IsAnswerTo setup (ShowReturn station))
show-kind setup station None None = tt
show-kind setup station None (Some standing) = tt
show-kind setup station (Some e) found = tt

query-kind : (setup : List Constituency) (station : List ℕ) (rev : ℕ) (note : String Global) (d : Result Change Refusal) → IfOk (move_reply d) (IsAnswerTo setup (Query station rev note))
query-kind setup station rev note (Ok (PutReturn standing)) = tt
query-kind setup station rev note (Ok other) = tt
query-kind setup station rev note (Err e) = tt

correct-kind : (setup : List Constituency) (station : List ℕ) (rev : ℕ) (slip : List ℕ) (counts : VoteCounts) (d : Result Change Refusal) → IfOk (move_reply d) (IsAnswerTo setup (Correct station rev slip counts))
correct-kind setup station rev slip counts (Ok (PutReturn standing)) = tt
correct-kind setup station rev slip counts (Ok other) = tt
correct-kind setup station rev slip counts (Err e) = tt

close-kind : (setup : List Constituency) (station : List ℕ) (rev : ℕ) (d : Result Change Refusal) → IfOk (move_reply d) (IsAnswerTo setup (Close station rev))
close-kind setup station rev (Ok (PutReturn standing)) = tt
close-kind setup station rev (Ok other) = tt
close-kind setup station rev (Err e) = tt

confirm-kind : (setup : List Constituency) (station : List ℕ) (rev : ℕ) (slip : List ℕ) (counts : VoteCounts) (d : Result Change Refusal) → IfOk (move_reply d) (IsAnswerTo setup (Confirm station rev slip counts))
confirm-kind setup station rev slip counts (Ok (PutReturn standing)) = tt
confirm-kind setup station rev slip counts (Ok other) = tt
confirm-kind setup station rev slip counts (Err e) = tt

answer-kind : (setup : List Constituency) (s : State) (ask : Ask) → con_named ask ≡ None → IfOk (answer setup s ask) (IsAnswerTo setup ask)
answer-kind setup s (Lodge station slip counts) named = lodge-kind setup station slip counts (lodge_answer (stations_of setup) s.returns station slip counts)
answer-kind setup s (Query station rev note) named = query-kind setup station rev note (change_in_state setup s (Query station rev note))
answer-kind setup s (Correct station rev slip counts) named = correct-kind setup station rev slip counts (change_in_state setup s (Correct station rev slip counts))
answer-kind setup s (Close station rev) named = close-kind setup station rev (change_in_state setup s (Close station rev))
answer-kind setup s (Confirm station rev slip counts) named = confirm-kind setup station rev slip counts (change_in_state setup s (Confirm station rev slip counts))
answer-kind setup s (ShowReturn station) named = show-kind setup station (first_refusal (show_checks (stations_of setup station) (get s.returns station))) (get s.returns station)
answer-kind setup s ShowProgress named = tt
answer-kind setup s (Draw con edition order) named = cc
answer-kind setup s (Certify con edition) named = cc
answer-kind setup s (Reopen con edition note) named = cc
answer-kind setup s (Vacate con list place note) named = cc
answer-kind setup s (ShowCon con) named = cc

-- ---- commands on constituencies

con-kind : (setup : List Constituency) (code : List ℕ) (con : Constituency) (view : View) (ask : Ask) (decided : Result ConChange Refusal) → con_named ask ≡ Some code → constituency_with code setup ≡ Some con
    → FitsView con view → Decides con view ask decided → IfOk (con_answer view decided) (IsAnswerTo setup ask)
con-kind setup code con view (Draw key edition order) decided named is fits decides =
    subst (λ (d : Result ConChange Refusal). IfOk (con_answer view d) (IsAnswerTo setup (Draw key edition order))) (sym decides.2) (go decides.0)
  where
    go : (places : Result (List ℕ) Refusal) → IfOk (con_answer view (change_of_result lot_set places)) (IsAnswerTo setup (Draw key edition order))
    go (Ok places) = tt
    go (Err e) = tt
con-kind setup code con view (Certify key edition) decided named is fits decides =
    subst (λ (d : Result ConChange Refusal). IfOk (con_answer view d) (IsAnswerTo setup (Certify key edition))) (sym decides.2) (go decides.0)
  where
    go : (seats : Result (List ℕ) Refusal) → IfOk (con_answer view (change_of_result certified_with seats)) (IsAnswerTo setup (Certify key edition))
    go (Ok seats) = tt
    go (Err e) = tt
con-kind setup code con view (Reopen key edition note) decided named is fits decides =
    subst (λ (d : Result ConChange Refusal). IfOk (con_answer view d) (IsAnswerTo setup (Reopen key edition note))) (sym decides) (go (reopen_result view edition (string_bytes note)))
  where
    go : (kept : Result (List ℕ × PastSeats) Refusal) → IfOk (con_answer view (change_of_result (λ (r : List ℕ × PastSeats). open_again r.0 r.1) kept)) (IsAnswerTo setup (Reopen key edition note))
    go (Ok kept) = tt
    go (Err e) = tt
con-kind setup code con view (Vacate key list place note) decided named is fits decides =
    subst (λ (d : Result ConChange Refusal). IfOk (con_answer view d) (IsAnswerTo setup (Vacate key list place note))) (sym decides) (go (vacate_result con view list place (string_bytes note)))
  where
    go : (left : Result (GoneCandidate × Option ℕ) Refusal) → IfOk (con_answer view (change_of_result (λ (v : GoneCandidate × Option ℕ). gone_for_good v.0 v.1) left)) (IsAnswerTo setup (Vacate key list place note))
    go (Ok left) = tt
    go (Err e) = tt
con-kind setup code con view (ShowCon key) decided named is fits decides =
    let here : code ≡ key = cc in
    subst (λ (d : Result ConChange Refusal). IfOk (con_answer view d) (IsAnswerTo setup (ShowCon key))) (sym decides) (con, subst (λ q. constituency_with q setup ≡ Some con) here is, fits)
con-kind setup code con view (Lodge station slip counts) decided named is fits decides = absurd decides
con-kind setup code con view (Query station rev note) decided named is fits decides = absurd decides
con-kind setup code con view (Correct station rev slip counts) decided named is fits decides = absurd decides
con-kind setup code con view (Close station rev) decided named is fits decides = absurd decides
con-kind setup code con view (Confirm station rev slip counts) decided named is fits decides = absurd decides
con-kind setup code con view (ShowReturn station) decided named is fits decides = absurd decides
con-kind setup code con view ShowProgress decided named is fits decides = absurd decides

-- ---- a step

pub step-kind : AnswersAreOfTheirKind
step-kind setup s t ask a ok lawful step = at (con_named ask) refl step
  where
    at_con : (code : List ℕ) → con_named ask ≡ Some code → (found : Option Constituency) → constituency_with code setup ≡ found → IsConStepSeen found s ask (Ok a) t → IsAnswerTo setup ask a
    at_con code named None is one = given-kind (IsAnswerTo setup ask) (Err NoConstituency) a one.0 tt
    at_con code named (Some con) is one =
        given-kind (IsAnswerTo setup ask) (con_answer one.0 one.1) a one.4
        (con-kind setup code con one.0 ask one.1 named is (view-lawful setup s code con one.0 ok lawful is one.2).fits one.3)

    at : (named : Option (List ℕ)) → con_named ask ≡ named → IsStepSeenAt named setup s ask (Ok a) t → IsAnswerTo setup ask a
    at None named one = given-kind (IsAnswerTo setup ask) (answer setup s ask) a one.0 (answer-kind setup s ask named)
    at (Some code) named one = at_con code named (constituency_with code setup) refl one
