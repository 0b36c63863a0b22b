-- A step of a command depends on what contracts see of the command, and on nothing else of it.
use Rattle.std.proofs.Common.{◌≡◌, ◌∙◌, ℕ, List, Option, Some, None, Result, Ok, Err, Global, String, refl, subst, sym}
use Rattle.std.specs.FinMap.{get}
use Rattle.std.specs.Prelude.{string_bytes}
use Rattle.tally_setup.specs.Constituency.{Constituency}
use Rattle.tally_setup.specs.Setup.{constituency_with}
use Rattle.tally_returns.specs.AskSeen.{AskSeen, ask_seen}
use Rattle.tally_returns.specs.AskSeen as of_seen
use Rattle.tally_returns.specs.Decide.{move_change}
use Rattle.tally_returns.specs.GoneCandidate.{GoneCandidate}
use Rattle.tally_returns.specs.Moves.{query_checks, queried_return}
use Rattle.tally_returns.specs.PastSeats.{PastSeats}
use Rattle.tally_returns.specs.State.{State, stations_of}
use Rattle.tally_returns.specs.View.{View}
use Rattle.tally_returns.specs.declared.ask.Ask.{Ask}
use Rattle.tally_returns.specs.declared.ask.Ask.TheVariants as ask
use Rattle.tally_returns.specs.declared.change.Change.{Change}
use Rattle.tally_returns.specs.declared.change.Change.TheVariants.{PutReturn}
use Rattle.tally_returns.specs.declared.refusal.Refusal.{Refusal}
use Rattle.tally_returns.specs.declared.refusal.Refusal.TheVariants.{NoConstituency}
use Rattle.tally_machine_law.specs.Certification.{Draws, reopen_result, vacate_result}
use Rattle.tally_machine_law.specs.Runs.{IsSameCommand}
use Rattle.tally_machine_law.specs.Step.{Answer, ConChange, Decides, IsConStepSeen, IsStepSeen, IsView, state_after, after_change, change_of_result, con_answer, con_of_station, gone_for_good, is_certified, lot_set, move_reply, open_again, with_return, without_lot}

-- what is decided of a query, and the state after it
abbrev decided_query : List Constituency → State → List ℕ → ℕ → List ℕ → Result Change Refusal
decided_query setup s station rev note =
    move_change (query_checks (stations_of setup station) (is_certified setup s station) (get s.returns station) rev note) (get s.returns station) (queried_return note)

abbrev after_query : List Constituency → State → List ℕ → Result Change Refusal → State
after_query setup s station (Ok (PutReturn standing)) = with_return (without_lot s (con_of_station setup station)) (Some station) standing
after_query setup s station other = s

-- a step on a constituency, by what is decided of it with each view
abbrev IsConStepBy : Option Constituency → State → (Constituency → View → Result ConChange Refusal → Type 0) → Result Answer Refusal → State → Type 0
IsConStepBy None s Decides x t = (x ≡ Err NoConstituency) × (t ≡ s)
IsConStepBy (Some con) s Decides x t =
    (view : View) × (decided : Result ConChange Refusal) × IsView con s view × Decides con view decided
    × (x ≡ con_answer view decided) × (t ≡ after_change s con.code decided)

-- a step, by what is seen of the command
abbrev IsStepBy : List Constituency → State → AskSeen → Result Answer Refusal → State → Type 0
IsStepBy setup s (of_seen.lodge station slip counts) x t = IsStepSeen setup s (ask.Lodge station slip counts) x t
IsStepBy setup s (of_seen.query station rev note) x t =
    (x ≡ move_reply (decided_query setup s station rev note)) × (t ≡ after_query setup s station (decided_query setup s station rev note))
IsStepBy setup s (of_seen.correct station rev slip counts) x t = IsStepSeen setup s (ask.Correct station rev slip counts) x t
IsStepBy setup s (of_seen.close station rev) x t = IsStepSeen setup s (ask.Close station rev) x t
IsStepBy setup s (of_seen.confirm station rev slip counts) x t = IsStepSeen setup s (ask.Confirm station rev slip counts) x t
IsStepBy setup s (of_seen.show_return station) x t = IsStepSeen setup s (ask.ShowReturn station) x t
IsStepBy setup s (of_seen.draw con edition order) x t =
    IsConStepBy (constituency_with con setup) s (λ c view decided. (places : Result (List ℕ) Refusal) × Draws c view edition order places × (decided ≡ change_of_result lot_set places)) x t
IsStepBy setup s (of_seen.certify con edition) x t = IsStepSeen setup s (ask.Certify con edition) x t
IsStepBy setup s (of_seen.reopen con edition note) x t =
    IsConStepBy (constituency_with con setup) s
    (λ c view decided. decided ≡ change_of_result (λ (r : List ℕ × PastSeats). open_again r.0 r.1) (reopen_result view edition note)) x t
IsStepBy setup s (of_seen.vacate con list place note) x t =
    IsConStepBy (constituency_with con setup) s
    (λ c view decided. decided ≡ change_of_result (λ (v : GoneCandidate × Option ℕ). gone_for_good v.0 v.1) (vacate_result c view list place note)) x t
IsStepBy setup s (of_seen.show_con con) x t = IsStepSeen setup s (ask.ShowCon con) x t
IsStepBy setup s of_seen.show_progress x t = IsStepSeen setup s ask.ShowProgress x t

-- the two ways to say the same of a query
after-same : (setup : List Constituency) (s : State) (station : List ℕ) (rev : ℕ) (note : String Global) (d : Result Change Refusal)
    → state_after setup s (ask.Query station rev note) d ≡ after_query setup s station d
after-same setup s station rev note (Ok (PutReturn standing)) = refl
after-same setup s station rev note (Ok other) = refl
after-same setup s station rev note (Err why) = refl

-- and of a command on a constituency
con-by : (o : Option Constituency) (s : State) (a : Ask) (x : Result Answer Refusal) (t : State)
    → IsConStepSeen o s a x t → IsConStepBy o s (λ c view decided. Decides c view a decided) x t
con-by None s a x t is = is
con-by (Some c) s a x t is = is

by-con : (o : Option Constituency) (s : State) (a : Ask) (x : Result Answer Refusal) (t : State)
    → IsConStepBy o s (λ c view decided. Decides c view a decided) x t → IsConStepSeen o s a x t
by-con None s a x t is = is
by-con (Some c) s a x t is = is

step-seen : (setup : List Constituency) (s : State) (a : Ask) (x : Result Answer Refusal) (t : State) → IsStepSeen setup s a x t → IsStepBy setup s (ask_seen a) x t
step-seen setup s (ask.Lodge station slip counts) x t is = is
step-seen setup s (ask.Query station rev note) x t is =
    (is.0, is.1 ∙ after-same setup s station rev note (decided_query setup s station rev (string_bytes note)))
step-seen setup s (ask.Correct station rev slip counts) x t is = is
step-seen setup s (ask.Close station rev) x t is = is
step-seen setup s (ask.Confirm station rev slip counts) x t is = is
step-seen setup s (ask.ShowReturn station) x t is = is
step-seen setup s (ask.Draw con edition order) x t is = con-by (constituency_with con setup) s (ask.Draw con edition order) x t is
step-seen setup s (ask.Certify con edition) x t is = is
step-seen setup s (ask.Reopen con edition note) x t is = con-by (constituency_with con setup) s (ask.Reopen con edition note) x t is
step-seen setup s (ask.Vacate con list place note) x t is = con-by (constituency_with con setup) s (ask.Vacate con list place note) x t is
step-seen setup s (ask.ShowCon con) x t is = is
step-seen setup s ask.ShowProgress x t is = is

seen-step : (setup : List Constituency) (s : State) (a : Ask) (x : Result Answer Refusal) (t : State) → IsStepBy setup s (ask_seen a) x t → IsStepSeen setup s a x t
seen-step setup s (ask.Lodge station slip counts) x t is = is
seen-step setup s (ask.Query station rev note) x t is =
    (is.0, is.1 ∙ sym (after-same setup s station rev note (decided_query setup s station rev (string_bytes note))))
seen-step setup s (ask.Correct station rev slip counts) x t is = is
seen-step setup s (ask.Close station rev) x t is = is
seen-step setup s (ask.Confirm station rev slip counts) x t is = is
seen-step setup s (ask.ShowReturn station) x t is = is
seen-step setup s (ask.Draw con edition order) x t is = by-con (constituency_with con setup) s (ask.Draw con edition order) x t is
seen-step setup s (ask.Certify con edition) x t is = is
seen-step setup s (ask.Reopen con edition note) x t is = by-con (constituency_with con setup) s (ask.Reopen con edition note) x t is
seen-step setup s (ask.Vacate con list place note) x t is = by-con (constituency_with con setup) s (ask.Vacate con list place note) x t is
seen-step setup s (ask.ShowCon con) x t is = is
seen-step setup s ask.ShowProgress x t is = is

-- equal commands have the same steps
pub same-step : (setup : List Constituency) (s : State) (a b : Ask) (x : Result Answer Refusal) (t : State) → IsSameCommand a b → IsStepSeen setup s b x t → IsStepSeen setup s a x t
same-step setup s a b x t alike is =
    seen-step setup s a x t (subst (λ k. IsStepBy setup s k x t) (sym alike) (step-seen setup s b x t is))
