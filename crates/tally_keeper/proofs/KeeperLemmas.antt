-- What happens to a keeper is a run of the machine.
use Rattle.std.proofs.Common.{◌≡◌, ◌↔◌, ◌++◌, List, [], ◌∷◌, Option, Some, None, Result, Ok, Err, length, refl, ap, subst, sym, inl, inr, arith}
use Rattle.tally_setup.specs.Constituency.{Constituency}
use Rattle.tally_returns.specs.State.{State, stations_of}
use Rattle.tally_returns.specs.Lodge.{lodge, lodge_answer}
use Rattle.tally_machine_law.specs.Step.{reply_seen, lodge_reply}
use Rattle.tally_machine_law.specs.Runs.{IsRun}
use Rattle.tally_returns.specs.declared.ask.Ask.{Ask}
use Rattle.tally_returns.specs.declared.ask.Ask.TheVariants.{Lodge}
use Rattle.tally_returns.specs.declared.refusal.Refusal.{Refusal}
use Rattle.tally_returns.specs.declared.reply.LodgeReply.{LodgeReply}
use Rattle.tally_returns.specs.declared.reply.LodgeReply.TheVariants.{Lodged, Same}
use Rattle.tally_returns.specs.declared.reply.Reply.{Reply}
use Rattle.tally_keeper.specs.Events.{answers_of, as_answer, asks_of, lodge_answers, lodge_commands}
use Rattle.tally_returns_rows.specs.Import.{RowAnswer, answers, count_of, returns_after_import}
use Rattle.tally_keeper.specs.Keeper.{Event, HappensInTurn, Happens, IsFailed, IsImport, IsNotTaken, IsTaken, Runs, failed_import, request, requests, whole_import}
use Rattle.tally_returns_rows.specs.declared.import.ImportCount.{ImportCount}
use Rattle.tally_returns_rows.specs.declared.import.Row.{Row}
use Rattle.tally_returns_rows.specs.declared.import.Row.TheVariants as row
use Rattle.tally_keeper.proofs.HeldLemmas.{lodge-step}

-- a keeper that was shut stays so
pub shut-stays : (setup : List Constituency) (events : List Event) (t : State) → HappensInTurn setup None events (Some t) → ⊥
shut-stays setup [] t is = cc
shut-stays setup (event ∷ events) t is = go is.0 is.1 is.2 (shut-stays setup events t)
  where
    go : (mid : Option State) → Happens setup None event mid → HappensInTurn setup mid events (Some t) → (HappensInTurn setup None events (Some t) → ⊥) → ⊥
    go (Some s) step rest later = step
    go None step rest later = later rest

-- ---- an import

seen-lodge : (a : Result LodgeReply Refusal) → reply_seen (as_answer a) ≡ lodge_reply a
seen-lodge (Ok (Lodged rev)) = refl
seen-lodge (Ok (Same rev)) = refl
seen-lodge (Err refusal) = refl

-- rows are the run of their Lodge commands
rows-run : (setup : List Constituency) (s : State) (rows : List Row)
    → IsRun setup s (lodge_commands rows) (lodge_answers (answers (stations_of setup) s.returns rows)) (record s { returns = returns_after_import (stations_of setup) s.returns rows })
rows-run setup s [] = refl
rows-run setup s (row.Lodge (Lodge station slip counts) ∷ rows) =
    let next = record s { returns = lodge (stations_of setup) s.returns station slip counts } in
    (next, inl (seen-lodge (lodge_answer (stations_of setup) s.returns station slip counts), sym (lodge-step setup s station slip counts)), rows-run setup next rows)
rows-run setup s (other ∷ rows) = rows-run setup s rows

-- an import is the run of its Lodge commands
pub import-run : (setup : List Constituency) (rows : List Row) (answered : List RowAnswer) (count : ImportCount) (s t : State) → IsImport setup s rows answered count t
    → (count ≡ count_of answered) × IsRun setup s (lodge_commands rows) (lodge_answers answered) t
import-run setup rows answered count s t is = (
  is.2,
  subst (λ a. IsRun setup s (lodge_commands rows) (lodge_answers a) t) (sym is.1)
      (subst (IsRun setup s (lodge_commands rows) (lodge_answers (answers (stations_of setup) s.returns rows))) (sym is.3) (rows-run setup s rows)),
)

-- ---- requests and imports

-- a run that goes on from where another ended
run-append : (setup : List Constituency) (s mid t : State) (asks more : List Ask) (rs others : List (Result Reply Refusal))
    → IsRun setup s asks rs mid → IsRun setup mid more others t → IsRun setup s (asks ++ more) (rs ++ others) t
run-append setup s mid t [] more [] others is rest = subst (λ (x : State). IsRun setup x more others t) is rest
run-append setup s mid t [] more (r ∷ rs) others is rest = absurd is
run-append setup s mid t (ask ∷ asks) more [] others is rest = absurd is
run-append setup s mid t (ask ∷ asks) more (r ∷ rs) others is rest = (is.0, is.1, run-append setup is.0 mid t asks more rs others is.2 rest)

-- what happened is taken, and then a run goes on
taken-run : (setup : List Constituency) (s mid t : State) (event : Event) (events : List Event) → IsTaken setup s event mid
    → IsRun setup mid (asks_of events) (answers_of events) t → IsRun setup s (asks_of (event ∷ events)) (answers_of (event ∷ events)) t
taken-run setup s mid t (request ask r) events is rest = (mid, is, rest)
taken-run setup s mid t (whole_import rows answered count) events is rest =
    run-append setup s mid t (lodge_commands rows) (asks_of events) (lodge_answers answered) (answers_of events) (import-run setup rows answered count s mid is).1 rest
taken-run setup s mid t (failed_import fault) events is rest = subst (λ (x : State). IsRun setup x (asks_of events) (answers_of events) t) is rest

-- what happened is not taken, and then a run goes on from the same state
passed-run : (setup : List Constituency) (s t : State) (event : Event) (events : List Event) → IsNotTaken event
    → IsRun setup s (asks_of events) (answers_of events) t → IsRun setup s (asks_of (event ∷ events)) (answers_of (event ∷ events)) t
passed-run setup s t (request ask r) events is rest = (s, inr (is, refl), rest)
passed-run setup s t (whole_import rows answered count) events is rest = absurd is
passed-run setup s t (failed_import fault) events is rest = rest

pub happen-run : (setup : List Constituency) (s t : State) (events : List Event) → HappensInTurn setup (Some s) events (Some t) → IsRun setup s (asks_of events) (answers_of events) t
happen-run setup s t [] is = cc
happen-run setup s t (event ∷ events) is = go is.0 is.1 is.2 (λ next rest. happen-run setup next t events rest)
  where
    go : (mid : Option State) → Happens setup (Some s) event mid → HappensInTurn setup mid events (Some t)
        → ((next : State) → HappensInTurn setup (Some next) events (Some t) → IsRun setup next (asks_of events) (answers_of events) t)
        → IsRun setup s (asks_of (event ∷ events)) (answers_of (event ∷ events)) t
    go (Some next) step rest later = taken-run setup s next t event events step (later next rest)
    go None step rest later = absurd (shut-stays setup events t rest)

-- what met the failure of a disk was not taken
failed-passed : (event : Event) → IsFailed event → IsNotTaken event
failed-passed (request ask r) is = inr is
failed-passed (whole_import rows answered count) is = is
failed-passed (failed_import fault) is = tt

-- a keeper that was shut takes nothing: the state stays
idle-run : (setup : List Constituency) (s : State) (events : List Event) → HappensInTurn setup None events None → IsRun setup s (asks_of events) (answers_of events) s
idle-run setup s [] is = refl
idle-run setup s (event ∷ events) is = go is.0 is.1 is.2 (idle-run setup s events)
  where
    go : (mid : Option State) → Happens setup None event mid → HappensInTurn setup mid events None
        → (HappensInTurn setup None events None → IsRun setup s (asks_of events) (answers_of events) s)
        → IsRun setup s (asks_of (event ∷ events)) (answers_of (event ∷ events)) s
    go (Some next) step rest later = absurd step
    go None step rest later = passed-run setup s s event events step (later rest)

-- what happened to a keeper that a failed disk shut: what met the failure has left the state
pub shut-run : (setup : List Constituency) (s : State) (events : List Event) → HappensInTurn setup (Some s) events None
    → (t : State) × IsRun setup s (asks_of events) (answers_of events) t
shut-run setup s [] is = cc
shut-run setup s (event ∷ events) is = go is.0 is.1 is.2 (λ next rest. shut-run setup next events rest)
  where
    go : (mid : Option State) → Happens setup (Some s) event mid → HappensInTurn setup mid events None
        → ((next : State) → HappensInTurn setup (Some next) events None → (t : State) × IsRun setup next (asks_of events) (answers_of events) t)
        → (t : State) × IsRun setup s (asks_of (event ∷ events)) (answers_of (event ∷ events)) t
    go (Some next) step rest later = let end = later next rest in (end.0, taken-run setup s next end.0 event events step end.1)
    go None step rest later = (s, passed-run setup s s event events (failed-passed event step) (idle-run setup s events rest))

-- in any case
pub some-run : (setup : List Constituency) (s : State) (new : Option State) (events : List Event) → HappensInTurn setup (Some s) events new
    → (t : State) × IsRun setup s (asks_of events) (answers_of events) t
some-run setup s (Some t) events is = (t, happen-run setup s t events is)
some-run setup s None events is = shut-run setup s events is

-- ---- requests alone

requests-are : (asks : List Ask) (rs : List (Result Reply Refusal)) → length rs ≡ length asks → (asks_of (requests asks rs) ≡ asks) × (answers_of (requests asks rs) ≡ rs)
requests-are [] [] count = (refl, refl)
requests-are [] (r ∷ rs) count = absurd (omega (arith, count))
requests-are (ask ∷ asks) [] count = absurd (omega (arith, count))
requests-are (ask ∷ asks) (r ∷ rs) count =
    let later = requests-are asks rs (omega (arith, count)) in (ap (λ l. ask ∷ l) later.0, ap (λ l. r ∷ l) later.1)

as-run : (setup : List Constituency) (s t : State) (asks : List Ask) (rs : List (Result Reply Refusal)) → length rs ≡ length asks
    → IsRun setup s (asks_of (requests asks rs)) (answers_of (requests asks rs)) t → IsRun setup s asks rs t
as-run setup s t asks rs count is =
    let are = requests-are asks rs count in
    subst (λ l. IsRun setup s asks l t) are.1 (subst (λ l. IsRun setup s l (answers_of (requests asks rs)) t) are.0 is)

run-open : (setup : List Constituency) (asks : List Ask) (rs : List (Result Reply Refusal)) (s t : State) → IsRun setup s asks rs t → Runs setup (Some s) asks rs (Some t)
run-open setup [] [] s t is = (refl, ap Some is)
run-open setup [] (r ∷ rs) s t is = absurd is
run-open setup (ask ∷ asks) [] s t is = absurd is
run-open setup (ask ∷ asks) (r ∷ rs) s t is =
    let later = run-open setup asks rs is.0 t is.2 in (omega (arith, later.0), (Some is.0, is.1, later.1))

pub open-runs : (setup : List Constituency) (s t : State) (asks : List Ask) (rs : List (Result Reply Refusal)) → Runs setup (Some s) asks rs (Some t) ↔ IsRun setup s asks rs t
open-runs setup s t asks rs = ((λ is. as-run setup s t asks rs is.0 (happen-run setup s t (requests asks rs) is.1)), run-open setup asks rs s t)

pub shut-runs : (setup : List Constituency) (s : State) (asks : List Ask) (rs : List (Result Reply Refusal)) → Runs setup (Some s) asks rs None → (t : State) × IsRun setup s asks rs t
shut-runs setup s asks rs is =
    let end = shut-run setup s (requests asks rs) is.1 in (end.0, as-run setup s end.0 asks rs is.0 end.1)
