-- The laws of the machine's runs, of what happens to a keeper.
use Rattle.std.proofs.Common.{◌≡◌, ◌+◌, ◌<◌, ◌∷◌, ◌∙◌, ℕ, List, [], Bool, true, false, cond, Option, Some, None, Result, Ok, Err, refl, ap, subst, add-one, filter, slice_get}
use Rattle.std.specs.Prelude.{◌||◌, All}
use Rattle.std.specs.List.{list_any}
use Rattle.std.proofs.lemmas.List.Elements.{All-append, All-cons, All-head, All-nil, All-tail}
use Rattle.tally_setup.specs.Code.{is_code}
use Rattle.tally_setup.specs.Constituency.{Constituency}
use Rattle.tally_setup.specs.Limits.{IsSetup}
use Rattle.tally_returns.specs.Named.{BringsCode}
use Rattle.tally_returns.specs.State.{State}
use Rattle.tally_machine_law.specs.LawfulState.{IsLawfulState}
use Rattle.tally_machine_law.specs.Runs.{IsRun, is_act, IsSameCommand, kept_elements}
use Rattle.tally_returns.specs.declared.ask.Ask.{Ask}
use Rattle.tally_returns.specs.declared.ask.Ask.TheVariants.{Lodge}
use Rattle.tally_returns.specs.declared.refusal.Refusal.{Refusal}
use Rattle.tally_returns.specs.declared.reply.LodgeReply.TheVariants.{Lodged, Same}
use Rattle.tally_returns.specs.declared.reply.Reply.{Reply}
use Rattle.tally_machine_law.proofs.ActLemmas.{answered-idle}
use Rattle.tally_machine_law.proofs.LawLemmas.{run-lawful}
use Rattle.tally_machine_law.proofs.RunLemmas.{second-idle}
use Rattle.tally_keeper.specs.Events.{BringsCodes, acts, answers_of, asks_of, lodge_answers, lodge_commands}
use Rattle.tally_returns_rows.specs.Import.{RowAnswer, IsCodedRow, is_lodged}
use Rattle.tally_keeper.specs.Keeper.{Event, HappensInTurn, Happens, IsTaken, failed_import, request, whole_import}
use Rattle.tally_returns_rows.specs.declared.import.Row.{Row}
use Rattle.tally_returns_rows.specs.declared.import.Row.TheVariants as row
use Rattle.tally_keeper.proofs.KeeperLemmas.{happen-run, import-run, shut-stays, some-run}

-- ---- the slips are codes

rows-bring : (rows : List Row) → All IsCodedRow rows → All BringsCode (lodge_commands rows)
rows-bring [] codes = All-nil BringsCode
rows-bring (row.Lodge (Lodge station slip counts) ∷ rows) codes =
    let its = row.Lodge (Lodge station slip counts) in
    let code : is_code slip ≡ true = All-head IsCodedRow its rows codes in
    All-cons BringsCode (Lodge station slip counts) (lodge_commands rows) (λ named same. let e : slip ≡ named = cc in subst (λ text. is_code text ≡ true) e code)
    (rows-bring rows (All-tail IsCodedRow its rows codes))
rows-bring (other ∷ rows) codes = rows-bring rows (All-tail IsCodedRow other rows codes)

taken-brings : (setup : List Constituency) (s t : State) (event : Event) (events : List Event) → BringsCodes event → IsTaken setup s event t
    → All BringsCode (asks_of events) → All BringsCode (asks_of (event ∷ events))
taken-brings setup s t (request ask r) events code is rest = All-cons BringsCode ask (asks_of events) code rest
taken-brings setup s t (whole_import rows answered count) events code is rest = All-append BringsCode (lodge_commands rows) (asks_of events) (rows-bring rows is.4) rest
taken-brings setup s t (failed_import fault) events code is rest = rest

pub happen-brings : (setup : List Constituency) (s t : State) (events : List Event) → All BringsCodes events → HappensInTurn setup (Some s) events (Some t) → All BringsCode (asks_of events)
happen-brings setup s t [] codes is = All-nil BringsCode
happen-brings setup s t (event ∷ events) codes is =
    go is.0 is.1 is.2 (λ next rest. happen-brings setup next t events (All-tail BringsCodes event events codes) rest)
  where
    go : (mid : Option State) → Happens setup (Some s) event mid → HappensInTurn setup mid events (Some t)
        → ((next : State) → HappensInTurn setup (Some next) events (Some t) → All BringsCode (asks_of events))
        → All BringsCode (asks_of (event ∷ events))
    go None step rest later = absurd (shut-stays setup events t rest)
    go (Some next) step rest later = taken-brings setup s next event events (All-head BringsCodes event events codes) step (later next rest)

-- ---- the laws

-- the state stays lawful
pub happen-lawful : (setup : List Constituency) (s t : State) (events : List Event) → All BringsCodes events → IsSetup setup → IsLawfulState setup s → HappensInTurn setup (Some s) events (Some t)
    → IsLawfulState setup t
happen-lawful setup s t events codes ok lawful is =
    run-lawful setup s t (asks_of events) (answers_of events) (happen-brings setup s t events codes is) ok (happen-run setup s t events is) lawful

-- of two equal requests the second does not act where the first did
pub happen-second-idle : (setup : List Constituency) (s : State) (new : Option State) (events : List Event) → HappensInTurn setup (Some s) events new
    → (i j : ℕ) (ask other : Ask) (first second : Result Reply Refusal) → i < j
    → slice_get (asks_of events) i ≡ Some ask → slice_get (asks_of events) j ≡ Some other → IsSameCommand ask other
    → slice_get (answers_of events) i ≡ Some first → slice_get (answers_of events) j ≡ Some second → is_act first ≡ true → is_act second ≡ false
happen-second-idle setup s new events is = let run = some-run setup s new events is in second-idle setup s run.0 (asks_of events) (answers_of events) run.1

-- ---- what does not act

none-of : (a b : Bool) → (a || b) ≡ false → (a ≡ false) × (b ≡ false)
none-of true b is = cc
none-of false b is = (refl, is)

-- a run in which nothing acts leaves the state
run-idle : (setup : List Constituency) (s t : State) (asks : List Ask) (rs : List (Result Reply Refusal)) → IsRun setup s asks rs t → list_any is_act rs ≡ false → t ≡ s
run-idle setup s t [] [] is idle = is
run-idle setup s t [] (r ∷ rs) is idle = absurd is
run-idle setup s t (ask ∷ asks) [] is idle = absurd is
run-idle setup s t (ask ∷ asks) (r ∷ rs) is idle =
    let none = none-of (is_act r) (list_any is_act rs) idle in
    run-idle setup is.0 t asks rs is.2 none.1 ∙ answered-idle setup s ask r is.0 is.1 none.0

-- a Lodge of an import acts where its row was lodged
lodges-act : (answered : List RowAnswer) → list_any is_act (lodge_answers answered) ≡ list_any is_lodged answered
lodges-act [] = refl
lodges-act (None ∷ answered) = lodges-act answered
lodges-act (Some (Ok (Lodged rev)) ∷ answered) = refl
lodges-act (Some (Ok (Same rev)) ∷ answered) = lodges-act answered
lodges-act (Some (Err refusal) ∷ answered) = lodges-act answered

taken-idle : (setup : List Constituency) (s t : State) (event : Event) → IsTaken setup s event t → acts event ≡ false → t ≡ s
taken-idle setup s t (request ask r) is idle = answered-idle setup s ask r t is idle
taken-idle setup s t (whole_import rows answered count) is idle =
    run-idle setup s t (lodge_commands rows) (lodge_answers answered) (import-run setup rows answered count s t is).1 (lodges-act answered ∙ idle)
taken-idle setup s t (failed_import fault) is idle = is

-- where something that does not act is left out, what happens goes on from the same state
pub happen-acting : (setup : List Constituency) (s t : State) (events : List Event) → HappensInTurn setup (Some s) events (Some t) → HappensInTurn setup (Some s) (filter acts events) (Some t)
happen-acting setup s t [] is = is
happen-acting setup s t (event ∷ events) is = go is.0 is.1 is.2 (λ next rest. happen-acting setup next t events rest) (acts event) refl
  where
    go : (mid : Option State) → Happens setup (Some s) event mid → HappensInTurn setup mid events (Some t)
        → ((next : State) → HappensInTurn setup (Some next) events (Some t) → HappensInTurn setup (Some next) (filter acts events) (Some t))
        → (b : Bool) → acts event ≡ b → HappensInTurn setup (Some s) (cond b (event ∷ filter acts events) (filter acts events)) (Some t)
    go None step rest later b acted = absurd (shut-stays setup events t rest)
    go (Some next) step rest later true acted = (Some next, step, later next rest)
    go (Some next) step rest later false idle = subst (λ m. HappensInTurn setup (Some m) (filter acts events) (Some t)) (taken-idle setup s next event step idle) (later next rest)

pub happen-kept : (setup : List Constituency) (s t : State) (events : List Event) → HappensInTurn setup (Some s) events (Some t) → (keep : ℕ → Bool)
    → ((i : ℕ) (event : Event) → slice_get events i ≡ Some event → keep i ≡ false → acts event ≡ false)
    → HappensInTurn setup (Some s) (kept_elements keep events) (Some t)
happen-kept setup s t [] is keep idle = is
happen-kept setup s t (event ∷ events) is keep idle =
    go is.0 is.1 is.2
    (λ next rest. happen-kept setup next t events rest (λ i. keep (i + 1)) (λ i e at out. idle (i + 1) e (ap (slice_get (event ∷ events)) (add-one i) ∙ at) out)) (keep 0) refl
  where
    left : List Event
    left = kept_elements (λ i. keep (i + 1)) events

    go : (mid : Option State) → Happens setup (Some s) event mid → HappensInTurn setup mid events (Some t)
        → ((next : State) → HappensInTurn setup (Some next) events (Some t) → HappensInTurn setup (Some next) left (Some t))
        → (b : Bool) → keep 0 ≡ b → HappensInTurn setup (Some s) (cond b (event ∷ left) left) (Some t)
    go None step rest later b there = absurd (shut-stays setup events t rest)
    go (Some next) step rest later true there = (Some next, step, later next rest)
    go (Some next) step rest later false out = subst (λ m. HappensInTurn setup (Some m) left (Some t)) (taken-idle setup s next event step (idle 0 event refl out)) (later next rest)
