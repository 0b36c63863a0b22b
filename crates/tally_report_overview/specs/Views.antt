-- What a keeper shows for reports, and what happens to it then.
use Rattle.std.specs.Prelude.{◌≡◌, ◌⊎◌, ℕ, Bool, true, false, List, [], Option, None, Vec}
use Rattle.std.specs.Prelude.{Result, Ok, Err}
use Rattle.std.specs.List.{AllZip}
use Rattle.std.specs.declared.alloc.Global.{Global}
use Rattle.tally_setup.specs.Constituency.{Constituency}
use Rattle.tally_returns.specs.PastSeats.{PastSeats}
use Rattle.tally_returns.specs.State.{State}
use Rattle.tally_returns.specs.View.{View}
use Rattle.tally_returns.specs.declared.ask.Ask.TheVariants.{ShowCon}
use Rattle.tally_returns.specs.declared.progress.ProgressRow.{ProgressRow}
use Rattle.tally_returns.specs.declared.refusal.Refusal.{Refusal}
use Rattle.tally_returns.specs.declared.refusal.Refusal.TheVariants.{Memory, Store}
use Rattle.tally_returns.specs.declared.reply.Reply.{Reply}
use Rattle.tally_returns.specs.declared.reply.Reply.TheVariants as reply
use Rattle.tally_keeper.specs.Keeper.{Happens, request}
use Rattle.tally_keeper.specs.Shown.{AnswersShowCon, con_with}
use Rattle.tally_report_names.specs.declared.report.Report.{Report}
use Rattle.tally_report_names.specs.declared.report.Report.TheVariants as report

-- ---- a constituency, for a report

-- whether a report shows certificates on record
abbrev pub is_past : Report → Bool
is_past report.Past = true
is_past other = false

-- these certificates are shown, or none
abbrev pub HasPastIf : Bool → List PastSeats → Result View Refusal → Type 0
HasPastIf true past (Ok shown) = shown.past ≡ past
HasPastIf false past (Ok shown) = shown.past ≡ []
HasPastIf with_past past (Err why) = Unit {0}

-- A ShowCon happens to a keeper. It is answered with what is shown and some certificates on record,
-- which are shown where the report shows them.
abbrev pub ShowsFor : Report → List Constituency → Option State → List ℕ → Result View Refusal
    → Option State → Type 0
ShowsFor which setup old con shown new =
    (past : List PastSeats) × Happens setup old (request (ShowCon con) (con_with past shown)) new
    × HasPastIf (is_past which) past shown

-- ---- a constituency, with its certificates on record

-- a constituency that was shown, as the reply that showed it
abbrev pub as_con : Result View Refusal → Result Reply Refusal
as_con (Ok shown) = Ok (reply.Con shown)
as_con (Err why) = Err why

-- A ShowCon happens to a keeper, and is answered with this.
abbrev pub ShowsWhole : List Constituency → Option State → List ℕ → Result View Refusal
    → Option State → Type 0
ShowsWhole setup old con shown new = Happens setup old (request (ShowCon con) (as_con shown)) new

-- ---- the progress

-- how far each constituency has come, as the reply that showed it
abbrev pub as_progress : Result (Vec ProgressRow Global) Refusal → Result Reply Refusal
as_progress (Ok shown) = Ok (reply.Progress shown)
as_progress (Err why) = Err why

-- ---- the country

-- A view of each constituency, in the setup's order, and all of one state: it is the same before
-- and after each of them is shown.
abbrev pub IsCountryOf : List Constituency → Option State → List View → Type 0
IsCountryOf setup state views =
    AllZip (λ (con : Constituency) (view : View).
    AnswersShowCon setup state con.code (Ok view) state) setup views

-- The office does not show what it is asked for. It is out of memory, and nothing has changed; or
-- its database failed, and nothing has changed or a failed disk has shut it.
abbrev pub IsUnshown : Option State → Refusal → Option State → Type 0
IsUnshown old why new = ((why ≡ Memory) × (new ≡ old))
    ⊎ ((why ≡ Store) × ((new ≡ old) ⊎ (new ≡ None)))

-- All constituencies are shown, and the state stays; or they are not, as above.
abbrev pub ShowsAll : List Constituency → Option State → Result (Vec View Global) Refusal
    → Option State → Type 0
ShowsAll setup old (Ok views) new = IsCountryOf setup old views.items × (new ≡ old)
ShowsAll setup old (Err why) new = IsUnshown old why new

-- ---- all constituencies, with their certificates on record

-- What is seen of each constituency, in the setup's order, and all of one state: it is the same
-- before and after each of them is shown.
abbrev pub AreSeenIn : List Constituency → Option State → List View → Type 0
AreSeenIn setup state views =
    AllZip (λ (con : Constituency) (view : View).
    ShowsWhole setup state con.code (Ok view) state) setup views

-- All constituencies are shown as they are in one state, which stays; or they are not, as above.
abbrev pub ShowsAllWhole : List Constituency → Option State → Result (Vec View Global) Refusal
    → Option State → Type 0
ShowsAllWhole setup old (Ok views) new = AreSeenIn setup old views.items × (new ≡ old)
ShowsAllWhole setup old (Err why) new = IsUnshown old why new
