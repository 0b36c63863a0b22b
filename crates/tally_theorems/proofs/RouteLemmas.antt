-- What an answer has done: on each route it has shown or tried something, or it has carried out an
-- order or an import.
use Rattle.std.proofs.Common.{◌≡◌, ◌⊎◌, ℕ, List, false, Option, Some, None, Vec, Global, Result, Ok, Err, refl, sym, ap, subst, inl, inr}
use Rattle.tally_setup.specs.Constituency.{Constituency}
use Rattle.tally_returns.specs.Named.{BringsCode}
use Rattle.tally_returns.specs.State.{State}
use Rattle.tally_returns.specs.View.{View}
use Rattle.tally_returns.specs.declared.ask.Ask.{Ask}
use Rattle.tally_returns.specs.declared.ask.Ask.TheVariants.{ShowReturn, ShowCon, ShowProgress}
use Rattle.tally_returns.specs.declared.refusal.Refusal.{Refusal}
use Rattle.tally_returns.specs.declared.refusal.Refusal.TheVariants.{NoConstituency, NoStation, Store}
use Rattle.tally_returns.specs.declared.reply.Reply.{Reply}
use Rattle.tally_returns.specs.declared.reply.Reply.TheVariants as reply
use Rattle.tally_returns.specs.declared.station_row.StationRow.{StationRow}
use Rattle.tally_machine_law.specs.Runs.{is_act}
use Rattle.tally_keeper.specs.Keeper.{Happens, Tries, request}
use Rattle.tally_keeper.specs.Shown.{ShowsReturns}
use Rattle.tally_returns_rows.specs.Source.{Delivery}
use Rattle.tally_returns_rows.specs.declared.import.ImportCount.{ImportCount}
use Rattle.tally_returns_rows.specs.declared.source.ImportFault.{ImportFault}
use Rattle.tally_import_records.specs.declared.separator.Sep.{Sep}
use Rattle.tally_desk_message.specs.declared.message.Message.{Message}
use Rattle.tally_desk_routes.specs.Bodies.{con_command, station_command}
use Rattle.tally_desk_routes.specs.declared.routes.ConCommand.{ConCommand}
use Rattle.tally_desk_routes.specs.declared.routes.Route.{Route}
use Rattle.tally_desk_routes.specs.declared.routes.Route.TheVariants as route
use Rattle.tally_desk_routes.specs.declared.routes.StationCommand.{StationCommand}
use Rattle.tally_theorems.specs.MessageLaws.{IsImportRoute}
use Rattle.tally_desk.specs.Requests.{Asks, HasConText, HasProgressText, HasReportText, HasResultText, HasReturnText, ImportsBody, Named, AtCon, AtNamed, AtStation, Orders, ShowsRows, TriesBody, con_in_target, returns_answer, station_in_target, stations_answer}
use Rattle.tally_desk.specs.Respond.{IsAnswerOn}
use Rattle.tally_report_overview.specs.Views.{IsUnshown, ShowsAll, ShowsAllWhole}
use Rattle.tally_report_names.specs.declared.report.Report.{Report}

-- ---- what is shown

-- nothing came to the office, or a request that showed something or was refused
abbrev pub IsShown : List Constituency → Option State → Option State → Type 0
IsShown setup old new =
    (new ≡ old) ⊎ ((a : Ask) × (r : Result Reply Refusal) × BringsCode a × (is_act r ≡ false) × Happens setup old (request a r) new)

asked : (setup : List Constituency) (old new : Option State) (a : Ask) (HasText : Result Reply Refusal → List ℕ → Type 0) (text : List ℕ) → BringsCode a
    → ((r : Result Reply Refusal) → HasText r text → is_act r ≡ false) → Asks setup old a HasText text new → IsShown setup old new
asked setup old new a HasText text code idle is = inr (a, is.0, code, idle is.0 is.2, is.1)

return-idle : (code text : List ℕ) (r : Result Reply Refusal) → HasReturnText code r text → is_act r ≡ false
return-idle code text (Ok (reply.Return kept)) has = refl
return-idle code text (Ok other) has = absurd has
return-idle code text (Err why) has = refl

con-idle : (con : Constituency) (text : List ℕ) (r : Result Reply Refusal) → HasConText con r text → is_act r ≡ false
con-idle con text (Ok (reply.Con view)) has = refl
con-idle con text (Ok other) has = absurd has
con-idle con text (Err why) has = refl

result-idle : (con : Constituency) (text : List ℕ) (r : Result Reply Refusal) → HasResultText con r text → is_act r ≡ false
result-idle con text (Ok (reply.Con view)) has = refl
result-idle con text (Ok other) has = absurd has
result-idle con text (Err why) has = refl

report-idle : (con : Constituency) (which : Report) (text : List ℕ) (r : Result Reply Refusal) → HasReportText con which r text → is_act r ≡ false
report-idle con which text (Ok (reply.Con view)) has = refl
report-idle con which text (Ok other) has = absurd has
report-idle con which text (Err why) has = refl

progress-idle : (text : List ℕ) (r : Result Reply Refusal) → HasProgressText r text → is_act r ≡ false
progress-idle text (Ok (reply.Progress rows)) has = refl
progress-idle text (Ok other) has = absurd has
progress-idle text (Err why) has = refl

-- what is shown brings no slip
progress-brings : BringsCode ShowProgress
progress-brings = λ slip none. absurd (let k = none in cc)

return-brings : (code : List ℕ) → BringsCode (ShowReturn code)
return-brings code = λ slip none. absurd (let k = none in cc)

con-brings : (code : List ℕ) → BringsCode (ShowCon code)
con-brings code = λ slip none. absurd (let k = none in cc)

-- a failed disk shut the office at a look
shut-at : (setup : List Constituency) (old : Option State) → Happens setup old (request ShowProgress (Err Store)) None
shut-at setup (Some s) = refl
shut-at setup None = inr refl

shut-came : (setup : List Constituency) (old new : Option State) → new ≡ None → IsShown setup old new
shut-came setup old new shut =
    inr (ShowProgress, Err Store, progress-brings, refl, subst (Happens setup old (request ShowProgress (Err Store))) (sym shut) (shut-at setup old))

-- a look that was refused changed nothing, or the office was shut at it
look-refused : (setup : List Constituency) (old new : Option State) (why : Refusal) → IsUnshown old why new → IsShown setup old new
look-refused setup old new why (inl (memory, same)) = inl same
look-refused setup old new why (inr (failed, inl same)) = inl same
look-refused setup old new why (inr (failed, inr shut)) = shut-came setup old new shut

rows-came : (setup : List Constituency) (old new : Option State) (code : List ℕ) (r : Result (Vec StationRow Global) Refusal) → ShowsReturns setup old code r new → IsShown setup old new
rows-came setup (Some s) (Some t) code (Ok rows) is = inl (ap Some is.0)
rows-came setup (Some s) (Some t) code (Err why) is = inl (ap Some is.0)
rows-came setup (Some s) None code (Ok rows) is = absurd is
rows-came setup (Some s) None code (Err why) is = shut-came setup (Some s) None refl
rows-came setup None (Some t) code (Ok rows) is = absurd is
rows-came setup None (Some t) code (Err why) is = absurd is
rows-came setup None None code (Ok rows) is = absurd is
rows-came setup None None code (Err why) own = inl refl

all-came : (setup : List Constituency) (old new : Option State) (r : Result (Vec View Global) Refusal) → ShowsAll setup old r new → IsShown setup old new
all-came setup old new (Ok views) is = inl is.1
all-came setup old new (Err why) is = look-refused setup old new why is

whole-came : (setup : List Constituency) (old new : Option State) (r : Result (Vec View Global) Refusal) → ShowsAllWhole setup old r new → IsShown setup old new
whole-came setup old new (Ok views) is = inl is.1
whole-came setup old new (Err why) is = look-refused setup old new why is

-- what was tried changed nothing, or the office was shut at it
tried-came : (setup : List Constituency) (old new : Option State) (d : Delivery) (r : Result ImportCount ImportFault) → Tries setup old d r new → IsShown setup old new
tried-came setup old new d (Ok count) is = inl is.2
tried-came setup (Some s) (Some t) d (Err fault) is = inl (ap Some is.1)
tried-came setup (Some s) None d (Err fault) is = shut-came setup (Some s) None refl
tried-came setup None (Some t) d (Err fault) is = absurd is.1
tried-came setup None None d (Err fault) is = inl refl

-- ---- what a path names

named-shown : (setup : List Constituency) (old new : Option State) (why : Refusal) (o : Option Named) (F : List ℕ → Constituency → List ℕ → Option State → Type 0) (text : List ℕ)
    → ((code : List ℕ) (con : Constituency) → F code con text new → IsShown setup old new) → AtNamed why old o F text new → IsShown setup old new
named-shown setup old new why None F text each is = inl is.1
named-shown setup old new why (Some named) F text each is = each named.0 named.1 is

-- ---- what a route does

pub data Kind : Type 0 where
  shown : Kind
  order_on_station : StationCommand → Kind
  order_on_con : ConCommand → Kind
  import : Sep → Kind

abbrev pub kind : Route → Kind
kind route.Progress = shown
kind route.Return = shown
kind route.Con = shown
kind (route.Report which) = shown
kind route.Returns = shown
kind route.Stations = shown
kind route.Country = shown
kind route.Result = shown
kind route.Results = shown
kind (route.OnStation command) = order_on_station command
kind (route.OnCon command) = order_on_con command
kind (route.Import sep) = import sep
kind (route.Trial sep) = shown

-- an answer on a route of this kind
abbrev pub IsOfKind : Kind → List Constituency → Option State → Message → List ℕ → Option State → Type 0
IsOfKind shown setup old m text new = IsShown setup old new
IsOfKind (order_on_station command) setup old m text new = AtStation setup old m (λ code con. Orders setup old con (station_command command code) m) text new
IsOfKind (order_on_con command) setup old m text new = AtCon setup old m (λ code con. Orders setup old con (con_command command code) m) text new
IsOfKind (import sep) setup old m text new = AtCon setup old m (λ code con. ImportsBody setup old con sep m) text new

-- where the route is one of an import, it is of that kind
abbrev pub IsImportKind : Kind → Type 0
IsImportKind (import sep) = Unit {0}
IsImportKind other = ⊥

pub import-kind : (r : Route) → IsImportRoute r → IsImportKind (kind r)
import-kind (route.Import sep) is = tt
import-kind other is = absurd is

reported : (setup : List Constituency) (old new : Option State) (con : Constituency) (code : List ℕ) (which : Report) (text : List ℕ)
    → Asks setup old (ShowCon code) (HasReportText con which) text new → IsShown setup old new
reported setup old new con code which text is = asked setup old new (ShowCon code) (HasReportText con which) text (con-brings code) (report-idle con which text) is

report-on : (setup : List Constituency) (old new : Option State) (m : Message) (which : Report) (text : List ℕ)
    → AtCon setup old m (λ code con. Asks setup old (ShowCon code) (HasReportText con which)) text new → IsShown setup old new
report-on setup old new m which text is =
    named-shown setup old new NoConstituency (con_in_target setup m.target.items) (λ code con. Asks setup old (ShowCon code) (HasReportText con which)) text
    (λ code con. reported setup old new con code which text) is

rows-on : (setup : List Constituency) (old new : Option State) (m : Message) (form : Constituency → List StationRow → List ℕ) (text : List ℕ)
    → AtCon setup old m (λ code con. ShowsRows setup old code (form con)) text new → IsShown setup old new
rows-on setup old new m form text is =
    named-shown setup old new NoConstituency (con_in_target setup m.target.items) (λ code con. ShowsRows setup old code (form con)) text
    (λ code con shows. rows-came setup old new code shows.0 shows.1) is

-- what an answer on a route is
pub of-kind : (setup : List Constituency) (old new : Option State) (r : Route) (m : Message) (text : List ℕ)
    → IsAnswerOn setup old r m text new → IsOfKind (kind r) setup old m text new
of-kind setup old new route.Progress m text is = asked setup old new ShowProgress HasProgressText text progress-brings (progress-idle text) is
of-kind setup old new route.Return m text is =
    named-shown setup old new NoStation (station_in_target setup m.target.items) (λ code con. Asks setup old (ShowReturn code) (HasReturnText code)) text
    (λ code con. asked setup old new (ShowReturn code) (HasReturnText code) text (return-brings code) (return-idle code text)) is
of-kind setup old new route.Con m text is =
    named-shown setup old new NoConstituency (con_in_target setup m.target.items) (λ code con. Asks setup old (ShowCon code) (HasConText con)) text
    (λ code con. asked setup old new (ShowCon code) (HasConText con) text (con-brings code) (con-idle con text)) is
of-kind setup old new (route.Report which) m text is = report-on setup old new m which text is
of-kind setup old new route.Returns m text is = rows-on setup old new m returns_answer text is
of-kind setup old new route.Stations m text is = rows-on setup old new m stations_answer text is
of-kind setup old new route.Country m text is = all-came setup old new is.0 is.1
of-kind setup old new route.Result m text is =
    named-shown setup old new NoConstituency (con_in_target setup m.target.items) (λ code con. Asks setup old (ShowCon code) (HasResultText con)) text
    (λ code con. asked setup old new (ShowCon code) (HasResultText con) text (con-brings code) (result-idle con text)) is
of-kind setup old new route.Results m text is = whole-came setup old new is.0 is.1
of-kind setup old new (route.OnStation command) m text is = is
of-kind setup old new (route.OnCon command) m text is = is
of-kind setup old new (route.Import sep) m text is = is
of-kind setup old new (route.Trial sep) m text is =
    named-shown setup old new NoConstituency (con_in_target setup m.target.items) (λ code con. TriesBody setup old con sep m) text
    (λ code con tried. tried-came setup old new tried.0 tried.1 tried.4) is
