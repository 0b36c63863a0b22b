-- What the steps of an answer leave is an answer.
use Rattle.std.proofs.Common.{◌≡◌, ◌∙◌, ℕ, List, [], Option, Some, None, Result, Ok, Err, IfSome, IsSome, OnOk, OnErr, option_map, option_and_then, refl, sym, ap, subst, true≢false}
use Rattle.std.specs.List.{AllZip}
use Rattle.std.specs.Option.{option_map_or}
use Rattle.serde_json.specs.Data.{Data}
use Rattle.tally_setup.specs.Constituency.{Constituency, ListEntry, list_codes}
use Rattle.tally_setup.specs.Setup.{constituency_with, station_with}
use Rattle.tally_setup.specs.declared.constituency.Station.{Station}
use Rattle.tally_desk_answer.specs.Answer.{answer_text}
use Rattle.tally_desk_answer.specs.declared.status.AnswerStatus.TheVariants.{Done}
use Rattle.tally_desk_answer.specs.declared.status.BodyType.TheVariants.{Json, Text}
use Rattle.tally_report.specs.Fault.{IsRefused, divisors_fault}
use Rattle.tally_report.specs.Reports.{IsEnoughFor, IsReport, report_fault}
use Rattle.tally_report.specs.declared.fault.ReportFault.{ReportFault}
use Rattle.tally_report_names.specs.declared.report.Report.{Report}
use Rattle.tally_report_names.specs.declared.report.Report.TheVariants as report
use Rattle.tally_returns.specs.AskSeen.{AskSeen, ask_seen}
use Rattle.tally_returns.specs.PastSeats.{PastSeats}
use Rattle.tally_returns.specs.State.{State}
use Rattle.tally_returns.specs.View.{View}
use Rattle.tally_returns.specs.declared.ask.Ask.{Ask}
use Rattle.tally_returns.specs.declared.refusal.Refusal.TheVariants.{NoConstituency, NoStation}
use Rattle.tally_machine_law.specs.Outcome.{IsLawfulView, rule_in}
use Rattle.tally_keeper.specs.Keeper.{Tries}
use Rattle.tally_returns_rows.specs.NamedRows.{NamesRows}
use Rattle.tally_keeper.specs.Shown.{ShowsReturns}
use Rattle.tally_returns_rows.specs.Source.{Delivery}
use Rattle.tally_returns_rows.specs.declared.import.ImportCount.{ImportCount}
use Rattle.tally_returns_rows.specs.declared.import.NamedRow.{NamedRow}
use Rattle.tally_returns_rows.specs.declared.source.ImportFault.{ImportFault}
use Rattle.tally_import_records.specs.declared.separator.Sep.{Sep}
use Rattle.tally_import.specs.ReturnRows.{text_coming}
use Rattle.tally_returns.specs.declared.station_row.StationRow.{StationRow}
use Rattle.tally_desk.specs.Reports.{IsReportText, IsReportTextBy}
use Rattle.tally_report_result.specs.Result.{AreResultsText, IsResultText}
use Rattle.tally_report_overview.specs.Views.{HasPastIf, is_past}
use Rattle.tally_report_overview.proofs.ViewLemmas.{same-provisional, same-quotients}
use Rattle.tally_desk_message.specs.declared.message.Message.{Message}
use Rattle.tally_desk_routes.specs.Routes.{con_of_target, station_of_target}
use Rattle.tally_desk_routes.specs.Bodies.{IsBody, IsCommand}
use Rattle.std.proofs.Common.{Vec, Global}
use Rattle.tally_desk.specs.internal.Gives.{Gives, OrdersRead}
use Rattle.tally_desk.specs.declared.named.Subject.TheVariants as on
use Rattle.tally_desk.specs.internal.Named.{lists_of}
use Rattle.tally_desk.specs.Requests.{AreResultsAnswer, Commands, IsResultAnswer, Named, AtCon, AtNamed, AtStation, Orders, OrdersOf, con_in_target, station_in_target, TriesText, trial_text}

-- ---- what is shown

-- The text that is answered is that of the whole view: the two compute to the same, but for
-- quotients, which go by the rule, for provisional seats, which go by their
-- status, and for the report that shows the certificates.
pub text-whole : (which : Report) (con : Constituency) (view : View) (past : List PastSeats) (text : List ℕ) → HasPastIf (is_past which) past (Ok view) → IsReportText con view which text → IsReportText con (record view { past = past }) which text
text-whole report.Quotients con view past text has is =
    subst (λ (q : List ℕ). IsReportTextBy (divisors_fault con view) (λ t. t ≡ q) text) (same-quotients (rule_in con) con view past) is
text-whole report.Past con view past text has is = subst (λ (p : List PastSeats). IsReportText con (record view { past = p }) report.Past text) has is
text-whole report.Provisional con view past text has is = (is.0, same-provisional con view past is.0 is.1, is.2)
text-whole other con view past text has is = is

-- nothing changed where stations were shown
pub kept-rows : (setup : List Constituency) (old new : Option State) (con : List ℕ) (rows : Vec StationRow Global) → ShowsReturns setup old con (Ok rows) new → new ≡ old
kept-rows setup (Some s) (Some t) con rows is = ap Some is.0
kept-rows setup (Some s) None con rows is = absurd is
kept-rows setup None (Some t) con rows is = absurd is
kept-rows setup None None con rows is = absurd is

-- ---- what a path names

abbrev code_in : Option Named → Option (List ℕ)
code_in named = option_map (λ (n : Named). n.0) named

found-con : (setup : List Constituency) (c code : List ℕ) (o : Option Constituency) → constituency_with c setup ≡ o → code_in (option_map (λ (con : Constituency). (c, con)) o) ≡ Some code
    → (con : Constituency) × (constituency_with c setup ≡ Some con) × (c ≡ code)
found-con setup c code None e h = cc
found-con setup c code (Some con) e h = (con, e, cc)

found-station : (setup : List Constituency) (c code : List ℕ) (o : Option (Constituency × Station)) → station_with c setup ≡ o → code_in (option_map (λ (place : Constituency × Station). (c, place.0)) o) ≡ Some code
    → (place : Constituency × Station) × (station_with c setup ≡ Some place) × (c ≡ code)
found-station setup c code None e h = cc
found-station setup c code (Some place) e h = (place, e, cc)

abbrev con_at : List Constituency → List ℕ → Option Named
con_at setup code = option_map (λ (con : Constituency). (code, con)) (constituency_with code setup)

abbrev station_at : List Constituency → List ℕ → Option Named
station_at setup code = option_map (λ (place : Constituency × Station). (code, place.0)) (station_with code setup)

con-named : (setup : List Constituency) (target code : List ℕ) → code_in (con_in_target setup target) ≡ Some code
    → (con : Constituency) × (con_in_target setup target ≡ Some (code, con)) × (constituency_with code setup ≡ Some con)
con-named setup target code is = go (con_of_target target) refl is
  where
    go : (o : Option (List ℕ)) → con_of_target target ≡ o → code_in (option_and_then (con_at setup) o) ≡ Some code
        → (con : Constituency) × (con_in_target setup target ≡ Some (code, con)) × (constituency_with code setup ≡ Some con)
    go None e h = cc
    go (Some c) e h =
        let f = found-con setup c code (constituency_with c setup) refl h in (
          f.0,
          ap (option_and_then (con_at setup)) e ∙ ap (option_map (λ (con : Constituency). (c, con))) f.1 ∙ ap (λ (q : List ℕ). Some (q, f.0)) f.2,
          subst (λ (q : List ℕ). constituency_with q setup ≡ Some f.0) f.2 f.1,
        )

station-named : (setup : List Constituency) (target code : List ℕ) → code_in (station_in_target setup target) ≡ Some code
    → (place : Constituency × Station) × (station_in_target setup target ≡ Some (code, place.0)) × (station_with code setup ≡ Some place)
station-named setup target code is = go (station_of_target target) refl is
  where
    go : (o : Option (List ℕ)) → station_of_target target ≡ o → code_in (option_and_then (station_at setup) o) ≡ Some code
        → (place : Constituency × Station) × (station_in_target setup target ≡ Some (code, place.0)) × (station_with code setup ≡ Some place)
    go None e h = cc
    go (Some c) e h =
        let f = found-station setup c code (station_with c setup) refl h in (
          f.0,
          ap (option_and_then (station_at setup)) e ∙ ap (option_map (λ (place : Constituency × Station). (c, place.0))) f.1 ∙ ap (λ (q : List ℕ). Some (q, f.0.0)) f.2,
          subst (λ (q : List ℕ). station_with q setup ≡ Some f.0) f.2 f.1,
        )

abbrev Answering : Type 1
Answering = List ℕ → Constituency → List ℕ → Option State → Type 0

-- an answer on the constituency that was found
pub con-answer : (s setup : List Constituency) (old new : Option State) (m : Message) (t code : List ℕ) (r : Option (List ℕ)) (F : Answering) (text : List ℕ)
    → r ≡ code_in (con_in_target s t) → s ≡ setup → t ≡ m.target.items → r ≡ Some code
    → ((con : Constituency) → constituency_with code setup ≡ Some con → F code con text new) → AtCon setup old m F text new
con-answer s setup old new m t code r F text named setup_is target_is found answer =
    let is : code_in (con_in_target setup m.target.items) ≡ Some code =
    sym (ap (λ x. code_in (con_in_target x t)) setup_is ∙ ap (λ x. code_in (con_in_target setup x)) target_is) ∙ sym named ∙ found in
    let n = con-named setup m.target.items code is in
    subst (λ (o : Option Named). AtNamed NoConstituency old o F text new) (sym n.1) (answer n.0 n.2)

-- an answer on the station that was found
pub station-answer : (s setup : List Constituency) (old new : Option State) (m : Message) (t code : List ℕ) (r : Option (List ℕ)) (F : Answering) (text : List ℕ)
    → r ≡ code_in (station_in_target s t) → s ≡ setup → t ≡ m.target.items → r ≡ Some code
    → ((place : Constituency × Station) → station_with code setup ≡ Some place → F code place.0 text new) → AtStation setup old m F text new
station-answer s setup old new m t code r F text named setup_is target_is found answer =
    let is : code_in (station_in_target setup m.target.items) ≡ Some code =
    sym (ap (λ x. code_in (station_in_target x t)) setup_is ∙ ap (λ x. code_in (station_in_target setup x)) target_is) ∙ sym named ∙ found in
    let n = station-named setup m.target.items code is in
    subst (λ (o : Option Named). AtNamed NoStation old o F text new) (sym n.1) (answer n.0 n.2)

-- ---- commands

order-read : (setup : List Constituency) (old new : Option State) (m : Message) (con : Constituency) (read : Data → Option AskSeen) (body text : List ℕ) (asked : Option Ask)
    (lists : List ListEntry) → body ≡ m.body.items → IsCommand read body (option_map ask_seen asked) → lists ≡ con.lists → OrdersRead setup old lists asked text new
    → Orders setup old con read m text new
order-read setup old new m con read body text None lists body_is (value, is, seen) lists_are said =
    (value, subst (λ (b : List ℕ). IsBody b value) body_is is, subst (λ o. OrdersOf setup old con o text new) seen said)
order-read setup old new m con read body text (Some a) lists body_is (value, is, seen) lists_are asks =
    let commands : Commands setup old con.lists a text new = subst (λ (l : List ListEntry). Commands setup old l a text new) lists_are asks in
    (value, subst (λ (b : List ℕ). IsBody b value) body_is is, subst (λ o. OrdersOf setup old con o text new) seen (a, refl, commands))

pub con-ordered : (setup : List Constituency) (old new : Option State) (m : Message) (con : Constituency) (read : Data → Option AskSeen) (code body text : List ℕ) (asked : Option Ask)
    → body ≡ m.body.items → IsCommand read body (option_map ask_seen asked) → constituency_with code setup ≡ Some con
    → OrdersRead setup old (lists_of setup (on.Con code)) asked text new → Orders setup old con read m text new
con-ordered setup old new m con read code body text asked body_is is found orders =
    order-read setup old new m con read body text asked (lists_of setup (on.Con code)) body_is is
    (ap (λ o. option_map_or (λ (c : Constituency). c.lists) o []) found) orders

pub station-ordered : (setup : List Constituency) (old new : Option State) (m : Message) (place : Constituency × Station) (read : Data → Option AskSeen) (code body text : List ℕ) (asked : Option Ask)
    → body ≡ m.body.items → IsCommand read body (option_map ask_seen asked) → station_with code setup ≡ Some place
    → OrdersRead setup old (lists_of setup (on.Station code)) asked text new → Orders setup old place.0 read m text new
station-ordered setup old new m place read code body text asked body_is is found orders =
    order-read setup old new m place.0 read body text asked (lists_of setup (on.Station code)) body_is is
    (ap (λ o. option_map_or (λ (p : Constituency × Station). p.0.lists) o []) found) orders

-- ---- imports and their trials

-- what is so of the copy of a constituency and of the body is so of the constituency of the path
pub con-copied : (s setup : List Constituency) (m : Message) (con found : Constituency) (code body : List ℕ) (P : Constituency → List ℕ → Type 0) → s ≡ setup
    → constituency_with code s ≡ Some found → body ≡ m.body.items → constituency_with code setup ≡ Some con → P found body → P con m.body.items
con-copied s setup m con found code body P setup_is found_is body_is is holds =
    let both : Some found ≡ Some con = sym (subst (λ x. constituency_with code x ≡ Some found) setup_is found_is) ∙ is in
    let same : found ≡ con = cc in
    subst (λ (c : Constituency). P c m.body.items) same (subst (λ (b : List ℕ). P found b) body_is holds)

-- ---- what a function gives

pub gives : (P : List ℕ → Option State → Type 0) (Q : List ℕ → Type 0) (old new : Option State) (r : Option (Vec ℕ Global)) → IfSome r (λ text. Q text.items)
    → ((text : List ℕ) → Q text → P text new) → new ≡ old → Gives P old r new
gives P Q old new None has answer kept = kept
gives P Q old new (Some text) has answer kept = answer text.items has

-- an answer that follows from what was given follows wherever something was given
pub gives-on : (P Q : List ℕ → Option State → Type 0) (old new : Option State) (r : Option (Vec ℕ Global)) → ((text : List ℕ) → P text new → Q text new) → Gives P old r new → Gives Q old r new
gives-on P Q old new None follows kept = kept
gives-on P Q old new (Some text) follows is = follows text.items is

-- a code finds one constituency, so what is so of that is so of each that it finds
pub of-found : (setup : List Constituency) (code : List ℕ) (found : Constituency) (r : Option (Vec ℕ Global)) (P : Constituency → List ℕ → Type 0) → constituency_with code setup ≡ Some found
    → IfSome r (λ text. P found text.items) → IfSome r (λ text. (con : Constituency) → constituency_with code setup ≡ Some con → P con text.items)
of-found setup code found None P found_is has = tt
of-found setup code found (Some text) P found_is has = λ con is.
    let both : Some found ≡ Some con = sym found_is ∙ is in
    let same : found ≡ con = cc in
    subst (λ (c : Constituency). P c text.items) same has

-- a report that is given has no fault
pub granted : {T : Type 0} (fault : Option ReportFault) (x : T) → IsRefused fault (Ok x) → fault ≡ None
granted None x is = refl
granted (Some fault) x is = cc

-- the text of a report as an answer
pub report-answered : (setup : List Constituency) (code : List ℕ) (con : Constituency) (view : View) (which : Report) (r : Option (Vec ℕ Global)) (shown : List ℕ)
    → constituency_with code setup ≡ Some con → report_fault con view which ≡ None → (IsEnoughFor which con view → IsReport con view which shown) → IfSome r (λ text. text.items ≡ answer_text Done Text shown)
    → IfSome r (λ text. (c : Constituency) → constituency_with code setup ≡ Some c → IsEnoughFor which c view → IsReportText c view which text.items)
report-answered setup code con view which None shown found none report is = tt
report-answered setup code con view which (Some text) shown found none report is =
    of-found setup code con (Some text) (λ c t. IsEnoughFor which c view → IsReportText c view which t) found
    (λ enough. subst (λ f. IsReportTextBy f (IsReport con view which) text.items) (sym none) (shown, report enough, is))

-- the answer to a trial, which only an import that would be done may lack
pub gives-trial : (setup : List Constituency) (old new : Option State) (con : Constituency) (sep : Sep) (csv : List ℕ) (d : Delivery) (r : Result ImportCount ImportFault) (named : List NamedRow)
    (lists : List (List ℕ)) (answer : Option (Vec ℕ Global)) → d.start.coming ≡ Some (text_coming con sep csv) → Tries setup old d r new → OnOk r (NamesRows setup old d [] named)
    → lists ≡ list_codes con.lists → IfSome answer (λ text. text.items ≡ trial_text lists r named) → OnErr r (IsSome answer) → Gives (TriesText setup old con sep csv) old answer new
gives-trial setup old new con sep csv d r named lists (Some text) coming tried names lists_are is failed =
    (d, r, named, coming, tried, names, is ∙ ap (λ codes. trial_text codes r named) lists_are)
gives-trial setup old new con sep csv d (Ok count) named lists None coming tried names lists_are is failed = tried.2
gives-trial setup old new con sep csv d (Err fault) named lists None coming tried names lists_are is failed = absurd (true≢false (sym failed))

-- ---- results

-- the text of a result as an answer
pub result-answered : (con : Constituency) (view : View) (r : Option (Vec ℕ Global)) (shown : List ℕ) → (IsLawfulView con view → IsResultText con view shown)
    → IfSome r (λ text. text.items ≡ answer_text Done Json shown) → IfSome r (λ text. IsLawfulView con view → IsResultAnswer con view text.items)
result-answered con view None shown has is = tt
result-answered con view (Some text) shown has is = λ lawful. (shown, has lawful, is)

pub results-answered : (setup : List Constituency) (views : List View) (r : Option (Vec ℕ Global)) (shown : List ℕ) → (AllZip IsLawfulView setup views → AreResultsText setup views shown)
    → IfSome r (λ text. text.items ≡ answer_text Done Json shown) → IfSome r (λ text. AllZip IsLawfulView setup views → AreResultsAnswer setup views text.items)
results-answered setup views None shown has is = tt
results-answered setup views (Some text) shown has is = λ lawful. (shown, has lawful, is)
