-- What a route asks of the office and what it answers: the bytes of the answer, and the state then.
-- The office's own part, what happens to it, is the machine's: a refused command changes nothing,
-- and so does one that was not accepted, unless a disk that failed has shut the office.
use Rattle.std.specs.Prelude.{◌≡◌, ℕ, List, [], Option, Some, None, option_and_then, option_map}
use Rattle.std.specs.Prelude.{Vec, Result, Ok, Err, OnOk, ◌++◌}
use Rattle.std.specs.declared.alloc.Global.{Global}
use Rattle.serde_json.specs.Data.{Data}
use Rattle.serde_json.specs.Written.{compact_text}
use Rattle.tally_setup.specs.Constituency.{Constituency, ListEntry, list_codes}
use Rattle.tally_setup.specs.Setup.{constituency_with, station_with}
use Rattle.tally_returns.specs.AskSeen.{AskSeen, ask_seen}
use Rattle.tally_returns.specs.State.{State}
use Rattle.tally_returns.specs.View.{View}
use Rattle.tally_returns.specs.declared.ask.Ask.{Ask}
use Rattle.tally_returns.specs.declared.ask.Ask.TheVariants as ask
use Rattle.tally_returns.specs.declared.refusal.Refusal.{Refusal}
use Rattle.tally_returns.specs.declared.refusal.Refusal.TheVariants as refusal
use Rattle.tally_returns.specs.declared.reply.Reply.{Reply}
use Rattle.tally_returns.specs.declared.reply.Reply.TheVariants as reply
use Rattle.tally_returns.specs.declared.station_row.StationRow.{StationRow}
use Rattle.tally_keeper.specs.Keeper as keeper
use Rattle.tally_returns_rows.specs.NamedRows.{NamesRows}
use Rattle.tally_keeper.specs.Shown.{ShowsReturns}
use Rattle.tally_returns_rows.specs.Source.{Delivery}
use Rattle.tally_returns_rows.specs.declared.import.ImportCount.{ImportCount}
use Rattle.tally_returns_rows.specs.declared.import.NamedRow.{NamedRow}
use Rattle.tally_returns_rows.specs.declared.source.ImportFault.{ImportFault}
use Rattle.tally_returns_rows.specs.declared.source.ImportFault.TheVariants as cause
use Rattle.tally_import_records.specs.declared.separator.Sep.{Sep}
use Rattle.tally_import.specs.CountLines.{count_text}
use Rattle.tally_import.specs.ReturnRows.{text_coming}
use Rattle.tally_import.specs.RowLines.{row_lines}
use Rattle.tally_report_overview.specs.CountryText.{country_text}
use Rattle.tally_report_overview.specs.ProgressText.{progress_text}
use Rattle.tally_report_overview.specs.ReturnsText.{returns_text}
use Rattle.tally_report_overview.specs.StationsText.{stations_text}
use Rattle.tally_report_names.specs.declared.report.Report.{Report}
use Rattle.tally_desk_message.specs.declared.message.Message.{Message}
use Rattle.tally_desk_routes.specs.Routes.{con_of_target, station_of_target}
use Rattle.tally_desk_routes.specs.Bodies.{IsBody}
use Rattle.tally_desk_answer.specs.declared.status.AnswerStatus.TheVariants as status
use Rattle.tally_desk_answer.specs.declared.status.BodyType.TheVariants as body
use Rattle.tally_desk_answer.specs.declared.word.Word.{Word}
use Rattle.tally_desk_answer.specs.declared.word.Word.TheVariants as word
use Rattle.tally_desk_answer.specs.Answer.{answer_text}
use Rattle.tally_desk_answer.specs.Import.{import_text}
use Rattle.tally_desk_answer.specs.Outcome.{outcome_text}
use Rattle.tally_desk_answer.specs.Shown.{shown_con, shown_return}
use Rattle.tally_desk_answer.specs.Words.{word_text}
use Rattle.tally_desk.specs.Reports.{IsReportText}
use Rattle.tally_report_overview.specs.Views.{ShowsAll, ShowsAllWhole}
use Rattle.tally_report_result.specs.Result.{AreResultsText, IsResultText}

-- ---- answers of the desk itself, which leave the state

-- an answer that is a word alone
abbrev pub Says : Option State → Word → List ℕ → Option State → Type 0
Says old w text new = (text ≡ word_text w) × (new ≡ old)

-- the answer that a refusal has, of what the setup does not have
abbrev pub refusal_text : Refusal → List ℕ
refusal_text why = outcome_text [] (Err why)

abbrev pub Refuses : Option State → Refusal → List ℕ → Option State → Type 0
Refuses old why text new = (text ≡ refusal_text why) × (new ≡ old)

-- ---- what the path names

-- a code, and the constituency that it is of
abbrev pub Named : Type 0
Named = List ℕ × Constituency

-- the station that a target names, and its constituency
abbrev pub station_in_target : List Constituency → List ℕ → Option Named
station_in_target setup target =
    option_and_then (λ code. option_map (λ place. (code, place.0)) (station_with code setup))
    (station_of_target target)

-- the constituency that a target names
abbrev pub con_in_target : List Constituency → List ℕ → Option Named
con_in_target setup target =
    option_and_then (λ code. option_map (λ con. (code, con)) (constituency_with code setup))
    (con_of_target target)

-- Which answer there is, and which state is left: a statement on the two.
abbrev pub MessageAnswer : Type 1
MessageAnswer = List ℕ → Option State → Type 0

-- what is answered where the path names this, or nothing that the setup has
abbrev pub AtNamed :
    Refusal → Option State → Option Named → (List ℕ → Constituency → MessageAnswer) → MessageAnswer
AtNamed why old None IsAnswer text new = Refuses old why text new
AtNamed why old (Some named) IsAnswer text new = IsAnswer named.0 named.1 text new

abbrev pub AtStation :
    List Constituency → Option State → Message → (List ℕ → Constituency → MessageAnswer)
    → MessageAnswer
AtStation setup old m = AtNamed refusal.NoStation old (station_in_target setup m.target.items)

abbrev pub AtCon :
    List Constituency → Option State → Message → (List ℕ → Constituency → MessageAnswer)
    → MessageAnswer
AtCon setup old m = AtNamed refusal.NoConstituency old (con_in_target setup m.target.items)

-- ---- requests

-- A request is made of the office, and what it is answered has this text.
abbrev pub Asks :
    List Constituency → Option State → Ask → (Result Reply Refusal → List ℕ → Type 0)
    → MessageAnswer
Asks setup old a HasText text new =
    (r : Result Reply Refusal) × keeper.Happens setup old (keeper.request a r) new × HasText r text

-- a command on a constituency with these lists, or on a station of one
abbrev pub Commands : List Constituency → Option State → List ListEntry → Ask → MessageAnswer
Commands setup old lists a = Asks setup old a (λ r t. t ≡ outcome_text lists r)

-- the command that a body is, or a bad body
abbrev pub OrdersOf : List Constituency → Option State → Constituency → Option AskSeen
    → MessageAnswer
OrdersOf setup old con None text new = Says old word.BadBody text new
OrdersOf setup old con (Some seen) text new =
    (a : Ask) × (ask_seen a ≡ seen) × Commands setup old con.lists a text new

-- the command that the message's body is, by what each JSON value is
abbrev pub Orders :
    List Constituency → Option State → Constituency → (Data → Option AskSeen) → Message
    → MessageAnswer
Orders setup old con command m text new =
    (value : Option Data) × IsBody m.body.items value
    × OrdersOf setup old con (option_and_then command value) text new

-- ---- what is shown

-- the return of a station, as JSON
abbrev pub HasReturnText : List ℕ → Result Reply Refusal → List ℕ → Type 0
HasReturnText code (Ok (reply.Return kept)) text =
    text ≡ answer_text status.Done body.Json (compact_text (shown_return code kept))
HasReturnText code (Ok other) text = ⊥
HasReturnText code (Err why) text = text ≡ refusal_text why

abbrev pub ShowsReturn : List Constituency → Option State → List ℕ → MessageAnswer
ShowsReturn setup old code = Asks setup old (ask.ShowReturn code) (HasReturnText code)

-- a constituency, as JSON
abbrev pub HasConText : Constituency → Result Reply Refusal → List ℕ → Type 0
HasConText con (Ok (reply.Con view)) text =
    text ≡ answer_text status.Done body.Json (compact_text (shown_con con view))
HasConText con (Ok other) text = ⊥
HasConText con (Err why) text = text ≡ refusal_text why

abbrev pub ShowsCon : List Constituency → Option State → Constituency → List ℕ → MessageAnswer
ShowsCon setup old con code = Asks setup old (ask.ShowCon code) (HasConText con)

-- a report of a constituency, as plain text
abbrev pub HasReportText : Constituency → Report → Result Reply Refusal → List ℕ → Type 0
HasReportText con which (Ok (reply.Con view)) text = IsReportText con view which text
HasReportText con which (Ok other) text = ⊥
HasReportText con which (Err why) text = text ≡ refusal_text why

abbrev pub Reports : List Constituency → Option State → Constituency → List ℕ → Report
    → MessageAnswer
Reports setup old con code which = Asks setup old (ask.ShowCon code) (HasReportText con which)

-- how far each constituency has come, as plain text
abbrev pub HasProgressText : Result Reply Refusal → List ℕ → Type 0
HasProgressText (Ok (reply.Progress rows)) text =
    text ≡ answer_text status.Done body.Text (progress_text rows.items)
HasProgressText (Ok other) text = ⊥
HasProgressText (Err why) text = text ≡ refusal_text why

abbrev pub ShowsProgress : List Constituency → Option State → MessageAnswer
ShowsProgress setup old = Asks setup old ask.ShowProgress HasProgressText

-- what is shown of the stations of a constituency, in this form, or the refusal
abbrev pub HasRowsText :
    (List StationRow → List ℕ) → Result (Vec StationRow Global) Refusal → List ℕ → Type 0
HasRowsText form (Ok rows) text = text ≡ form rows.items
HasRowsText form (Err why) text = text ≡ refusal_text why

abbrev pub ShowsRows : List Constituency → Option State → List ℕ → (List StationRow → List ℕ)
    → MessageAnswer
ShowsRows setup old code form text new =
    (r : Result (Vec StationRow Global) Refusal) × ShowsReturns setup old code r new
    × HasRowsText form r text

-- the returns of a constituency, as CSV
abbrev pub returns_answer : Constituency → List StationRow → List ℕ
returns_answer con rows = answer_text status.Done body.Csv (returns_text con rows)

abbrev pub PublishesReturns : List Constituency → Option State → Constituency → List ℕ
    → MessageAnswer
PublishesReturns setup old con code = ShowsRows setup old code (returns_answer con)

-- the stations of a constituency, as plain text
abbrev pub stations_answer : Constituency → List StationRow → List ℕ
stations_answer con rows = answer_text status.Done body.Text (stations_text con rows)

abbrev pub ShowsStations : List Constituency → Option State → Constituency → List ℕ → MessageAnswer
ShowsStations setup old con code = ShowsRows setup old code (stations_answer con)

-- all constituencies together, as plain text
abbrev pub HasCountryText : List Constituency → Result (Vec View Global) Refusal → List ℕ → Type 0
HasCountryText setup (Ok views) text =
    text ≡ answer_text status.Done body.Text (country_text setup views.items)
HasCountryText setup (Err why) text = text ≡ refusal_text why

abbrev pub ShowsCountry : List Constituency → Option State → MessageAnswer
ShowsCountry setup old text new =
    (r : Result (Vec View Global) Refusal) × ShowsAll setup old r new × HasCountryText setup r text

-- ---- results

-- the result of a constituency in one answer, as JSON
abbrev pub IsResultAnswer : Constituency → View → List ℕ → Type 0
IsResultAnswer con view text =
    (shown : List ℕ) × IsResultText con view shown
    × (text ≡ answer_text status.Done body.Json shown)

abbrev pub HasResultText : Constituency → Result Reply Refusal → List ℕ → Type 0
HasResultText con (Ok (reply.Con view)) text = IsResultAnswer con view text
HasResultText con (Ok other) text = ⊥
HasResultText con (Err why) text = text ≡ refusal_text why

abbrev pub ShowsResult : List Constituency → Option State → Constituency → List ℕ → MessageAnswer
ShowsResult setup old con code = Asks setup old (ask.ShowCon code) (HasResultText con)

-- the results of all constituencies, of one state, as a JSON array
abbrev pub AreResultsAnswer : List Constituency → List View → List ℕ → Type 0
AreResultsAnswer setup views text =
    (shown : List ℕ) × AreResultsText setup views shown
    × (text ≡ answer_text status.Done body.Json shown)

abbrev pub HasResultsText : List Constituency → Result (Vec View Global) Refusal → List ℕ → Type 0
HasResultsText setup (Ok views) text = AreResultsAnswer setup views.items text
HasResultsText setup (Err why) text = text ≡ refusal_text why

abbrev pub ShowsResults : List Constituency → Option State → MessageAnswer
ShowsResults setup old text new =
    (r : Result (Vec View Global) Refusal) × ShowsAllWhole setup old r new
    × HasResultsText setup r text

-- ---- imports

-- what is answered where an import was not done
abbrev pub import_word : ImportFault → Word
import_word cause.BadHeader = word.BadHeader
import_word cause.TooLong = word.TooLong
import_word cause.Read = word.Unavailable
import_word cause.Memory = word.Unavailable
import_word cause.Store = word.Unavailable

abbrev pub imported_text : Result ImportCount ImportFault → List ℕ
imported_text (Ok count) = import_text count
imported_text (Err fault) = word_text (import_word fault)

-- A text is imported into a constituency as rows of CSV (RFC 4180) with this separator.
abbrev pub ImportsText :
    List Constituency → Option State → Constituency → Sep → List ℕ → MessageAnswer
ImportsText setup old con sep csv text new =
    (d : Delivery) × (r : Result ImportCount ImportFault)
    × keeper.ImportsComing setup old (Some (text_coming con sep csv)) d r new
    × (text ≡ imported_text r)

-- the same of the body of a message
abbrev pub ImportsBody : List Constituency → Option State → Constituency → Sep → Message
    → MessageAnswer
ImportsBody setup old con sep m = ImportsText setup old con sep m.body.items

-- ---- trials of imports

-- the six lines of an import, and a line for each row that it names, under a header of these lists
abbrev pub trial_lines : List (List ℕ) → ImportCount → List NamedRow → List ℕ
trial_lines lists count named = count_text count ++ row_lines lists named

abbrev pub trial_text : List (List ℕ) → Result ImportCount ImportFault → List NamedRow → List ℕ
trial_text lists (Ok count) named =
    answer_text status.Done body.Text (trial_lines lists count named)
trial_text lists (Err fault) named = word_text (import_word fault)

-- What the import of a text would come to now, and which rows it would name. The state stays.
abbrev pub TriesText :
    List Constituency → Option State → Constituency → Sep → List ℕ → MessageAnswer
TriesText setup old con sep csv text new =
    (d : Delivery) × (r : Result ImportCount ImportFault) × (named : List NamedRow)
    × (d.start.coming ≡ Some (text_coming con sep csv)) × keeper.Tries setup old d r new
    × OnOk r (NamesRows setup old d [] named)
    × (text ≡ trial_text (list_codes con.lists) r named)

-- the same of the body of a message
abbrev pub TriesBody : List Constituency → Option State → Constituency → Sep → Message
    → MessageAnswer
TriesBody setup old con sep m = TriesText setup old con sep m.body.items
