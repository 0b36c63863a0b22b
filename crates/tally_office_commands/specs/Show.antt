-- What the office shows as text, and why it does not. Nothing changes; only a disk that fails may
-- shut a keeper meanwhile.
use Rattle.std.specs.Prelude.{◌≡◌, ℕ, List, Option, Some, None, Ok, Err, Vec}
use Rattle.std.specs.declared.alloc.Global.{Global}
use Rattle.tally_setup.specs.Constituency.{Constituency}
use Rattle.tally_setup.specs.Setup.{constituency_with}
use Rattle.tally_returns.specs.State.{State}
use Rattle.tally_returns.specs.View.{View}
use Rattle.tally_returns.specs.declared.ask.Ask.{Ask}
use Rattle.tally_returns.specs.declared.ask.Ask.TheVariants.{ShowCon, ShowProgress}
use Rattle.tally_returns.specs.declared.progress.ProgressRow.{ProgressRow}
use Rattle.tally_returns.specs.declared.refusal.Refusal.TheVariants as refusal
use Rattle.tally_returns.specs.declared.reply.Reply.{Reply}
use Rattle.tally_returns.specs.declared.reply.Reply.TheVariants as reply
use Rattle.tally_returns.specs.declared.station_row.StationRow.{StationRow}
use Rattle.tally_keeper.specs.Keeper.{Happens, request}
use Rattle.tally_keeper.specs.Shown.{ShowsReturns}
use Rattle.tally_report_overview.specs.Views.{ShowsAll}
use Rattle.tally_report_overview.specs.CountryText.{country_text}
use Rattle.tally_report_overview.specs.ProgressText.{progress_text}
use Rattle.tally_report.specs.declared.fault.ReportFault.{ReportFault}
use Rattle.tally_report.specs.declared.fault.ReportFault.TheVariants as fault
use Rattle.tally_report.specs.Reports.{IsReport, report_fault}
use Rattle.tally_report_names.specs.declared.report.Report.{Report}
use Rattle.tally_report_overview.specs.StationsReport.{stations_report}
use Rattle.tally_report_names.specs.declared.shown.StationsReport.{StationsReport}
use Rattle.tally_office_trouble.specs.declared.trouble.Trouble.{Trouble}
use Rattle.tally_office_trouble.specs.declared.trouble.Trouble.TheVariants as trouble

-- A request shows this, and changes nothing.
abbrev pub Shows : List Constituency → Option State → Ask → Reply → Option State → Type 0
Shows setup old ask shown new = Happens setup old (request ask (Ok shown)) new × (new ≡ old)

-- ---- reports

-- the trouble of a report that is not given
abbrev pub report_trouble : ReportFault → Trouble
report_trouble fault.NotCertified = trouble.NotCertified
report_trouble fault.OtherMethod = trouble.OtherMethod
report_trouble fault.Memory = trouble.Memory

-- The report is given, and this is its text.
abbrev pub IsGiven : Constituency → View → Report → List ℕ → Type 0
IsGiven con view which text = (report_fault con view which ≡ None) × IsReport con view which text

-- The text is the report of the constituency of this code, by what it has come to.
abbrev pub IsReportShown : List Constituency → Option State → List ℕ → Report → List ℕ
    → Option State → Type 0
IsReportShown setup old code which text new =
    (con : Constituency) × (view : View) × (constituency_with code setup ≡ Some con)
    × Shows setup old (ShowCon code) (reply.Con view) new × IsGiven con view which text

-- Why a report is not given, by what the constituency of this code has come to.
abbrev pub HasFault : List Constituency → Option State → List ℕ → Report → ReportFault
    → Option State → Type 0
HasFault setup old code which why new =
    (con : Constituency) × (view : View) × (constituency_with code setup ≡ Some con)
    × Shows setup old (ShowCon code) (reply.Con view) new × (report_fault con view which ≡ Some why)

-- No constituency has the code; there is a fault of the report; it is out of memory, or the
-- database failed. No other trouble comes.
abbrev pub IsReportTrouble : List Constituency → Option State → List ℕ → Report → Trouble
    → Option State → Type 0
IsReportTrouble setup old code which trouble.NoConstituency new =
    (constituency_with code setup ≡ None) × (new ≡ old)
IsReportTrouble setup old code which trouble.NotCertified new =
    HasFault setup old code which fault.NotCertified new
IsReportTrouble setup old code which trouble.OtherMethod new =
    HasFault setup old code which fault.OtherMethod new
IsReportTrouble setup old code which trouble.Memory new =
    Happens setup old (request (ShowCon code) (Err refusal.Memory)) new
IsReportTrouble setup old code which trouble.Store new =
    Happens setup old (request (ShowCon code) (Err refusal.Store)) new
IsReportTrouble setup old code which other new = ⊥

-- ---- progress

-- The text shows how far each constituency has come.
abbrev pub IsProgressShown : List Constituency → Option State → List ℕ → Option State → Type 0
IsProgressShown setup old text new =
    (rows : Vec ProgressRow Global) × Shows setup old ShowProgress (reply.Progress rows) new
    × (text ≡ progress_text rows.items)

-- It is out of memory, or the database failed.
abbrev pub IsProgressTrouble : List Constituency → Option State → Trouble → Option State → Type 0
IsProgressTrouble setup old trouble.Memory new =
    Happens setup old (request ShowProgress (Err refusal.Memory)) new
IsProgressTrouble setup old trouble.Store new =
    Happens setup old (request ShowProgress (Err refusal.Store)) new
IsProgressTrouble setup old other new = ⊥

-- ---- the stations of a constituency

-- The text is a report of the constituency of this code, by the rows of its stations.
abbrev pub AreStationsShown : List Constituency → Option State → List ℕ → StationsReport → List ℕ
    → Option State → Type 0
AreStationsShown setup old code which text new =
    (con : Constituency) × (rows : Vec StationRow Global)
    × (constituency_with code setup ≡ Some con)
    × ShowsReturns setup old code (Ok rows) new × (text ≡ stations_report which con rows.items)

-- No constituency has the code, it is out of memory, or the database failed.
abbrev pub IsStationsTrouble : List Constituency → Option State → List ℕ → Trouble → Option State
    → Type 0
IsStationsTrouble setup old code trouble.NoConstituency new =
    (constituency_with code setup ≡ None) × (new ≡ old)
IsStationsTrouble setup old code trouble.Memory new =
    ShowsReturns setup old code (Err refusal.Memory) new
IsStationsTrouble setup old code trouble.Store new =
    ShowsReturns setup old code (Err refusal.Store) new
IsStationsTrouble setup old code other new = ⊥

-- ---- the country

-- The text is that of all constituencies, by what each has come to.
abbrev pub IsCountryShown : List Constituency → Option State → List ℕ → Option State → Type 0
IsCountryShown setup old text new =
    (views : Vec View Global) × ShowsAll setup old (Ok views) new
    × (text ≡ country_text setup views.items)

-- It is out of memory, or the database failed.
abbrev pub IsCountryTrouble : List Constituency → Option State → Trouble → Option State → Type 0
IsCountryTrouble setup old trouble.Memory new = ShowsAll setup old (Err refusal.Memory) new
IsCountryTrouble setup old trouble.Store new = ShowsAll setup old (Err refusal.Store) new
IsCountryTrouble setup old other new = ⊥
