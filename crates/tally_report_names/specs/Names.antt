-- The reports of an office, by their names.
use Rattle.std.specs.Prelude.{ℕ, Bool, true, false, if◌then◌else◌, List, Option, Some, None}
use Rattle.std.specs.Prelude.{bytes_eq, codes, option_map}
use Rattle.tally_report_names.specs.declared.report.Report.{Report}
use Rattle.tally_report_names.specs.declared.report.Report.TheVariants as report
use Rattle.tally_report_names.specs.declared.shown.Shown.{Shown}
use Rattle.tally_report_names.specs.declared.shown.Shown.TheVariants as shown
use Rattle.tally_report_names.specs.declared.shown.StationsReport.TheVariants as of_stations

-- the report of a name on the command line
abbrev pub report_named : List ℕ → Option Report
report_named name =
    if bytes_eq name (codes "tally") then Some report.Tally
    else if bytes_eq name (codes "seats") then Some report.Seats
    else if bytes_eq name (codes "quotients") then Some report.Quotients
    else if bytes_eq name (codes "awards") then Some report.Awards
    else if bytes_eq name (codes "quota") then Some report.Quota
    else if bytes_eq name (codes "short") then Some report.Short
    else if bytes_eq name (codes "holders") then Some report.Holders
    else if bytes_eq name (codes "past") then Some report.Past
    else if bytes_eq name (codes "provisional") then Some report.Provisional
    else None

-- what is shown under a name on the command line
abbrev pub shown_named : List ℕ → Option Shown
shown_named name =
    if bytes_eq name (codes "progress") then Some shown.Progress
    else if bytes_eq name (codes "country") then Some shown.Country
    else if bytes_eq name (codes "results") then Some shown.Results
    else if bytes_eq name (codes "result") then Some shown.Result
    else if bytes_eq name (codes "returns") then Some (shown.Stations of_stations.Returns)
    else if bytes_eq name (codes "stations") then Some (shown.Stations of_stations.Stations)
    else option_map shown.Report (report_named name)

-- the progress, the country and the results are of all constituencies, what else is shown is of one
abbrev pub needs_con : Shown → Bool
needs_con shown.Progress = false
needs_con shown.Country = false
needs_con shown.Results = false
needs_con other = true
