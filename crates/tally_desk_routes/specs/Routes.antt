-- The routes of the desk, as `matchit` reads and finds them, the method that each takes (RFC 9110,
-- section 9), and the code in a target.
use Rattle.std.specs.Prelude.{◌≡◌, ℕ, Bool, true, false, if◌then◌else◌, List, [], ◌∷◌, codes}
use Rattle.std.specs.Prelude.{length, Option, Some, None, Result, Ok, Err, IsUtf8, take, drop}
use Rattle.std.specs.Prelude.{position, bytes_eq, ◌==◌}
use Rattle.std.specs.Option.{option_and_then}
use Rattle.matchit.specs.Rows.{RowsOf}
use Rattle.matchit.specs.Order.{placed}
use Rattle.matchit.specs.Seek.{first}
use Rattle.matchit.specs.Route.{Scan, parse_route}
use Rattle.matchit.specs.Router.{RouteOf, route_from}
use Rattle.matchit.specs.declared.error.InsertError.{InsertError}
use Rattle.tally_setup.specs.Code.{code_of}
use Rattle.tally_import_records.specs.declared.separator.Sep.TheVariants as separator
use Rattle.tally_report_names.specs.declared.report.Report.TheVariants as report
use Rattle.tally_desk_routes.specs.declared.routes.ConCommand.TheVariants as on_con
use Rattle.tally_desk_routes.specs.declared.routes.Route.{Route}
use Rattle.tally_desk_routes.specs.declared.routes.Route.TheVariants as route
use Rattle.tally_desk_routes.specs.declared.routes.StationCommand.TheVariants as on_station

-- the routes of the whole office and of a station
abbrev pub station_routes : List (List ℕ × Route)
station_routes =
    (codes "/progress", route.Progress)
    ∷ (codes "/country", route.Country)
    ∷ (codes "/results", route.Results)
    ∷ (codes "/station/{s}", route.Return)
    ∷ (codes "/station/{s}/lodge", route.OnStation on_station.Lodge)
    ∷ (codes "/station/{s}/query", route.OnStation on_station.Query)
    ∷ (codes "/station/{s}/correct", route.OnStation on_station.Correct)
    ∷ (codes "/station/{s}/close", route.OnStation on_station.Close)
    ∷ (codes "/station/{s}/confirm", route.OnStation on_station.Confirm)
    ∷ []

-- what is shown of a constituency
abbrev pub con_routes : List (List ℕ × Route)
con_routes =
    (codes "/con/{c}", route.Con)
    ∷ (codes "/con/{c}/tally", route.Report report.Tally)
    ∷ (codes "/con/{c}/seats", route.Report report.Seats)
    ∷ (codes "/con/{c}/quotients", route.Report report.Quotients)
    ∷ (codes "/con/{c}/awards", route.Report report.Awards)
    ∷ (codes "/con/{c}/quota", route.Report report.Quota)
    ∷ (codes "/con/{c}/short", route.Report report.Short)
    ∷ (codes "/con/{c}/holders", route.Report report.Holders)
    ∷ (codes "/con/{c}/past", route.Report report.Past)
    ∷ (codes "/con/{c}/provisional", route.Report report.Provisional)
    ∷ (codes "/con/{c}/returns", route.Returns)
    ∷ (codes "/con/{c}/stations", route.Stations)
    ∷ (codes "/con/{c}/result", route.Result)
    ∷ []

-- the commands on a constituency, the imports into it and their trials
abbrev pub command_routes : List (List ℕ × Route)
command_routes =
    (codes "/con/{c}/draw", route.OnCon on_con.Draw)
    ∷ (codes "/con/{c}/certify", route.OnCon on_con.Certify)
    ∷ (codes "/con/{c}/reopen", route.OnCon on_con.Reopen)
    ∷ (codes "/con/{c}/vacate", route.OnCon on_con.Vacate)
    ∷ (codes "/con/{c}/import", route.Import separator.Comma)
    ∷ (codes "/con/{c}/import/semicolon", route.Import separator.Semicolon)
    ∷ (codes "/con/{c}/trial", route.Trial separator.Comma)
    ∷ (codes "/con/{c}/trial/semicolon", route.Trial separator.Semicolon)
    ∷ []

abbrev pub RouteRows : Type 0
RouteRows = RowsOf (RouteOf Route)

-- the rows with one more route, as `matchit` places it
abbrev pub with_scan : RouteRows → Route → Result Scan InsertError → RouteRows
with_scan rows route (Ok scan) = placed (scan.pattern, route_from scan route) rows
with_scan rows route (Err fault) = rows

unfoldable pub with_route : RouteRows → (List ℕ × Route) → RouteRows
with_route rows entry = with_scan rows entry.1 (parse_route entry.0)

abbrev pub with_routes : RouteRows → List (List ℕ × Route) → RouteRows
with_routes rows [] = rows
with_routes rows (entry ∷ table) = with_routes (with_route rows entry) table

abbrev pub desk_rows : RouteRows
desk_rows = with_routes (with_routes (with_routes [] station_routes) con_routes) command_routes

-- The route of a target; one that is not UTF-8 has none.
abbrev pub IsRouted : List ℕ → Option (RouteOf Route) → Type 0
IsRouted target (Some found) = IsUtf8 target × (first desk_rows target ≡ Some found)
IsRouted target None = IsUtf8 target → first desk_rows target ≡ None

-- whether a route takes GET; the others take POST
abbrev pub takes_get : Route → Bool
takes_get route.Progress = true
takes_get route.Return = true
takes_get route.Con = true
takes_get (route.Report which) = true
takes_get route.Returns = true
takes_get route.Stations = true
takes_get route.Country = true
takes_get route.Result = true
takes_get route.Results = true
takes_get (route.OnStation command) = false
takes_get (route.OnCon command) = false
takes_get (route.Import sep) = false
takes_get (route.Trial sep) = false

-- the method that a route takes
abbrev pub route_method : Route → List ℕ
route_method route = if takes_get route then codes "GET" else codes "POST"

-- the bytes before the first slash, or all of them
abbrev pub up_to : List ℕ → Option ℕ → List ℕ
up_to text (Some n) = take n text
up_to text None = text

abbrev pub before_slash : List ℕ → List ℕ
before_slash text = up_to text (position (λ b. b == 47) text)

-- what follows a prefix, where the text begins with it
abbrev pub rest_after : List ℕ → List ℕ → Option (List ℕ)
rest_after prefix text =
    if bytes_eq (take (length prefix) text) prefix
    then Some (drop (length prefix) text)
    else None

-- the code in a target between a prefix and the next slash, or the end
abbrev pub code_after : List ℕ → List ℕ → Option (List ℕ)
code_after prefix target =
    option_and_then (λ rest. code_of (before_slash rest)) (rest_after prefix target)

-- the station that a target names
abbrev pub station_of_target : List ℕ → Option (List ℕ)
station_of_target target = code_after (codes "/station/") target

-- the constituency that a target names
abbrev pub con_of_target : List ℕ → Option (List ℕ)
con_of_target target = code_after (codes "/con/") target
