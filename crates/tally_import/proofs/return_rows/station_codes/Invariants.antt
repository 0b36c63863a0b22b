use Rattle.std.proofs.Common.{◌≡◌, ℕ, List, drop}
use Rattle.std.specs.Prelude.{◌||◌}
use Rattle.std.specs.HashSet.{contains}
use Rattle.std.specs.List.{list_any}
use Rattle.std.specs.Str.{bytes_eq}
use Rattle.tally_setup.specs.Constituency.{station_codes}
use Rattle.tally_import.proofs.return_rows.station_codes.Given as goal

abbrev pub invariant-loop-station : goal.invariant-loop-station
invariant-loop-station l = (q : List ℕ)
    → (contains bytes_eq l.codes q || list_any (bytes_eq q) (station_codes (drop l.station-index l.stations))) ≡ list_any (bytes_eq q) (station_codes l.stations)
