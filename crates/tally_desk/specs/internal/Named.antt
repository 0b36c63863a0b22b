-- The lists of what a command is on, or none.
use Rattle.std.specs.Prelude.{List, []}
use Rattle.std.specs.Option.{option_map_or}
use Rattle.tally_setup.specs.Constituency.{Constituency, ListEntry}
use Rattle.tally_setup.specs.Setup.{constituency_with, station_with}
use Rattle.tally_desk.specs.declared.named.Subject.{Subject}
use Rattle.tally_desk.specs.declared.named.Subject.TheVariants as on

abbrev pub lists_of : List Constituency → Subject → List ListEntry
lists_of setup (on.Station code) =
    option_map_or (λ place. place.0.lists) (station_with code setup) []
lists_of setup (on.Con code) =
    option_map_or (λ (con : Constituency). con.lists) (constituency_with code setup) []
