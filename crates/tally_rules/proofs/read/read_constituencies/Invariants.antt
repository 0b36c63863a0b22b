use Rattle.std.proofs.Common.{◌≡◌, ◌≤◌, All, length, vec_capacity}
use Rattle.tally_setup.specs.Codes.{AreDistinct}
use Rattle.tally_setup.specs.Limits.{IsConstituency}
use Rattle.tally_rules.specs.Reading.{constituency_entry}
use Rattle.tally_setup.specs.Setup.{constituency_codes, all_station_codes}
use Rattle.tally_rules.proofs.ReadLemmas.{IsReadTo}
use Rattle.tally_rules.proofs.read.read_constituencies.Given as goal

abbrev pub invariant-loop-con : goal.invariant-loop-con
invariant-loop-con l =
    IsReadTo (constituency_entry l.profiles) l.entries l.cons.items l.con-index
    × (l.codes ≡ constituency_codes l.cons.items)
    × (l.stations ≡ all_station_codes l.cons.items)
    × AreDistinct l.codes
    × AreDistinct l.stations
    × All IsConstituency l.cons.items
    × (length l.entries ≤ vec_capacity l.cons)
