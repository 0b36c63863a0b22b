use Rattle.std.proofs.Common.{◌≡◌, ◌≤◌, All, length, vec_capacity}
use Rattle.tally_setup.specs.Codes.{AreDistinct}
use Rattle.tally_setup.specs.Limits.{IsListEntry}
use Rattle.tally_setup.specs.Constituency.{list_codes}
use Rattle.tally_rules.specs.Reading.{list_entry}
use Rattle.tally_rules.proofs.ReadLemmas.{IsReadTo}
use Rattle.tally_rules.proofs.read.entry.read_lists.Given as goal

abbrev pub invariant-loop-list : goal.invariant-loop-list
invariant-loop-list l =
    IsReadTo (λ before. list_entry l.con (list_codes before)) l.entries l.lists.items l.list-index
    × (l.codes ≡ list_codes l.lists.items)
    × AreDistinct l.codes
    × All IsListEntry l.lists.items
    × (length l.entries ≤ vec_capacity l.lists)
