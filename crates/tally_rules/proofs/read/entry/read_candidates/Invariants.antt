use Rattle.std.proofs.Common.{◌≤◌, ◌+◌, length, map, string_bytes, All, vec_capacity}
use Rattle.tally_rules.specs.Reading.{candidate}
use Rattle.tally_setup.specs.Text.{IsName}
use Rattle.tally_rules.proofs.ReadLemmas.{IsReadTo}
use Rattle.tally_rules.proofs.read.entry.read_candidates.Given as goal

abbrev pub invariant-loop-name : goal.invariant-loop-name
invariant-loop-name l =
    IsReadTo (λ before. candidate l.con l.list (length before + 1)) l.entries (map string_bytes l.names.items) l.name-index
    × All IsName (map string_bytes l.names.items)
    × (length l.entries ≤ vec_capacity l.names)
