use Rattle.std.proofs.Common.{◌≡◌, [], drop}
use Rattle.csv.specs.Records.{fields_of}
use Rattle.tally_import.proofs.HeaderLemmas.{lists_from}
use Rattle.tally_import.proofs.header.lists_in_header.Given as goal

abbrev pub invariant-loop-place : goal.invariant-loop-place
invariant-loop-place l =
    lists_from [] (drop 4 (fields_of l.fields)) ≡ lists_from l.lists.items (drop l.place (fields_of l.fields))
