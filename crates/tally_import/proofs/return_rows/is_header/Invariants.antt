use Rattle.std.proofs.Common.{◌≡◌, ◌+◌, drop}
use Rattle.std.specs.Cmp.Lexicographic.{pointwise}
use Rattle.csv.specs.Records.{fields_of}
use Rattle.tally_setup.specs.Constituency.{list_codes}
use Rattle.tally_import.specs.Header.{same_text}
use Rattle.tally_import.specs.ReturnRows.{is_header}
use Rattle.tally_import.proofs.return_rows.is_header.Given as goal

abbrev pub invariant-loop-place : goal.invariant-loop-place
invariant-loop-place l =
    is_header (list_codes l.lists) (fields_of l.fields) ≡ pointwise same_text (drop (4 + l.place) (fields_of l.fields)) (drop l.place (list_codes l.lists))
