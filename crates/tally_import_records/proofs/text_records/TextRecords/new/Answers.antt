use Rattle.tally_import_records.specs.internal.Text.{bytes_left}
use Rattle.tally_import_records.proofs.WholeLemmas.{some-row}
use Rattle.tally_import_records.proofs.text_records.TextRecords.new.Goals as goal

pub new-requires-3-clause-some : goal.new-requires-3-clause-some
new-requires-3-clause-some c not =
    some-row c.args.sep c.is_none-is_whole.result (bytes_left c.in_ok-text.text) _ c.in_ok-last.ensures not
