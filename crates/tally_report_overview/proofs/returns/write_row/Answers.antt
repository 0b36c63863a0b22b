use Rattle.csv.specs.Records.{fields_of}
use Rattle.tally_report_overview.proofs.WritingLemmas.{row-added}
use Rattle.tally_report_overview.proofs.returns.write_row.Goals as goal

pub returns-clause-text : goal.returns-clause-text
returns-clause-text c = λ text has.
    row-added c.write.new.writer text (fields_of c.fill_return.new.fields) c.args.row.now c.in-Some.standing c.in-Some.is c.in_ok-fill_return.ensures (c.in_ok-write.ensures.text text has)
