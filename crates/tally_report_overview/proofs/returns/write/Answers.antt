use Rattle.std.proofs.Common.{◌≢◌}
use Rattle.csv.specs.Records.{fields_of}
use Rattle.csv.specs.Writing.{writer_setup}
use Rattle.csv.specs.declared.writer.QuoteStyle.TheVariants as style
use Rattle.tally_report_overview.proofs.WritingLemmas.{written}
use Rattle.tally_report_overview.proofs.returns.write.Goals as goal

pub returns-clause-text : goal.returns-clause-text
returns-clause-text c = λ text has.
    let plain : (writer_setup c.args.writer.now).style ≢ style.NonNumeric = rw has.setup (λ e. cc e) in
    let adds = rw c.as_byte_record.ensures at (c.in-Ok.ensures.bytes has.fields has.wrote plain) in
    written c.args.writer.now c.write_byte_record.new.self text (fields_of c.args.fields.now) has adds c.in-Ok.ensures.setup c.in-Ok.ensures.ended c.in-Ok.ensures.clean
