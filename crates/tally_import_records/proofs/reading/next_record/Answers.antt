use Rattle.std.proofs.Common.{subst}
use Rattle.csv.specs.Reading.{ReadRecord}
use Rattle.csv.specs.Records.{fields_of}
use Rattle.tally_import_records.specs.internal.Text.{text_left}
use Rattle.tally_import_records.proofs.ReadingLemmas.{rows_left-next, IsReading-next}
use Rattle.tally_import_records.proofs.reading.next_record.Goals as goal

pub returns-clause-reading : goal.returns-clause-reading
returns-clause-reading c found =
    let read = c.in-Ok.ensures in
    let reads = read.reads c.requires.untrimmed c.requires.ready in
    let new = c.read_byte_record.new in
    IsReading-next c.args.reader.now new.self (fields_of new.row) c.requires (read.ready c.requires.untrimmed) read.flexible
    (subst (λ b. ReadRecord text_left c.args.reader.now new.self b (fields_of new.row)) found reads)

pub returns-clause-record : goal.returns-clause-record
returns-clause-record c =
    rows_left-next c.args.reader.now c.read_byte_record.new.self c.in-Ok.found (fields_of c.read_byte_record.new.row) c.requires
    (c.in-Ok.ensures.reads c.requires.untrimmed c.requires.ready)
