use Rattle.std.proofs.Common.{◌≡◌, drop}
use Rattle.tally_import_records.specs.internal.Reading.{IsReading, rows_left}
use Rattle.tally_import_records.proofs.reading.pass_over.Given as goal

abbrev pub invariant-loop-passed : goal.invariant-loop-passed
invariant-loop-passed l = record {
  reading : IsReading l.reader;
  left : rows_left l.reader ≡ drop l.passed (rows_left l.fn.reader);
}
