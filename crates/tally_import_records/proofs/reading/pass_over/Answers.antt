use Rattle.std.proofs.Common.{arith}
use Rattle.tally_import_records.specs.internal.Reading.{rows_left}
use Rattle.tally_import_records.proofs.PassedLemmas.{left-more, left-none}
use Rattle.tally_import_records.proofs.reading.pass_over.Goals as goal

pub returns-then-not-branch-clause-all : goal.returns-then-not-branch-clause-all
returns-then-not-branch-clause-all c enough =
    let inv = c.loop-passed.invariant in
    let few = left-none (rows_left c.args.reader.now) _ c.loop-passed.passed inv.left (rw c.if-not-branch.true at c.in_ok-next_record.ensures.record) in
    absurd (omega (arith, few, enough))

pub loop-passed-preserved : goal.loop-passed-preserved
loop-passed-preserved c =
    let inv = c.loop-passed.invariant in
    let more = left-more (rows_left c.args.reader.now) _ _ c.loop-passed.passed _ inv.left (rw c.if-not-branch.false at c.in_ok-next_record.ensures.record) in
    record {
      reading = c.in_ok-next_record.ensures.reading c.if-not-branch.false;
      left = more.2;
    }
