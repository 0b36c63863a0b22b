use Rattle.std.proofs.Common.{arith}
use Rattle.tally_report_overview.proofs.WritingLemmas.{all-written, begun, one-more}
use Rattle.tally_report_overview.proofs.returns.returns_text.Goals as goal

pub loop-row-init : goal.loop-row-init
loop-row-init c = begun _ _ _ c.in_ok-fill_header.ensures (c.in_ok-write.ensures.text _ c.new_writer-writer.ensures)

pub loop-row-preserved : goal.loop-row-preserved
loop-row-preserved c =
    one-more c.write_row.new.writer c.args.con.now c.args.rows.now c.loop-row.row-index c.row-item.result c.loop-row-test.true c.row-item.is
    (c.in_ok-write_row.ensures.text _ c.loop-row.invariant)

pub returns-clause-text : goal.returns-clause-text
returns-clause-text c =
    all-written c.finish.result c.loop-row.writer c.args.con.now c.args.rows.now c.loop-row.row-index (omega arith) c.loop-row.invariant c.finish.ensures.text
