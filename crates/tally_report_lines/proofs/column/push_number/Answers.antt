use Rattle.tally_report_lines.proofs.ColumnLemmas.{number-is}
use Rattle.tally_report_lines.proofs.column.push_number.Goals as goal

pub returns : goal.returns
returns c = rw (← number-is c.args.width c.args.n) (rw c.laid_out.ensures at c.write.ensures.bytes)
