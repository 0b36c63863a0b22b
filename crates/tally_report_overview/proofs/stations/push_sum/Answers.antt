use Rattle.std.proofs.Common.{sum}
use Rattle.tally_report_lines.proofs.ColumnLemmas.{number-is}
use Rattle.tally_report_overview.proofs.stations.push_sum.Goals as goal

pub returns : goal.returns
returns c = rw (← number-is 8 (sum c.args.numbers.now)) (rw (c.laid_out.ensures, c.sum-sum.ensures) at c.write.ensures.bytes)
