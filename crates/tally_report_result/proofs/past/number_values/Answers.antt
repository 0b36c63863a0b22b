use Rattle.std.proofs.Common.{[]}
use Rattle.tally_report_result.specs.Values.{whole}
use Rattle.tally_report_result.proofs.ArrayLemmas.{value_more}
use Rattle.tally_report_result.proofs.past.number_values.Goals as goal

pub loop-number-preserved : goal.loop-number-preserved
loop-number-preserved c =
    value_more whole c.args.numbers.now c.loop-number.number-index 0 [] c.loop-number.values.items _ c.from.result c.loop-number-test.true c.in_ok-push.ensures.items c.from.ensures c.loop-number.invariant
