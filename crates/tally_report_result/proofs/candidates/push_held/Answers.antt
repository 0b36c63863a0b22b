use Rattle.tally_report_result.specs.Values.{holder_value}
use Rattle.tally_report_result.specs.internal.Found.{data_of}
use Rattle.tally_report_result.proofs.ArrayLemmas.{value_more}
use Rattle.tally_report_result.proofs.candidates.push_held.Goals as goal

pub loop-place-preserved : goal.loop-place-preserved
loop-place-preserved c =
    value_more (holder_value c.args.list.now) c.args.held.now c.loop-place.place-index 0 (data_of c.args.values.now.items) c.loop-place.values.items _ c.in_ok-holder_value.field-0 c.loop-place-test.true c.in_ok-push.ensures.items c.in_ok-holder_value.ensures c.loop-place.invariant
