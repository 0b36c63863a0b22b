use Rattle.tally_report_result.specs.Values.{empty_seat}
use Rattle.tally_report_result.specs.internal.Found.{data_of}
use Rattle.tally_report_result.proofs.ArrayLemmas.{again_more}
use Rattle.tally_report_result.proofs.candidates.push_empty.Goals as goal

pub loop-preserved : goal.loop-preserved
loop-preserved c =
    again_more (empty_seat c.args.list.now) c.loop.counter (data_of c.args.values.now.items) c.loop.values.items _ c.in_ok-empty_seat.field-0 c.in_ok-push.ensures.items c.in_ok-empty_seat.ensures c.loop.invariant
