use Rattle.std.proofs.Common.{◌∙◌, [], ap}
use Rattle.tally_report_result.specs.Values.{gone_value}
use Rattle.tally_report_result.proofs.ArrayLemmas.{value_more}
use Rattle.tally_report_result.proofs.candidates.gone_values.Goals as goal

pub loop-candidate-preserved : goal.loop-candidate-preserved
loop-candidate-preserved c =
    let con = c.args.con.now in
    value_more (gone_value con) c.args.gone.now c.loop-candidate.candidate-index c.candidate-item.result [] c.loop-candidate.values.items _ c.in_ok-gone_value.field-0 c.loop-candidate-test.true c.in_ok-push.ensures.items
    (c.in_ok-gone_value.ensures ∙ ap (gone_value con) c.candidate-item.is) c.loop-candidate.invariant
