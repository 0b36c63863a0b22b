use Rattle.std.proofs.Common.{◌∙◌, [], ap}
use Rattle.tally_report_result.specs.Values.{past_value}
use Rattle.tally_report_result.proofs.ArrayLemmas.{value_more}
use Rattle.tally_report_result.proofs.past.past_values.Goals as goal

pub loop-certificate-preserved : goal.loop-certificate-preserved
loop-certificate-preserved c =
    value_more past_value c.args.past.now c.loop-certificate.certificate-index c.certificate-item.result [] c.loop-certificate.values.items _ c.in_ok-past_value.field-0 c.loop-certificate-test.true c.in_ok-push.ensures.items
    (c.in_ok-past_value.ensures ∙ ap past_value c.certificate-item.is) c.loop-certificate.invariant
