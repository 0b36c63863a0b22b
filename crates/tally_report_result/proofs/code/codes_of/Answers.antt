use Rattle.std.proofs.Common.{[]}
use Rattle.tally_report_result.specs.Values.{code_value}
use Rattle.tally_report_result.proofs.ArrayLemmas.{value_more}
use Rattle.tally_report_result.proofs.code.codes_of.Goals as goal

pub loop-place-preserved : goal.loop-place-preserved
loop-place-preserved c =
    value_more (code_value c.args.con.now) c.args.places.now c.loop-place.place-index 0 [] c.loop-place.values.items _ c.in_ok-code_value.field-0 c.loop-place-test.true c.in_ok-push.ensures.items c.in_ok-code_value.ensures c.loop-place.invariant
