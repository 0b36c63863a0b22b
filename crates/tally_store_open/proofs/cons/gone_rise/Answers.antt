use Rattle.std.proofs.Common.{sym, ◌∙◌, arith}
use Rattle.tally_store_schema.specs.Rows.{text_cmp}
use Rattle.tally_store_open.specs.internal.Found.{gone_places}
use Rattle.tally_store_open.proofs.RiseLemmas.{before_is, rises_end, rises_step}
use Rattle.tally_store_open.proofs.cons.gone_rise.Goals as goal

pub loop-i-preserved : goal.loop-i-preserved
loop-i-preserved c =
    rises_step text_cmp gone_places c.args.gone.now c.loop-i.i c.index-gone-i.result c.index-gone-i-in-loop-i.result (omega (arith, c.loop-i.auto.i)) c.loop-i-test.true c.index-gone-i.is c.index-gone-i-in-loop-i.is (sym (before_is c.index-gone-i.result c.index-gone-i-in-loop-i.result) ∙ sym c.is_before.ensures ∙ c.if-not-is_before.false)
    ∙ c.loop-i.invariant

pub returns : goal.returns
returns c = sym (rises_end text_cmp gone_places c.args.gone.now c.loop-i.i c.loop-i-test.false) ∙ c.loop-i.invariant
