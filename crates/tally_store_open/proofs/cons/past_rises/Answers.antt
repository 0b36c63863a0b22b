use Rattle.std.proofs.Common.{sym, ◌∙◌, arith}
use Rattle.std.specs.Ordering.{nat_cmp}
use Rattle.tally_store_open.specs.internal.Found.{past_edition}
use Rattle.tally_store_open.proofs.RiseLemmas.{rises_end, rises_step}
use Rattle.tally_store_open.proofs.cons.past_rises.Goals as goal

pub loop-i-preserved : goal.loop-i-preserved
loop-i-preserved c =
    rises_step nat_cmp past_edition c.args.past.now c.loop-i.i c.index-past-i.result c.index-past-i-in-loop-i.result (omega (arith, c.loop-i.auto.i)) c.loop-i-test.true c.index-past-i.is c.index-past-i-in-loop-i.is (sym c.is_earlier.ensures ∙ c.if-not-is_earlier.false)
    ∙ c.loop-i.invariant

pub returns : goal.returns
returns c = sym (rises_end nat_cmp past_edition c.args.past.now c.loop-i.i c.loop-i-test.false) ∙ c.loop-i.invariant
