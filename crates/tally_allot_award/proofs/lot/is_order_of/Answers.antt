use Rattle.std.proofs.Common.{◌≤◌, length, sym, refl, arith}
use Rattle.std.proofs.lemmas.Bool.{false≢true}
use Rattle.tally_allot_award.proofs.Struck.{all_left, one_struck, no_order_then, order_if_none_left, none_left_of_order}
use Rattle.tally_allot_award.proofs.lot.is_order_of.Goals as goal

pub loop-i-init : goal.loop-i-init
loop-i-init c = all_left c.args.group.now c.args.lot.now

pub loop-i-preserved : goal.loop-i-preserved
loop-i-preserved c =
    let loop = c.loop-i in
    one_struck c.args.group.now c.args.lot.now loop.i loop.left loop.invariant _ (sym c.if-not-strike.ensures.had) (c.if-not-strike.ensures.struck refl)

pub returns-then-not-strike : goal.returns-then-not-strike
returns-then-not-strike c =
    let loop = c.loop-i in
    ((λ t. absurd (false≢true t)), λ o. absurd (no_order_then c.args.group.now c.args.lot.now loop.i loop.left loop.invariant (omega arith) (sym c.if-not-strike.ensures.had) o))

pub returns : goal.returns
returns c =
    let loop = c.loop-i in
    let past : length c.args.lot.now ≤ loop.i = omega arith in
    ((λ t. order_if_none_left c.args.group.now c.args.lot.now loop.i loop.left loop.invariant past (c.is_empty.ensures.0 t)), λ o. c.is_empty.ensures.1 (none_left_of_order c.args.group.now c.args.lot.now loop.i loop.left loop.invariant past o))
