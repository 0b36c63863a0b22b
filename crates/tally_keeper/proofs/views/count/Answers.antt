use Rattle.tally_returns.specs.View.{View}
use Rattle.tally_keeper.specs.internal.Sums.{CanCount, with_return_counted}
use Rattle.tally_keeper.proofs.TreeLemmas.{not_written, of_lent, written}
use Rattle.tally_keeper.proofs.views.count.Goals as goal

pub count_return-requires : goal.count_return-requires
count_return-requires c = of_lent c.args.views.now c.args.con c.in-Some.view.now (λ (view : View). CanCount view c.args.standing.now c.args.add) c.in-Some.ensures.value c.requires

pub returns-in-Some : goal.returns-in-Some
returns-in-Some c =
    written c.args.views.now (c.get_mut.follows.lender c.count_return.new.view) c.args.con c.in-Some.view.now (λ (view : View). with_return_counted view c.args.standing.now c.args.add) c.count_return.new.view
    c.in-Some.ensures.value c.count_return.ensures (c.get_mut.follows.holds c.count_return.new.view)

pub returns-in_default : goal.returns-in_default
returns-in_default c =
    not_written c.args.views.now c.get_mut.follows.lender-at-none c.args.con (λ (view : View). with_return_counted view c.args.standing.now c.args.add) c.in_default.ensures.value c.get_mut.follows.holds-at-none
