use Rattle.std.proofs.Common.{◌≡◌, ◌∙◌, [], ap}
use Rattle.tally_returns.specs.View.{View}
use Rattle.tally_returns.specs.contracts.view.ConView.{the_view}
use Rattle.tally_keeper.proofs.TreeLemmas.{not_written, written}
use Rattle.tally_keeper.proofs.views.drop_lot.Goals as goal

pub returns-in-Some : goal.returns-in-Some
returns-in-Some c =
    let before : View = the_view c.view.inside in
    let after : View = record before { lot = c.clear.new.self.items } in
    let is : after ≡ record before { lot = [] } = λ i. record before { lot = c.clear.ensures.items i } in
    written c.args.views.now (c.get_mut.follows.lender after) c.args.con c.in-Some.view.now (λ view. record view { lot = [] }) after c.in-Some.ensures.value
    (is ∙ ap (λ (view : View). record view { lot = [] }) (c.view.view_is)) (c.get_mut.follows.holds after)

pub returns-in_default : goal.returns-in_default
returns-in_default c = not_written c.args.views.now c.get_mut.follows.lender-at-none c.args.con (λ view. record view { lot = [] }) c.in_default.ensures.value c.get_mut.follows.holds-at-none
