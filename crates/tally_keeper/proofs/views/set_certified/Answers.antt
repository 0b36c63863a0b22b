use Rattle.std.proofs.Common.{◌≡◌, ◌<◌, ◌+◌, ◌^◌, true, ap, arith}
use Rattle.tally_returns.specs.View.{View}
use Rattle.tally_returns.specs.contracts.view.ConView.{the_view}
use Rattle.tally_keeper.proofs.TreeLemmas.{not_written, of_lent, written}
use Rattle.tally_keeper.proofs.views.set_certified.Goals as goal

pub overflow_add-view : goal.overflow_add-view
overflow_add-view c =
    let room : c.in-Some.view.now.edition + 1 < 2 ^ 32 = of_lent c.args.views.now c.args.con c.in-Some.view.now (λ (view : View). view.edition + 1 < 2 ^ 32) c.in-Some.ensures.value c.requires in
    let same : c.view.inside.edition ≡ c.in-Some.view.now.edition = ap (λ (view : View). view.edition) c.view.view_is in
    omega (arith, room, same)

pub returns-in-Some : goal.returns-in-Some
returns-in-Some c =
    let change : View → View = λ view. record view { edition = view.edition + 1; certified = true; seats = c.args.seats.items } in
    let before : View = the_view c.view.inside in
    let after : View = record before { edition = c.view.inside.edition + 1; certified = true; seats = c.args.seats.items } in
    written c.args.views.now (c.get_mut.follows.lender after) c.args.con c.in-Some.view.now change after c.in-Some.ensures.value
    (ap change c.view.view_is) (c.get_mut.follows.holds after)

pub returns-in_default : goal.returns-in_default
returns-in_default c =
    not_written c.args.views.now c.get_mut.follows.lender-at-none c.args.con (λ view. record view { edition = view.edition + 1; certified = true; seats = c.args.seats.items }) c.in_default.ensures.value c.get_mut.follows.holds-at-none
