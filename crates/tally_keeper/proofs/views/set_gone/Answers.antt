use Rattle.std.proofs.Common.{◌≡◌, ◌∙◌, Result, Ok, Err, ap}
use Rattle.std.specs.Prelude.{OnErr}
use Rattle.tally_returns.specs.View.{View}
use Rattle.tally_returns.specs.contracts.view.ConView.{the_view}
use Rattle.tally_keeper.specs.internal.Rows.{views_of, with_gone}
use Rattle.tally_keeper.proofs.TreeLemmas.{not_written, with_view-same, written}
use Rattle.tally_keeper.proofs.views.set_gone.Goals as goal

pub returns-in_default-clause-put : goal.returns-in_default-clause-put
returns-in_default-clause-put c =
    not_written c.args.views.now c.get_mut.follows.lender-at-none c.args.con (λ view. record view { gone = with_gone c.args.gone view.gone }) c.in_default.ensures.value c.get_mut.follows.holds-at-none

pub returns-clause-put : goal.returns-clause-put
returns-clause-put c =
    let change : View → View = λ view. record view { gone = with_gone c.args.gone view.gone } in
    let before : View = the_view c.view.inside in
    let after : View = record before { gone = c.put_gone.new.gone.items } in
    let is : after ≡ change before = λ i. record before { gone = c.in_ok-put_gone.ensures.put i } in
    written c.args.views.now (c.get_mut.follows.lender after) c.args.con c.in-Some.view.now change after c.in-Some.ensures.value (is ∙ ap change c.view.view_is) (c.get_mut.follows.holds after)

on_err : {X E P : Type 0} (r : Result X E) → P → OnErr r P
on_err (Ok x) p = tt
on_err (Err e) p = p

pub returns-in_err-put_gone-clause-kept : goal.returns-in_err-put_gone-clause-kept
returns-in_err-put_gone-clause-kept c =
    let before : View = the_view c.view.inside in
    let after : View = record before { gone = c.put_gone.new.gone.items } in
    let is : after ≡ before = λ i. record before { gone = c.in_err-put_gone.ensures.kept i } in
    on_err c.from_residual.result
    (written c.args.views.now (c.get_mut.follows.lender after) c.args.con c.in-Some.view.now (λ view. view) after c.in-Some.ensures.value (is ∙ c.view.view_is) (c.get_mut.follows.holds after)
    ∙ with_view-same (views_of c.args.views.now) c.args.con)
