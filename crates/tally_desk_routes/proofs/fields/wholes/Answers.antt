use Rattle.std.proofs.Common.{◌≡◌, Some, sym, ap, ◌∙◌}
use Rattle.serde_json.specs.View.{view}
use Rattle.tally_desk_routes.specs.Bodies.{as_whole}
use Rattle.tally_desk_routes.proofs.ItemLemmas.{value_all, value_none, value_next}
use Rattle.tally_desk_routes.proofs.fields.wholes.Goals as goal

pub returns-in_default : goal.returns-in_default
returns-in_default c =
    let i = c.loop-value.value-index in
    let d = c.value-item.result in
    sym (value_none as_whole c.args.values.now i d c.loop-value-test.true (ap (λ v. as_whole (view v)) (sym c.value-item.is) ∙ sym c.in_default.ensures))

pub loop-value-preserved : goal.loop-value-preserved
loop-value-preserved c =
    let i = c.loop-value.value-index in
    let d = c.value-item.result in
    let is : as_whole (view _) ≡ Some c.in-Some.number = ap (λ v. as_whole (view v)) (sym c.value-item.is) ∙ sym c.in-Some.ensures in
    value_next as_whole c.args.values.now i d c.loop-value.numbers.items c.in-Some.number c.loop-value-test.true c.loop-value.invariant is ∙ ap Some (sym c.in_ok-push.ensures.items)

pub returns : goal.returns
returns c = value_all as_whole c.args.values.now c.loop-value.value-index c.loop-value.numbers.items c.loop-value-test.false c.loop-value.invariant
