use Rattle.std.proofs.Common.{◌∙◌, ap}
use Rattle.tally_desk_answer.specs.Shown.{shown_gone}
use Rattle.tally_desk_answer.proofs.ShownLemmas.{shown_next}
use Rattle.tally_desk_answer.proofs.show.put_gone.Goals as goal

pub loop-gone-preserved : goal.loop-gone-preserved
loop-gone-preserved c =
    let lists = c.args.lists.now in
    let one = c.gone-item.result in
    shown_next (shown_gone lists) c.args.all.now c.loop-gone.gone-index one c.loop-gone.items.items _ c.in_ok-gone_value.field-0 c.loop-gone-test.true c.in_ok-push.ensures.items
    (c.in_ok-gone_value.ensures ∙ ap (shown_gone lists) c.gone-item.is) c.loop-gone.invariant
