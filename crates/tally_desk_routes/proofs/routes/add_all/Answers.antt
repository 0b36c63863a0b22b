use Rattle.std.proofs.Common.{◌∙◌}
use Rattle.tally_desk_routes.proofs.RowLemmas.{added_next}
use Rattle.tally_desk_routes.proofs.routes.add_all.Goals as goal

pub loop-text-preserved : goal.loop-text-preserved
loop-text-preserved c =
    let i = c.loop-text.text-index in
    c.in_ok-add.ensures ∙ added_next c.args.router.now c.args.table.now i _ c.loop-text.router c.loop-text-test.true c.loop-text.invariant
