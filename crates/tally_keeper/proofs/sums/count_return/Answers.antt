use Rattle.std.proofs.Common.{◌≡◌, ◌∙◌, true, sym, ap, subst}
use Rattle.tally_returns.specs.Progress.{is_closed}
use Rattle.tally_returns.specs.Return.{StationReturn}
use Rattle.tally_returns.specs.View.{View}
use Rattle.tally_keeper.specs.internal.Sums.{CanMoveCounts}
use Rattle.tally_keeper.proofs.SumLemmas.{counts-after_status}
use Rattle.tally_keeper.proofs.sums.count_return.Goals as goal

pub count_votes-requires : goal.count_votes-requires
count_votes-requires c =
    let counts = c.standing.inside.counts in
    let closed : is_closed c.args.standing.now.status ≡ true = ap (λ (r : StationReturn). is_closed r.status) (sym c.standing.view_is) ∙ ap is_closed c.in-Closed.is in
    let can : CanMoveCounts c.args.view.now counts c.args.add = subst (λ (r : StationReturn). CanMoveCounts c.args.view.now r.counts c.args.add) (sym c.standing.view_is) (c.requires.counts closed) in
    subst (λ (v : View). CanMoveCounts v counts c.args.add) (sym c.count_status.ensures) (counts-after_status c.args.view.now c.standing.inside.status counts c.args.add can)
