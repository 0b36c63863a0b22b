use Rattle.std.proofs.Common.{◌≡◌, ◌<◌, ◌∙◌, ℕ, length, slice_index, sym, ap, subst}
use Rattle.tally_returns.specs.Counts.{VoteCounts}
use Rattle.tally_returns.specs.View.{View}
use Rattle.tally_keeper.specs.MovedSum.{CanMove}
use Rattle.tally_keeper.proofs.sums.count_votes.Goals as goal

pub move_votes-requires-clause-each : goal.move_votes-requires-clause-each
move_votes-requires-clause-each c =
    let votes : c.deref_mut.result.now ≡ c.args.view.now.votes = c.deref_mut.ensures.value ∙ ap (λ (v : View). v.votes) c.view.view_is in
    let by : c.deref.result.now ≡ c.args.counts.now.votes = c.deref.ensures.value ∙ ap (λ (n : VoteCounts). n.votes) c.counts.view_is in
    subst (λ xs. (place : ℕ) → place < length xs → CanMove (slice_index xs place) (slice_index c.deref.result.now place) c.args.add) (sym votes)
    (subst (λ ys. (place : ℕ) → place < length c.args.view.now.votes → CanMove (slice_index c.args.view.now.votes place) (slice_index ys place) c.args.add) (sym by) c.requires.votes)
