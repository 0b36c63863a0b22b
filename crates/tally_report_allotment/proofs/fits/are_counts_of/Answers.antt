use Rattle.std.proofs.Common.{◌≤◌, ◌∙◌, sym, arith}
use Rattle.tally_returns.specs.Counts.{all_votes}
use Rattle.tally_returns.proofs.CountsLemmas.{all_votes-counts}
use Rattle.tally_report_allotment.proofs.fits.are_counts_of.Goals as goal

pub all_votes-requires : goal.all_votes-requires
all_votes-requires c =
    let few : all_votes c.args.counts.now ≤ 62000000 =
    all_votes-counts c.args.lists c.args.counts.now c.requires (sym c.are_for.ensures ∙ c.if-not-are_for.false) in
    omega arith
