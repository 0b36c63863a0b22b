use Rattle.std.proofs.Common.{◌+◌, ap}
use Rattle.tally_frac.specs.Limits.{most_votes}
use Rattle.tally_report_overview.specs.internal.Totals.{IsAdded}
use Rattle.tally_report_overview.proofs.TotalLemmas.{added-is, added-within}
use Rattle.tally_report_overview.proofs.country.add_list.Goals as goal

pub returns : goal.returns
returns c =
    let added : IsAdded c.args.code c.args.seats c.args.votes c.args.totals.now c.insert.new.self =
    added-is c.args.code c.args.totals.now c.insert.new.self _ c.in_ok-insert.ensures.updates c.args.seats c.args.votes
    (ap (λ n. n + c.args.seats) c.total_of-total.ensures.seats) (ap (λ n. n + c.args.votes) c.total_of-total.ensures.votes) in record {
      added = added;
      within = added-within c.args.code c.args.seats c.args.votes most_votes c.args.totals.now c.insert.new.self c.requires.seats c.requires.votes added;
    }
