use Rattle.std.proofs.Common.{◌∙◌, ◌++◌, [], ◌∷◌, sym, ap, arith}
use Rattle.std.proofs.lemmas.List.FromFn.{map-range_with_len_more}
use Rattle.tally_returns.specs.View.{votes_at, votes_of_lists}
use Rattle.tally_report_allotment.specs.Recount.{counted}
use Rattle.tally_report_allotment.proofs.counted.votes_of_lists.Goals as goal

pub loop-list-preserved : goal.loop-list-preserved
loop-list-preserved c =
    let counts = counted c.args.returns.now in
    let list = c.loop-list.list in
    c.in_ok-push.ensures.items
    ∙ ap (λ votes. votes ++ c.sum_counted.result ∷ []) c.loop-list.invariant
    ∙ ap (λ n. votes_of_lists list counts ++ n ∷ []) c.sum_counted.ensures
    ∙ sym (map-range_with_len_more (votes_at counts) 0 list list (omega arith))
