use Rattle.std.proofs.Common.{◌∙◌, ◌-◌, ◌++◌, [], ◌∷◌, ℕ, get_or, sym, ap, arith}
use Rattle.std.proofs.lemmas.List.FromFn.{map-range_with_len_more}
use Rattle.tally_report_allotment.specs.internal.Counting.{votes_less}
use Rattle.tally_report_allotment.proofs.decisive.votes_less.Goals as goal

pub loop-list-preserved : goal.loop-list-preserved
loop-list-preserved c =
    let votes = c.args.votes.now in
    let by = c.args.by.now in
    let list = c.loop-list.list in
    c.in_ok-push.ensures.items
    ∙ ap (λ rest. rest ++ (get_or votes list 0 - c.from.result) ∷ []) c.loop-list.invariant
    ∙ ap (λ n. votes_less list votes by ++ (get_or votes list 0 - n) ∷ []) c.from.ensures
    ∙ sym (map-range_with_len_more (λ (k : ℕ). get_or votes k 0 - get_or by k 0) 0 list list (omega arith))
