use Rattle.std.proofs.Common.{◌++◌, List, ℕ, ap, sym, ◌∙◌}
use Rattle.tally_desk_answer.proofs.RefusalLemmas.{body-numbered}
use Rattle.tally_desk_answer.proofs.outcome.push_refusal.Goals as goal

pub returns-in_default-clause-items : goal.returns-in_default-clause-items
returns-in_default-clause-items c =
    c.push_members.ensures.items
    ∙ ap (λ (l : List ℕ). c.args.out.now.items ++ l) (sym (body-numbered c.args.lists.now c.args.refusal.now c.in_default.not-Memory c.in_default.not-Store))
