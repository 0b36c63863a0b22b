use Rattle.std.proofs.Common.{◌++◌, List, ℕ, ap, ◌∙◌, append_assoc}
use Rattle.tally_desk_answer.specs.Answer.{status_line, fields_text}
use Rattle.tally_desk_answer.proofs.answer.push_head.Goals as goal

pub returns-clause-items : goal.returns-clause-items
returns-clause-items c =
    let fields = fields_text c.args.status c.args.body c.args.length in
    c.push_fields.ensures.items ∙ ap (λ (l : List ℕ). l ++ fields) c.push_status.ensures.items
    ∙ append_assoc c.args.out.now.items (status_line c.args.status) fields
