use Rattle.std.proofs.Common.{◌++◌, List, ℕ, ap, ◌∙◌, codes}
use Rattle.tally_desk_answer.specs.Answer.{type_name}
use Rattle.tally_desk_answer.proofs.AppendLemmas.{three}
use Rattle.tally_desk_answer.proofs.answer.push_type.Goals as goal

pub returns-clause-items : goal.returns-clause-items
returns-clause-items c =
    let old = c.args.out.now.items in
    let first = codes "Content-Type: " in
    let last = codes "\r\n" in
    c.push-3.ensures.items
    ∙ ap (λ (l : List ℕ). l ++ last) (c.push-2.ensures.items ∙ ap (λ (l : List ℕ). l ++ c.name_of.result.now) c.push.ensures.items ∙ ap (λ (l : List ℕ). old ++ first ++ l) c.name_of.ensures.name)
    ∙ three old first (type_name c.args.body) last
