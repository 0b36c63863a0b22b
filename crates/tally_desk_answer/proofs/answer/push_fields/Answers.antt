use Rattle.std.proofs.Common.{◌++◌, List, ℕ, ap, ◌∙◌, append_assoc, codes, sym}
use Rattle.tally_desk_answer.specs.Answer.{type_line, length_line, allow_line, close_line}
use Rattle.tally_desk_answer.proofs.AppendLemmas.{three}
use Rattle.tally_desk_answer.proofs.answer.push_fields.Goals as goal

pub returns-clause-items : goal.returns-clause-items
returns-clause-items c =
    let old = c.args.out.now.items in
    let kind = type_line c.args.body in
    let length = length_line c.args.length in
    let allow = allow_line c.args.status in
    let last = codes "Connection: close\r\n\r\n" in
    let before = c.push_length.ensures.items ∙ ap (λ (l : List ℕ). l ++ length) c.push_type.ensures.items in
    let fields = c.push.ensures.items ∙ ap (λ (l : List ℕ). l ++ c.allow_of.result.now) before ∙ ap (λ (l : List ℕ). old ++ kind ++ length ++ l) c.allow_of.ensures.line ∙ three old kind length allow in
    c.push-2.ensures.items ∙ ap (λ (l : List ℕ). l ++ last) fields ∙ append_assoc old (kind ++ length ++ allow) last
    ∙ ap (λ (l : List ℕ). old ++ l) (sym (append_assoc (kind ++ length ++ allow) close_line (codes "\r\n")))
