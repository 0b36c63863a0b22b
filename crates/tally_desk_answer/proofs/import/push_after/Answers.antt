use Rattle.std.proofs.Common.{◌++◌, List, ℕ, ap, ◌∙◌, codes, decimal}
use Rattle.tally_desk_answer.proofs.AppendLemmas.{two_behind}
use Rattle.tally_desk_answer.proofs.import.push_after.Goals as goal

pub returns-clause-items : goal.returns-clause-items
returns-clause-items c =
    let old = c.args.out.now.items in
    let i = c.args.count.now in
    let lodged = codes ",\"lodged\":" ++ decimal i.lodged ++ codes ",\"ok\":\"import\",\"refused\":" in
    let refused = decimal i.refused in
    let behind = codes ",\"same\":" in
    let same = decimal i.same in
    let last = codes "}" in
    c.push_around-3.ensures.items
    ∙ ap (λ (l : List ℕ). l ++ (same ++ last)) (c.push_around-2.ensures.items ∙ ap (λ (l : List ℕ). l ++ (refused ++ behind)) c.push_around.ensures.items ∙ two_behind old lodged refused behind)
    ∙ two_behind old (lodged ++ refused ++ behind) same last
