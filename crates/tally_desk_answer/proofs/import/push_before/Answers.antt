use Rattle.std.proofs.Common.{◌++◌, List, ℕ, ap, ◌∙◌, codes, decimal}
use Rattle.tally_desk_answer.proofs.AppendLemmas.{two_behind}
use Rattle.tally_desk_answer.proofs.import.push_before.Goals as goal

pub returns-clause-items : goal.returns-clause-items
returns-clause-items c =
    let i = c.args.count.now in
    let differs = decimal i.differs in
    let last = codes ",\"first\":" in
    c.push_around-2.ensures.items ∙ ap (λ (l : List ℕ). l ++ (differs ++ last)) c.push_around.ensures.items
    ∙ two_behind c.args.out.now.items (codes "{\"bad\":" ++ decimal i.bad ++ codes ",\"differs\":") differs last
