use Rattle.std.proofs.Common.{◌++◌, List, ℕ, ap, ◌∙◌, codes, decimal}
use Rattle.tally_desk_answer.proofs.AppendLemmas.{two_behind}
use Rattle.tally_desk_answer.proofs.import.push_first.Goals as goal

pub returns-in-Some-clause-items : goal.returns-in-Some-clause-items
returns-in-Some-clause-items c =
    let first = c.in-Some.first in
    let number = decimal first.number in
    let last = codes "]" in
    rw c.in-Some.is (c.push_around-in-Some.ensures.items ∙ ap (λ (l : List ℕ). l ++ (number ++ last)) c.push_around.ensures.items ∙ two_behind c.args.out.now.items (codes "[" ++ decimal first.row ++ codes ",") number last)
