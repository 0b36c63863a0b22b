use Rattle.std.proofs.Common.{◌∙◌, ◌++◌, ℕ, List, ap, append_assoc, codes, string_bytes}
use Rattle.tally_import.specs.RowLines.{column_name}
use Rattle.tally_import.proofs.lines.push_bad.Goals as goal

pub returns-in-BadNumber-clause-bytes : goal.returns-in-BadNumber-clause-bytes
returns-in-BadNumber-clause-bytes c =
    let before = string_bytes c.args.text.now in
    let name = column_name c.args.lists.now c.in-BadNumber.column in
    rw c.in-BadNumber.is (c.push_column.ensures.bytes ∙ ap (λ (l : List ℕ). l ++ name) c.push-in-BadNumber.ensures.bytes ∙ append_assoc before (codes "bad_number ") name)

pub returns-in-Fields-clause-bytes : goal.returns-in-Fields-clause-bytes
returns-in-Fields-clause-bytes c =
    let before = string_bytes c.args.text.now in
    let digits = c.format.result.now in
    rw c.in-Fields.is (c.push-in-Fields.ensures.bytes ∙ ap (λ (l : List ℕ). l ++ digits) c.push.ensures.bytes ∙ append_assoc before (codes "fields ") digits
    ∙ ap (λ (l : List ℕ). before ++ (codes "fields " ++ l)) c.format.ensures.text)
