use Rattle.std.proofs.Common.{◌++◌, List, ℕ, ap, ◌∙◌, codes, subst}
use Rattle.std.specs.Fmt.{decimal}
use Rattle.tally_office_trouble.specs.internal.Put.{IsPut}
use Rattle.tally_office_trouble.proofs.PutLemmas.{put_both, put_on}
use Rattle.tally_office_trouble.proofs.place.put_text.Goals as goal

pub returns : goal.returns
returns g c =
    let held = g.E.Write.contents in
    let old = held c.args.errors.now in
    let s1 = held c.put-done.new.errors in
    let s2 = held c.put_after-done.new.errors in
    let s3 = held c.put_after-done-2.new.errors in
    let s4 = held c.put_after-done-3.new.errors in
    let new = held c.put_after.new.errors in
    let line = c.format.result.now in
    let column = c.format-2.result.now in
    let last = put_both s3 s4 new column (codes "\n") c.put_after-done-2.result c.put_after-done-3.result c.put_after.result c.put_after-done-3.ensures c.put_after.ensures in
    let behind = put_both s2 s3 new (codes ", column ") (column ++ codes "\n") c.put_after-done.result c.put_after-done-2.result c.put_after.result c.put_after-done-2.ensures last in
    let position = put_both s1 s2 new line (codes ", column " ++ (column ++ codes "\n")) c.put-done.result c.put_after-done.result c.put_after.result c.put_after-done.ensures behind in
    let all = put_on old s1 new (codes "at line ") (line ++ (codes ", column " ++ (column ++ codes "\n"))) c.put-done.result c.put_after.result c.put-done.ensures position in
    subst (λ (t : List ℕ). IsPut old new (codes "at line " ++ t) c.put_after.result)
    (ap (λ (t : List ℕ). t ++ (codes ", column " ++ (column ++ codes "\n"))) c.format.ensures.text ∙ ap (λ (t : List ℕ). decimal c.args.line ++ (codes ", column " ++ (t ++ codes "\n"))) c.format-2.ensures.text) all
