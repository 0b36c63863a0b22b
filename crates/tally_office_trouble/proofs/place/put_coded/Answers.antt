use Rattle.std.proofs.Common.{◌++◌, List, ℕ, ap, ◌∙◌, codes, subst}
use Rattle.std.specs.Fmt.{decimal}
use Rattle.tally_office_trouble.specs.internal.Put.{IsPutAfter}
use Rattle.tally_office_trouble.proofs.PutLemmas.{put_both}
use Rattle.tally_office_trouble.proofs.place.put_coded.Goals as goal

pub returns : goal.returns
returns g c =
    let held = g.E.Write.contents in
    let old = held c.args.errors.now in
    let s1 = held c.put_after-done.new.errors in
    let s2 = held c.put_after-done-2.new.errors in
    let s3 = held c.put_after-done-3.new.errors in
    let s4 = held c.put_after-done-4.new.errors in
    let new = held c.put_after.new.errors in
    let words = c.args.words.now in
    let number = c.format.result.now in
    let code = c.as_str.result.now in
    let coded = put_both s2 s3 s4 (codes " ") code c.put_after-done-2.result c.put_after-done-3.result c.put_after-done-4.result c.put_after-done-3.ensures c.put_after-done-4.ensures in
    let entry = put_both s1 s2 s4 number (codes " " ++ code) c.put_after-done.result c.put_after-done-2.result c.put_after-done-4.result c.put_after-done-2.ensures coded in
    let worded = put_both old s1 s4 words (number ++ (codes " " ++ code)) c.args.done c.put_after-done.result c.put_after-done-4.result c.put_after-done.ensures entry in
    let all = put_both old s4 new (words ++ (number ++ (codes " " ++ code))) c.args.after.now c.args.done c.put_after-done-4.result c.put_after.result worded c.put_after.ensures in
    subst (λ (t : List ℕ). IsPutAfter old new c.args.done (t ++ c.args.after.now) c.put_after.result)
    (ap (λ (t : List ℕ). words ++ (t ++ (codes " " ++ code))) c.format.ensures.text ∙ ap (λ (t : List ℕ). words ++ (decimal c.args.number ++ (codes " " ++ t))) c.as_str.ensures.text) all
