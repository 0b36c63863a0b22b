use Rattle.std.proofs.Common.{◌++◌, List, ℕ, Option, Some, ap, append_assoc, sym, ◌∙◌, subst}
use Rattle.tally_office_trouble.specs.Place.{array_words, entry_words}
use Rattle.tally_office_trouble.specs.internal.Put.{IsPutAfter}
use Rattle.tally_office_trouble.proofs.PutLemmas.{put_both}
use Rattle.tally_office_trouble.proofs.place.put_way.Goals as goal

pub returns-in-Some : goal.returns-in-Some
returns-in-Some g c =
    let held = g.E.Write.contents in
    let old = held c.args.errors.now in
    let mid = held c.put_array-done.new.errors in
    let new = held c.put_coded.new.errors in
    let way = c.args.way.now in
    let array = array_words way.array in
    let coded = entry_words way.number (Some c.in-Some.code) in
    let both = put_both old mid new array (coded ++ c.args.after.now) c.args.done c.put_array-done.result c.put_coded.result c.put_array-done.ensures c.put_coded.ensures in
    subst (λ (t : List ℕ). IsPutAfter old new c.args.done t c.put_coded.result)
    (sym (append_assoc array coded c.args.after.now) ∙ ap (λ (code : Option (List ℕ)). array ++ entry_words way.number code ++ c.args.after.now) (sym c.in-Some.is)) both

pub returns-in-None : goal.returns-in-None
returns-in-None g c =
    let held = g.E.Write.contents in
    let old = held c.args.errors.now in
    let s1 = held c.put_array-done.new.errors in
    let s2 = held c.put_after-done.new.errors in
    let new = held c.put_after.new.errors in
    let way = c.args.way.now in
    let array = array_words way.array in
    let number = c.format.result.now in
    let entry = put_both old s1 s2 array number c.args.done c.put_array-done.result c.put_after-done.result c.put_array-done.ensures c.put_after-done.ensures in
    let both = put_both old s2 new (array ++ number) c.args.after.now c.args.done c.put_after-done.result c.put_after.result entry c.put_after.ensures in
    subst (λ (t : List ℕ). IsPutAfter old new c.args.done (array ++ t ++ c.args.after.now) c.put_after.result)
    (c.format.ensures.text ∙ ap (λ (code : Option (List ℕ)). entry_words way.number code) (sym c.in-None.is)) both
