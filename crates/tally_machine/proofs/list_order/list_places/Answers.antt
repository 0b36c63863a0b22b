use Rattle.std.proofs.Common.{◌≡◌, ◌∙◌, suc, ◌+◌, ◌++◌, ◌∷◌, [], List, ℕ, Some, None, take, drop, take-append-drop, sym, ap}
use Rattle.std.specs.Prelude.{option_map}
use Rattle.std.proofs.Math.Seq.{drop-cons}
use Rattle.std.proofs.lemmas.List.{take_more}
use Rattle.tally_machine_law.specs.Certification.{ListFound, list_place, list_places}
use Rattle.tally_machine_law.proofs.LotLemmas.{list_places-more, list_places-none}
use Rattle.tally_machine.proofs.list_order.list_places.Goals as goal

pub returns-in_default : goal.returns-in_default
returns-in_default c =
    let con = c.args.con.now in
    let order = c.args.order.now in
    let i = c.loop-code.code-index in
    let code = c.code-item.result in
    let none : list_place con code ≡ None = ap (option_map (λ (f : ListFound). f.place)) (sym c.in_default.ensures) in
    let split : order ≡ take i order ++ (code ∷ drop (suc i) order) =
    sym (take-append-drop i order) ∙ ap (λ (r : List (List ℕ)). take i order ++ r) (drop-cons order i code c.loop-code-test.true ∙ ap (λ (x : List ℕ). x ∷ drop (suc i) order) (sym c.code-item.is)) in
    ap (list_places con) split ∙ list_places-none con (take i order) (drop (suc i) order) code none

pub loop-code-preserved : goal.loop-code-preserved
loop-code-preserved c =
    let con = c.args.con.now in
    let order = c.args.order.now in
    let i = c.loop-code.code-index in
    let code = c.code-item.result in
    let place : c.in-Some.found.place ≡ c.found.inside.place = sym (ap (λ (f : ListFound). f.place) c.found.view_is) in
    let here : list_place con code ≡ Some c.found.inside.place = ap (option_map (λ (f : ListFound). f.place)) (sym c.in-Some.ensures) ∙ ap (λ (n : ℕ). Some n) place in
    let more : take (i + 1) order ≡ take i order ++ code ∷ [] = take_more order i code c.loop-code-test.true ∙ ap (λ (x : List ℕ). take i order ++ x ∷ []) (sym c.code-item.is) in
    ap (list_places con) more
    ∙ list_places-more con (take i order) code c.loop-code.places.items c.found.inside.place c.loop-code.invariant here
    ∙ ap (λ (items : List ℕ). Some items) (sym c.in_ok-push.ensures.items)
