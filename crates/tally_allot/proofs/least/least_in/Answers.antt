use Rattle.std.proofs.Common.{◌≡◌, ℕ, ◌<◌, ◌∙◌, List, length, get_or, ap, subst, sym}
use Rattle.std.proofs.lemmas.List.{with_items_is}
use Rattle.tally_allot.specs.internal.LeastSteps.{AreLeastOn, IsFewestHeld, with_fewest}
use Rattle.tally_allot.proofs.LeastLemmas.{decided_least, needed_least}
use Rattle.tally_allot.proofs.least.least_in.Goals as goal

pub returns-in_default-clause-least : goal.returns-in_default-clause-least
returns-in_default-clause-least g c = decided_least (g.C.Contest.terms c.args.contest.now) c.requires.sound c.in_ok-held.held.items c.in_ok-held.ensures c.in_default.ensures

pub returns-clause-least : goal.returns-clause-least
returns-clause-least g c =
    let terms = g.C.Contest.terms c.args.contest.now in
    let a = c.in_ok-held.held.items in
    let group = c.in-Some.need.group in
    let k = c.fewest_held-fewest.result in
    let is = with_items_is c.in_ok-held.held c.give_fewest.new.held (c.give_fewest.auto.held ∙ c.deref_mut.ensures.len) in
    let seen : IsFewestHeld group a c.seats.result (length a) k = subst (λ (xs : List ℕ). IsFewestHeld group xs c.seats.result (length xs) k) c.deref-2.ensures.value c.fewest_held-fewest.ensures in
    let fewest : IsFewestHeld group a terms.seats (length a) k = subst (λ n. IsFewestHeld group a n (length a) k) c.seats.ensures seen in
    let given : (l : ℕ) → l < length a → get_or c.give_fewest.new.held l 0 ≡ with_fewest group a k l = subst (λ (xs : List ℕ). (l : ℕ) → l < length xs → get_or c.give_fewest.new.held l 0 ≡ with_fewest group xs k l) c.deref_mut.ensures.value c.give_fewest.ensures in
    let long : length c.give_fewest.new.held ≡ length a = c.give_fewest.auto.held ∙ ap length c.deref_mut.ensures.value in
    let least : AreLeastOn terms c.give_fewest.new.held = needed_least terms c.requires.sound a c.in_ok-held.ensures group c.in-Some.need.seats c.in-Some.ensures k fewest c.give_fewest.new.held long given in
    subst (λ (xs : List ℕ). AreLeastOn terms xs) (sym is) least
