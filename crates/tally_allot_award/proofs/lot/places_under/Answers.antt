use Rattle.std.proofs.Common.{◌≡◌, ◌<◌, ℕ, ◌+◌, ◌-◌, length, subst, arith}
use Rattle.tally_allot_award.proofs.PlaceLemmas.{ArePlaces, without_entries, entry_put}
use Rattle.tally_allot_award.proofs.lot.places_under.Goals as goal

pub loop-i-init : goal.loop-i-init
loop-i-init c = without_entries c.args.lot.now c.places_in_setup-places.result c.places_in_setup-places.ensures

pub loop-i-preserved : goal.loop-i-preserved
loop-i-preserved c =
    let lot = c.args.lot.now in
    let j = c.loop-i.i - 1 in
    let inside : c.loop-i.i - 1 < length c.args.lot.now = omega (arith, c.loop-i.auto.i, c.loop-i-test.true) in
    let e : c.loop-i.i ≡ j + 1 = omega (arith, c.loop-i-test.true) in
    let P : ℕ → Type 0 = λ i. ArePlaces lot i c.loop-i.places in
    entry_put lot j inside c.loop-i.places _ c.put_entry.ensures (subst P e c.loop-i.invariant)

pub returns : goal.returns
returns c l lt =
    let P : ℕ → Type 0 = λ i. ArePlaces c.args.lot.now i c.loop-i.places in
    let e : c.loop-i.i ≡ 0 = omega (arith, c.loop-i-test.false) in
    subst P e c.loop-i.invariant l lt
