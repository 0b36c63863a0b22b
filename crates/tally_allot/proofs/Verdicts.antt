-- What the tests of an allotment say.
use Rattle.std.proofs.Common.{◌≡◌, ◌≢◌, ℕ, List, sum, refl, sym, subst}
use Rattle.tally_law.specs.Poll.{HasEligible}
use Rattle.tally_law.specs.LotNeed.{IsLotTaken, IsAllotmentUnderLot}
use Rattle.tally_allot_award.specs.internal.Race.{IsFair}
use Rattle.tally_allot_award.specs.internal.Terms.{Terms, AreSound, placed_race}
use Rattle.tally_allot_award.proofs.TermsRace.{races, from_placed, to_placed}
use Rattle.tally_allot.specs.declared.fault.AllotFault.{AllotFault}
use Rattle.tally_allot.specs.declared.fault.AllotFault.TheVariants.{NoEligible, LotMissing, WrongLot, Memory}
use Rattle.tally_allot.specs.internal.OnTerms.{IsFaultOn}
use Rattle.tally_allot.proofs.LotLaws.{proper_if_taken, taken_not_wrong, taken_not_missing}

module _ (terms : Terms) (sound : AreSound terms) (a : List ℕ) where
  pub is_under_lot : HasEligible terms.poll → IsFair (placed_race terms) (sum a) a → sum a ≡ terms.seats → IsLotTaken terms.rule terms.poll terms.seats terms.lot → IsAllotmentUnderLot terms.rule terms.poll terms.lot terms.seats a
  is_under_lot e f whole taken =
      let r = races terms sound in
      let P : ℕ → Type 0 = λ n. IsFair (placed_race terms) n a in
      (e, taken, from_placed terms r (proper_if_taken terms r taken) a (subst P whole f))

  pub fair_under_lot : IsAllotmentUnderLot terms.rule terms.poll terms.lot terms.seats a → IsFair (placed_race terms) (sum a) a
  fair_under_lot u =
      let r = races terms sound in
      let f = to_placed terms r (proper_if_taken terms r u.1) a u.2 in
      let P : ℕ → Type 0 = λ n. IsFair (placed_race terms) n a in
      subst P (sym f.total) f

  pub faulty_under_lot : (fault : AllotFault) → IsFaultOn terms fault → fault ≢ Memory → IsAllotmentUnderLot terms.rule terms.poll terms.lot terms.seats a → ⊥
  faulty_under_lot NoEligible f other u = f u.0
  faulty_under_lot (LotMissing group n) f other u = taken_not_missing terms (races terms sound) group n u.1 f.1 f.2
  faulty_under_lot WrongLot f other u = taken_not_wrong terms (races terms sound) u.1 f.1
  faulty_under_lot Memory f other u = other refl
