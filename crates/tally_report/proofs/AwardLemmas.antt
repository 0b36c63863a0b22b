-- The awards of a lawful view, and of lists of its constituency.
use Rattle.std.proofs.Common.{◌≡◌, ◌≢◌, ◌≤◌, ◌<◌, ◌⊎◌, ◌∙◌, ℕ, zero, suc, List, [], Bool, true, false, Option, Some, None, length, get_or, refl, sym, ap, subst, inl, inr, arith}
use Rattle.std.proofs.lemmas.Bool.{cases_lt, false≢true}
use Rattle.std.proofs.lemmas.List.{get_or_past, length-map}
use Rattle.tally_frac.specs.declared.divisors.DivisorRule.{DivisorRule}
use Rattle.tally_frac.specs.internal.DivisorLaws.{divisors-positive}
use Rattle.tally_allot.specs.AllotFault.{IsFaultOf}
use Rattle.tally_allot.specs.Awards.{AreAwardsBy}
use Rattle.tally_law.specs.LawStatements.{GroupsAreOfOneNumberOfVotes, NoLotIsNeededWhereVotesDecide}
use Rattle.tally_allot.specs.declared.award.Award.{Award}
use Rattle.tally_allot.specs.declared.fault.AllotFault.{AllotFault}
use Rattle.tally_allot.specs.declared.fault.AllotFault.TheVariants.{NoEligible, LotMissing, WrongLot, Memory}
use Rattle.tally_frac.specs.ListSet.{has_place}
use Rattle.tally_law.specs.Lot.{IsOrderOf}
use Rattle.tally_law.specs.LotNeed.{IsLotNeeded, IsLotTaken, IsLotWrong, IsNeed}
use Rattle.tally_law.specs.Poll.{IsEligible}
use Rattle.tally_law.specs.Rules.{poll_of, rule_with}
use Rattle.tally_machine_law.specs.Outcome.{HasSeats, IsLawfulView, IsOutcome, allotted, poll_in, rule_in}
use Rattle.tally_returns.specs.View.{View}
use Rattle.tally_setup.specs.Constituency.{Constituency}
use Rattle.tally_setup.specs.Threshold.{base_of, is_eligible}
use Rattle.tally_setup.specs.declared.profile.LotRule.{LotRule}
use Rattle.tally_setup.specs.declared.profile.Profile.{Profile}
use Rattle.tally_report.specs.internal.Awards.{IsAwardIn}
use Rattle.tally_report_lines.proofs.AwardLemmas.{each-among}

-- what is said of the parts that awards are made of, said of equal ones
pub carried : {A B C D E : Type 0} (P : A → B → C → D → E → Type 0) → {a a' : A} → a ≡ a' → {b b' : B} → b ≡ b' → {c c' : C} → c ≡ c' → {d d' : D} → d ≡ d' → {e e' : E} → e ≡ e' → P a b c d e → P a' b' c' d' e'
carried P {a = a} {a' = a'} ea {b = b} {b' = b'} eb {c = c} {c' = c'} ec {d = d} {d' = d'} ed {e = e} {e' = e'} ee h =
    subst (P a' b' c' d') ee (subst (λ x. P a' b' c' x e) ed (subst (λ x. P a' b' x d e) ec (subst (λ x. P a' x c d e) eb (subst (λ x. P x b c d e) ea h))))

-- an order of a group is one of any group of the same lists
order-same : (group other : List Bool) (lot : List ℕ) → ((l : ℕ) → get_or group l false ≡ true → get_or other l false ≡ true) → ((l : ℕ) → get_or other l false ≡ true → get_or group l false ≡ true)
    → IsOrderOf group lot → IsOrderOf other lot
order-same group other lot to from order = record {
  all = λ l marked. order.all l (from l marked);
  no_other = λ i lt. place-same (get_or lot i 0) (order.no_other i lt);
  once = order.once;
}
  where
    place-same : (place : ℕ) → has_place group place ≡ true → has_place other place ≡ true
    place-same zero e = e
    place-same (suc l) e = to l e

-- the laws of lots, of the closed votes of a constituency
module _ (groups : GroupsAreOfOneNumberOfVotes) (never_both : NoLotIsNeededWhereVotesDecide) (con : Constituency) (view : View) where
  -- two needs of one poll are of the same lists
  need-same : (group other : List Bool) (m n : ℕ) → IsNeed (rule_in con) (poll_in con view) con.seats group m → IsNeed (rule_in con) (poll_in con view) con.seats other n
      → (l : ℕ) → get_or group l false ≡ true → get_or other l false ≡ true
  need-same group other m n need again l marked = (again.group_is l).1 ((need.group_is l).0 marked)

  -- a lot that is to be taken is not wrong
  taken-right : IsLotTaken (rule_in con) (poll_in con view) con.seats view.lot → IsLotWrong (rule_in con) (poll_in con view) con.seats view.lot → ⊥
  taken-right (inl taken) (inl wrong) = wrong.1 taken.1
  taken-right (inl taken) (inr wrong) = wrong.3 taken.1
  taken-right (inr taken) (inl wrong) = never_both con.profile view.votes view.blank con.seats wrong.0 taken.2.needed
  taken-right (inr taken) (inr wrong) =
      wrong.4 (
      order-same taken.0 wrong.0 view.lot
      (need-same taken.0 wrong.0 taken.1 wrong.1 taken.2 wrong.2)
      (need-same wrong.0 taken.0 wrong.1 taken.1 wrong.2 taken.2)
      taken.3
      )

  -- and there is one where one is needed
  lot-stands : 1 ≤ con.seats → IsLotTaken (rule_in con) (poll_in con view) con.seats view.lot → IsLotNeeded (rule_in con) (poll_in con view) con.seats → view.lot ≢ []
  lot-stands some (inl taken) needed none = never_both con.profile view.votes view.blank con.seats taken.0 needed
  lot-stands some (inr taken) needed none =
      let one = groups con.profile view.votes view.blank con.seats taken.0 taken.1 some taken.2 in
      let named = taken.3.all one.0 ((one.2 one.0).1 (one.1, refl)) in
      omega (arith, named.1, ap length none)

  -- where the votes and the lot allot seats, there is no fault but one of memory
  pub allots : 1 ≤ con.seats → (seats : List ℕ) → IsOutcome con view (allotted seats)
      → (f : AllotFault) → IsFaultOf (rule_in con) (poll_in con view) con.seats view.lot f → f ≢ Memory → ⊥
  allots some seats has f says other = refuted f says other
    where
      refuted : (f : AllotFault) → IsFaultOf (rule_in con) (poll_in con view) con.seats view.lot f → f ≢ Memory → ⊥
      refuted NoEligible says other = says has.0
      refuted (LotMissing group seats) says other = lot-stands some has.1 says.1.needed says.2
      refuted WrongLot says other = taken-right has.1 says.1
      refuted Memory says other = other refl

-- the votes and the lot of a certified lawful view allot its seats
pub certified-outcome : (con : Constituency) (view : View) → IsLawfulView con view → view.certified ≡ true → IsOutcome con view (allotted view.seats)
certified-outcome con view lawful certified = subst (HasSeats con view) certified lawful.seats

-- awards are of the lists of a constituency
pub each-in : (found : Option DivisorRule) (lot_rule : LotRule) (con : Constituency) (view : View) (awards : List Award) → AreAwardsBy (rule_with found lot_rule) (poll_in con view) view.lot con.seats awards → length view.votes ≡ length con.lists
    → (i : ℕ) (d : Award) → i < length awards → IsAwardIn con (get_or awards i d)
each-in found lot_rule con view awards are lists = each-among found lot_rule con.profile view.votes view.blank view.lot con.seats awards (length con.lists) are lists
