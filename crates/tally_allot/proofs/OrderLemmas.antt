-- Lots that may be taken, going by the votes of the lists that they
-- name: they are proper, and any other is wrong.
use Rattle.std.proofs.Common.{◌≡◌, ℕ, ◌≢◌, ◌⊎◌, List, [], Bool, true, false, get_or, sym, ◌∙◌, subst, inl, inr}
use Rattle.std.specs.Cmp.{both_ways}
use Rattle.tally_law.specs.Poll.{HasEligible, IsEligible, Poll, votes_of}
use Rattle.tally_law.specs.Lot.{place_of, is_named}
use Rattle.tally_law.specs.LotNeed.{IsDecidedByVotes, IsLotWrong, IsNeed}
use Rattle.tally_allot_award.specs.internal.Orders.{MayBeTaken}
use Rattle.tally_allot_award.specs.internal.Terms.{AreSound, IsProperLot, Terms}
use Rattle.tally_allot.proofs.AllotmentLaws.{group_of_votes}
use Rattle.tally_allot.proofs.DecidedOrNeeded.{decided-or_need}
use Rattle.tally_allot.proofs.LotLaws.{named-marked, order_apart, proper_without_lot}

-- it places lists of equal votes apart, and names all of them or none
pub proper_if_may : (poll : Poll) (lot : List ℕ) → MayBeTaken poll lot → IsProperLot poll lot
proper_if_may poll lot (inl e) = subst (IsProperLot poll) (sym e) (proper_without_lot poll)
proper_if_may poll lot (inr w) = record { apart = apart; together = together }
  where
    alike : (l m : ℕ) → IsEligible poll m → votes_of poll l ≡ votes_of poll m → get_or w.1 l false ≡ true → get_or w.1 m false ≡ true
    alike l m em same marked = (w.3 m).1 (em, sym same ∙ ((w.3 l).0 marked).1)

    apart : (l m : ℕ) → IsEligible poll l → IsEligible poll m → l ≢ m → votes_of poll l ≡ votes_of poll m → place_of lot l ≢ place_of lot m
    apart l m el em ne same = order_apart w.1 lot w.4 l m ne (alike l m em same) (alike m l el (sym same))

    together : (l m : ℕ) → IsEligible poll l → IsEligible poll m → votes_of poll l ≡ votes_of poll m → is_named lot l ≡ is_named lot m
    together l m el em same =
        let marks : get_or w.1 l false ≡ get_or w.1 m false = both_ways (get_or w.1 l false) (get_or w.1 m false) (alike l m em same) (alike m l el (sym same)) in
        named-marked w.1 lot w.4 l ∙ marks ∙ sym (named-marked w.1 lot w.4 m)

-- any other lot is wrong, since a group is of one number of votes
pub wrong_unless_may : (terms : Terms) → AreSound terms → HasEligible terms.poll → ¬ MayBeTaken terms.poll terms.lot → IsLotWrong terms.rule terms.poll terms.seats terms.lot
wrong_unless_may terms sound has not = by_votes (decided-or_need terms.rule terms.poll terms.seats sound.rule sound.poll sound.some_seat has)
  where
    given : terms.lot ≢ []
    given e = not (inl e)

    by_votes : IsDecidedByVotes terms.rule terms.poll terms.seats ⊎ ((group : List Bool) × (in_question : ℕ) × IsNeed terms.rule terms.poll terms.seats group in_question) → IsLotWrong terms.rule terms.poll terms.seats terms.lot
    by_votes (inl decided) = inl (decided, given)
    by_votes (inr w) =
        let v = group_of_votes terms.rule terms.poll terms.seats w.0 w.1 sound.rule sound.poll sound.some_seat w.2 in
        inr (w.0, w.1, w.2, given, λ o. not (inr (v.0, w.0, v.1, v.2, o)))
