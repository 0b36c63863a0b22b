-- Polls under a threshold are sound.
use Rattle.std.proofs.Common.{◌≡◌, ℕ, ◌*◌, ◌<◌, ◌≤◌, ◌⊎◌, List, Bool, false, true, ◌&&◌, length, get_or, ltb, leb, map, refl, sym, ◌∙◌, subst, inl, inr, arith}
use Rattle.std.proofs.lemmas.Bool.{cases_lt, false≢true, ltb-true}
use Rattle.std.proofs.lemmas.List.{get_or_past, get_or-map, length-map}
use Rattle.tally_setup.specs.Threshold.{is_eligible}
use Rattle.tally_law.specs.Poll.{Poll, IsEligible, eligible_votes}
use Rattle.tally_law.specs.HareAllotment.{whole_quotas}
use Rattle.tally_setup.specs.declared.profile.LotRule.{LotRule}
use Rattle.tally_law.specs.Allotment.{Rule, divisors}
use Rattle.tally_allot_award.specs.internal.Terms.{poll_under, IsSound, AreSound, AreDivisors}
use Rattle.tally_allot_award.proofs.Scan.{votes-le-eligible, quotas-le-seats}

first_true : (x y : Bool) → (x && y) ≡ true → x ≡ true
first_true true y e = refl
first_true false y e = e

pub sound_under : (threshold base : ℕ) (votes : List ℕ) → IsSound (poll_under threshold base votes)
sound_under threshold base votes = record { listed = listed; with_votes = with_votes }
  where
    listed : (l : ℕ) → IsEligible (poll_under threshold base votes) l → l < length votes
    listed l e = by_cases (cases_lt l (length votes))
      where
        by_cases : (l < length votes) ⊎ (length votes ≤ l) → l < length votes
        by_cases (inl lt) = lt
        by_cases (inr ge) = absurd (false≢true (sym (get_or_past (map (is_eligible threshold base) votes) l false (simp length-map ge)) ∙ e))

    with_votes : (l : ℕ) → IsEligible (poll_under threshold base votes) l → 1 ≤ get_or votes l 0
    with_votes l e =
        let at : is_eligible threshold base (get_or votes l 0) ≡ true = sym (get_or-map (is_eligible threshold base) votes l 0 false (listed l e)) ∙ e in
        ltb-true 0 (get_or votes l 0) (first_true (ltb 0 (get_or votes l 0)) (leb (threshold * base) (get_or votes l 0 * 10000)) at)

pub some_total : (threshold base : ℕ) (votes : List ℕ) (l : ℕ) → IsEligible (poll_under threshold base votes) l → 0 < eligible_votes (poll_under threshold base votes)
some_total threshold base votes l e =
    let s = sound_under threshold base votes in
    omega (arith, s.with_votes l e, votes-le-eligible (poll_under threshold base votes) l s e)

pub few_quotas : (threshold base : ℕ) (votes : List ℕ) (seats l : ℕ) → IsEligible (poll_under threshold base votes) l → whole_quotas (poll_under threshold base votes) seats l ≤ seats
few_quotas threshold base votes seats l e = quotas-le-seats (poll_under threshold base votes) seats l (sound_under threshold base votes) e

-- what is said of a rule and a poll, said of equal ones
pub carried : (P : Rule → Poll → Type 0) → {rule rule' : Rule} → rule ≡ rule' → {poll poll' : Poll} → poll ≡ poll' → P rule poll → P rule' poll'
carried P {rule = rule} {rule' = rule'} e {poll = poll} {poll' = poll'} e' h = subst (P rule') e' (subst (λ (x : Rule). P x poll) e h)

-- the terms of a contest under a divisor rule are sound
pub sound_by_divisors : (nth : ℕ → ℕ) (unit : ℕ) (lot_rule : LotRule) → AreDivisors nth → 1 ≤ unit → (threshold base : ℕ) (votes lot : List ℕ) (seats : ℕ) → 1 ≤ seats → seats ≤ 500 → length votes ≤ 60 → AreSound (record { rule = divisors nth unit lot_rule; poll = poll_under threshold base votes; lot = lot; seats = seats })
sound_by_divisors nth unit lot_rule d some_unit threshold base votes lot seats some few lists =
    record { rule = (d, some_unit); poll = sound_under threshold base votes; some_seat = some; few_seats = few; few_lists = lists }
