-- Hare allotment: whole quotas, and then the largest remainders (Balinski and Young, Fair
-- Representation: the method of Hamilton). It is this project's own rule that equal remainders go
-- by votes and then by place.
use Rattle.std.specs.Prelude.{ℕ, ◌≡◌, ◌+◌, ◌*◌, ◌/◌, ◌%◌, ◌<◌, ◌⊎◌, List, [], slice_index}
use Rattle.tally_law.specs.Poll.{Poll, IsEligible, SharesOut, votes_of, eligible_votes}
use Rattle.tally_law.specs.Lot.{place_of}

-- the whole quotas of list l, where the quota is the votes of the eligible lists over the seats
abbrev pub whole_quotas : Poll → ℕ → ℕ → ℕ
whole_quotas poll seats l = (votes_of poll l * seats) / eligible_votes poll

-- what is left of its votes, times the seats
abbrev pub remainder : Poll → ℕ → ℕ → ℕ
remainder poll seats l = (votes_of poll l * seats) % eligible_votes poll

-- A list's claim on a seat that the whole quotas leave over.
pub record Claim : Type 0 where
  pub remainder : ℕ
  pub votes : ℕ
  pub place : ℕ

abbrev pub claim_of : Poll → List ℕ → ℕ → ℕ → Claim
claim_of poll lot seats l =
    record { remainder = remainder poll seats l; votes = votes_of poll l; place = place_of lot l }

-- by greater remainder, then by more votes
abbrev pub ClaimsAboveByVotes : Claim → Claim → Type 0
ClaimsAboveByVotes x y =
    (y.remainder < x.remainder) ⊎ ((x.remainder ≡ y.remainder) × (y.votes < x.votes))

-- and then by earlier place
abbrev pub ClaimsAbove : Claim → Claim → Type 0
ClaimsAbove x y =
    ClaimsAboveByVotes x y ⊎
    ((x.remainder ≡ y.remainder) × (x.votes ≡ y.votes) × (x.place < y.place))

-- Each eligible list has its whole quotas or one more, and each list with one more claims above
-- each without.
pub record IsHareAllotment (poll : Poll) (lot : List ℕ) (seats : ℕ) (a : List ℕ) : Type 0 where
  pub shares : SharesOut poll seats a
  pub whole_or_one_more : (l : ℕ) → IsEligible poll l →
      (slice_index a l ≡ whole_quotas poll seats l) ⊎
      (slice_index a l ≡ whole_quotas poll seats l + 1)
  pub more_above_without : (l m : ℕ) → IsEligible poll l → IsEligible poll m →
      slice_index a l ≡ whole_quotas poll seats l + 1 →
      slice_index a m ≡ whole_quotas poll seats m →
      ClaimsAbove (claim_of poll lot seats l) (claim_of poll lot seats m)

-- The same by the votes alone, with no places: none with one more claims below one without.
pub record IsHareAllotmentByVotes (poll : Poll) (seats : ℕ) (a : List ℕ) : Type 0 where
  pub shares : SharesOut poll seats a
  pub whole_or_one_more : (l : ℕ) → IsEligible poll l →
      (slice_index a l ≡ whole_quotas poll seats l) ⊎
      (slice_index a l ≡ whole_quotas poll seats l + 1)
  pub more_not_below_without : (l m : ℕ) → IsEligible poll l → IsEligible poll m →
      slice_index a l ≡ whole_quotas poll seats l + 1 →
      slice_index a m ≡ whole_quotas poll seats m →
      ¬ ClaimsAboveByVotes (claim_of poll [] seats m) (claim_of poll [] seats l)
