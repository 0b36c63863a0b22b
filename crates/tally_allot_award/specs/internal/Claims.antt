-- The claims that a heap holds. No promise to a caller speaks of them.
use Rattle.std.specs.Prelude.{ℕ, ◌≡◌, ◌<◌, ◌≤◌, ◌==◌, List, All, sum_by, nat_lt, slice_index}
use Rattle.std.specs.Prelude.{if◌then◌else◌}
use Rattle.std.specs.Ordering.{nat_cmp, ordering_then}
use Rattle.std.specs.declared.cmp.Ordering.{Ordering}
use Rattle.tally_law.specs.HareAllotment.{remainder}
use Rattle.tally_law.specs.Lot.{place_of}
use Rattle.tally_law.specs.Poll.{Poll, votes_of}
use Rattle.tally_allot_award.specs.internal.Terms.{Terms, most_for}
use Rattle.tally_allot_award.specs.declared.remainder_award.SeatClaim.{SeatClaim}

-- The claim is that of its list.
pub record IsClaimOf (terms : Terms) (x : SeatClaim) : Type 0 where
  pub remainder_is : x.remainder ≡ remainder terms.poll terms.seats x.list
  pub votes_is : x.votes ≡ votes_of terms.poll x.list
  pub place_is : (x.place).0 ≡ place_of terms.lot x.list

-- by remainder, by votes, by the earlier place, and by list
abbrev pub claim_cmp : SeatClaim → SeatClaim → Ordering
claim_cmp x y =
    ordering_then (nat_cmp x.remainder y.remainder)
    (ordering_then (nat_cmp x.votes y.votes)
    (ordering_then (nat_cmp (y.place).0 (x.place).0) (nat_cmp x.list y.list)))

-- 1 for a claim of list l
abbrev pub is_by : ℕ → SeatClaim → ℕ
is_by l x = if x.list == l then 1 else 0

-- 1 for a list that may hold more
abbrev pub one_if_more : Poll → ℕ → List ℕ → ℕ → ℕ
one_if_more poll seats a l = if nat_lt (slice_index a l) (most_for poll seats l) then 1 else 0

-- Each of the first n lists that may hold more has its claim here, once.
pub record AreClaims (terms : Terms) (n : ℕ) (a : List ℕ) (items : List SeatClaim) : Type 0 where
  pub each : All (IsClaimOf terms) items
  pub once : (l : ℕ) → l < n → sum_by (is_by l) items ≡ one_if_more terms.poll terms.seats a l
  pub no_later : (l : ℕ) → n ≤ l → sum_by (is_by l) items ≡ 0
