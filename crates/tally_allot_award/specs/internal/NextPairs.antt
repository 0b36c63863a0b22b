-- The pairs that a heap of keys holds. No promise to a caller speaks of them.
use Rattle.std.specs.Prelude.{ℕ, ◌≡◌, ◌+◌, ◌<◌, ◌≤◌, ◌==◌, List, All, sum_by, false, length}
use Rattle.std.specs.Prelude.{slice_index, slice_index_or, if◌then◌else◌}
use Rattle.std.specs.Ordering.{nat_cmp, ordering_then}
use Rattle.std.specs.declared.cmp.Ordering.{Ordering}
use Rattle.tally_frac.specs.Limits.{last_divisor}
use Rattle.tally_frac.specs.Rank.{Pair, IsWithinLimits}
use Rattle.tally_frac.specs.internal.RankOrder.{rank_cmp}
use Rattle.tally_allot_award.specs.internal.Terms.{Terms, pair_on}
use Rattle.tally_allot_award.specs.internal.WonSeat.{none_held}
use Rattle.tally_law.specs.Poll.{Poll, IsEligible}

-- a pair of a list and its k-th seat, with its key first
abbrev pub Keyed : Type 0
Keyed = Pair × ℕ × ℕ

abbrev pub keyed_pair : Terms → ℕ → ℕ → Keyed
keyed_pair terms l k = (pair_on terms l k, l, k)

-- by key, then by list and by seat
abbrev pub keyed_cmp : Keyed → Keyed → Ordering
keyed_cmp x y = ordering_then (ordering_then (rank_cmp x.0 y.0) (nat_cmp x.1 y.1)) (nat_cmp x.2 y.2)

-- Each pair of an eligible list has a key.
abbrev pub HaveKeys : Terms → Type 0
HaveKeys terms = (l k : ℕ) → IsEligible terms.poll l → 1 ≤ k → k ≤ last_divisor →
    IsWithinLimits (pair_on terms l k)

-- 1 for a pair of list l
abbrev pub is_of : ℕ → Keyed → ℕ
is_of l x = if x.1 == l then 1 else 0

-- 1 for an eligible list
abbrev pub one_if_eligible : Poll → ℕ → ℕ
one_if_eligible poll l = if slice_index_or poll.eligible l false then 1 else 0

-- Each of the first n lists that is eligible has its next pair here, once.
pub record AreNext (terms : Terms) (n : ℕ) (a : List ℕ) (items : List Keyed) : Type 0 where
  pub each : All (λ x. x ≡ keyed_pair terms x.1 (slice_index a x.1 + 1)) items
  pub once : (l : ℕ) → l < n → sum_by (is_of l) items ≡ one_if_eligible terms.poll l
  pub no_later : (l : ℕ) → n ≤ l → sum_by (is_of l) items ≡ 0

-- The next pairs of all lists where none holds a seat yet: the first of each.
abbrev pub AreFirstPairs : Terms → List Keyed → Type 0
AreFirstPairs terms items =
    AreNext terms (length terms.poll.votes) (none_held (length terms.poll.votes)) items
