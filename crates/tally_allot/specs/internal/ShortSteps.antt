-- How the votes short are found. No promise to a caller speaks of it.
use Rattle.std.specs.Prelude.{ℕ, ◌≡◌, ◌≢◌, ◌+◌, ◌-◌, ◌*◌, ◌<◌, ◌≤◌, List, Option, None, Some}
use Rattle.std.specs.Prelude.{MatchOption, length, slice_index, slice_index_or}
use Rattle.tally_frac.specs.Rank.{VotesRankAbove}
use Rattle.tally_law.specs.Poll.{Poll, IsEligible, SharesOut, votes_of}
use Rattle.tally_law.specs.Allotment.{Rule, IsAllotment}
use Rattle.tally_allot.specs.VotesShort.{IsVotesShort, IsLeastNumber, HasNoMoreToGain}

-- Each divisor is at most three times the one before.
abbrev pub RiseSlowly : (ℕ → ℕ) → Type 0
RiseSlowly nth = (k : ℕ) → 1 ≤ k → nth (k + 1) ≤ 3 * nth k

-- An allotment by the votes alone, without the unit of the rule, which cancels: no last seat ranks
-- below the next seat of another list.
pub record IsByVotes (nth : ℕ → ℕ) (poll : Poll) (seats : ℕ) (a : List ℕ) : Type 0 where
  pub shares : SharesOut poll seats a
  pub last_not_below_next : (l m : ℕ) → IsEligible poll l → IsEligible poll m → l ≢ m →
      1 ≤ slice_index a l →
      ¬ VotesRankAbove
      (votes_of poll m) (nth (slice_index a m + 1))
      (votes_of poll l) (nth (slice_index a l))

-- The fewest votes that by one divisor rank above votes by another.
pub record AreFewestAbove (divisor other_votes other_divisor votes : ℕ) : Type 0 where
  pub above : VotesRankAbove votes divisor other_votes other_divisor
  pub one_less : ¬ VotesRankAbove (votes - 1) divisor other_votes other_divisor

-- Among the first n lists but list m, the one whose last seat ranks lowest by the votes alone, if
-- one of them holds a seat.
abbrev pub IsLowestOther : (ℕ → ℕ) → Poll → List ℕ → ℕ → ℕ → Option ℕ → Type 0
IsLowestOther nth poll a m n None = (p : ℕ) → p < n → p ≢ m → slice_index a p ≡ 0
IsLowestOther nth poll a m n (Some c) = (c < length poll.votes) × (c ≢ m) × (1 ≤ slice_index a c) ×
    ((p : ℕ) → p < n → p ≢ m → 1 ≤ slice_index a p →
    ¬ VotesRankAbove
    (votes_of poll c) (nth (slice_index a c))
    (votes_of poll p) (nth (slice_index a p)))

-- The number of list m, where a is the allotment.
pub record IsNumberOf (rule : Rule) (poll : Poll) (seats : ℕ) (a : List ℕ) (m x : ℕ) : Type 0 where
  pub eligible : IsEligible poll m
  pub not_all : slice_index a m < seats
  pub short : IsVotesShort rule poll seats (slice_index a m) m x
  pub least : IsLeastNumber rule poll seats (slice_index a m) m x
  pub below : x < 100000000000

abbrev pub IsAnswerOf : Rule → Poll → ℕ → List ℕ → ℕ → Option ℕ → Type 0
IsAnswerOf rule poll seats a m answer =
    MatchOption answer (HasNoMoreToGain poll seats a m) (λ x. IsNumberOf rule poll seats a m x)

-- the answers of the first n lists
pub record AreAnswers (rule : Rule) (poll : Poll) (seats : ℕ) (a : List ℕ) (n : ℕ)
    (numbers : List (Option ℕ)) : Type 0 where
  pub one_each : length numbers ≡ n
  pub each : (m : ℕ) → m < n → IsAnswerOf rule poll seats a m (slice_index_or numbers m None)

-- the answers of all lists beside the seats of the allotment
abbrev pub AreAnswersOf : Rule → Poll → List ℕ → ℕ → List (Option ℕ) → Type 0
AreAnswersOf rule poll lot seats numbers =
    (a : List ℕ) × IsAllotment rule poll lot seats a ×
    AreAnswers rule poll seats a (length poll.votes) numbers
