-- The list that is next: its next seat ranks above those of all others exactly where it does by the
-- votes and the divisors alone, since the unit of the rule cancels.
use Rattle.std.proofs.Common.{ℕ, ◌+◌, ◌<◌, ◌≤◌, ◌≢◌, List, length, get_or, arith}
use Rattle.tally_frac.specs.Rank.{VotesRankAbove}
use Rattle.tally_law.specs.Poll.{Poll, IsEligible, votes_of}
use Rattle.tally_allot_award.specs.internal.Terms.{IsSound}
use Rattle.tally_allot.specs.Next.{HasNextSeat}
use Rattle.tally_allot.proofs.ShortLemmas.{scaled_down, scaled_up}

module _ (nth : ℕ → ℕ) (unit : ℕ) (from_one : 1 ≤ unit) (poll : Poll) (a : List ℕ) (m : ℕ) where
  pub next_found : IsSound poll → (n : ℕ) → length poll.votes ≤ n → IsEligible poll m
      → ((l : ℕ) → l < n → IsEligible poll l → l ≢ m → VotesRankAbove (votes_of poll m) (nth (get_or a m 0 + 1)) (votes_of poll l) (nth (get_or a l 0 + 1)))
      → HasNextSeat nth unit poll a m
  next_found sound n all eligible above = (eligible, λ l el ne. scaled_up unit from_one _ _ _ _ (above l (omega (arith, sound.listed l el, all)) el ne))

  pub next_above : HasNextSeat nth unit poll a m → (l : ℕ) → IsEligible poll l → l ≢ m
      → VotesRankAbove (votes_of poll m) (nth (get_or a m 0 + 1)) (votes_of poll l) (nth (get_or a l 0 + 1))
  next_above next l el ne = scaled_down unit from_one _ _ _ _ (next.1 l el ne)
