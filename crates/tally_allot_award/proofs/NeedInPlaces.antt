-- The need of a lot, seen from seats that the places allow.
use Rattle.std.proofs.Common.{ℕ, ◌+◌, ◌*◌, ◌<◌, ◌≤◌, List, Bool, length, get_or, Fits, w32, w64, arith}
use Rattle.tally_law.specs.LotNeed.{IsDecidedByVotes, IsNeed}
use Rattle.tally_allot_award.specs.internal.Race.{IsFair, IsPair, IsHighestNext, IsLowestLast}
use Rattle.tally_allot_award.specs.internal.Sums.{sum_before, holds_at}
use Rattle.tally_allot_award.specs.internal.Terms.{Terms, AreSound, IsClassOf, vote_race, placed_race}
use Rattle.tally_allot_award.proofs.TermsRace.{races, pair_from_placed, within_placed, fair_by_votes, highest_by_votes, lowest_by_votes}
use Rattle.tally_allot_award.proofs.NeedOfTie.{decided_if_no_tie, no_tie_without_last, no_tie_without_next, no_tie_if_above, tie_unless_above, need_if_tie}
use Rattle.tally_allot_award.proofs.Scan.{cap_small, count_is}

module _ (terms : Terms) (sound : AreSound terms) (a : List ℕ) (f : IsFair (placed_race terms) terms.seats a) where
  pub decided_without_last : ((m : ℕ) → get_or a m 0 ≤ (placed_race terms).floor m) → IsDecidedByVotes terms.rule terms.poll terms.seats
  decided_without_last none =
      let r = races terms sound in
      let v = fair_by_votes terms r terms.seats a f in
      decided_if_no_tie terms r a v (no_tie_without_last terms r a v (λ m. omega (arith, none m, r.same_floor m)))

  pub decided_without_next : ((m : ℕ) → (placed_race terms).cap m ≤ get_or a m 0) → IsDecidedByVotes terms.rule terms.poll terms.seats
  decided_without_next none =
      let r = races terms sound in
      let v = fair_by_votes terms r terms.seats a f in
      decided_if_no_tie terms r a v (no_tie_without_next terms r a v (λ m. omega (arith, none m, r.same_cap m)))

  pub decided_if_above : (l m : ℕ) → IsLowestLast (placed_race terms) a l → IsHighestNext (placed_race terms) a m → (vote_race terms).Above l (get_or a l 0) m (get_or a m 0 + 1) → IsDecidedByVotes terms.rule terms.poll terms.seats
  decided_if_above l m last next above =
      let r = races terms sound in
      let v = fair_by_votes terms r terms.seats a f in
      decided_if_no_tie terms r a v (no_tie_if_above terms r a v l m (lowest_by_votes terms r a l last) (highest_by_votes terms r a m next) above)

  pub need_unless_above : (l m : ℕ) → IsLowestLast (placed_race terms) a l → IsHighestNext (placed_race terms) a m → ¬ (vote_race terms).Above l (get_or a l 0) m (get_or a m 0 + 1) → (group : List Bool) → IsClassOf terms.poll l group → IsNeed terms.rule terms.poll terms.seats group (sum_before (holds_at group a (get_or a l 0)) (length a))
  need_unless_above l m last next above group class =
      let r = races terms sound in
      let v = fair_by_votes terms r terms.seats a f in
      need_if_tie terms r a v l m (tie_unless_above terms r a v l m (lowest_by_votes terms r a l last) (highest_by_votes terms r a m next) above) group class

  pub few_lists_of : length a ≤ 60
  few_lists_of = omega (arith, f.one_each, count_is terms sound, sound.few_lists)

  -- the list that won last is one of the contest, and so is the next
  pub last_listed : (l : ℕ) → IsLowestLast (placed_race terms) a l → l < length a
  last_listed l last = omega (arith, within_placed terms (races terms sound) l (omega (arith, last.wins, f.high l)), f.one_each)

  pub next_listed : (m : ℕ) → IsHighestNext (placed_race terms) a m → m < length a
  next_listed m next = omega (arith, within_placed terms (races terms sound) m (omega (arith, next.runs, f.low m)), f.one_each)

  pub listed_in : (l : ℕ) → l < length a → l < length terms.poll.votes
  listed_in l lt = omega (arith, f.one_each, count_is terms sound)

  -- .. at a place that fits
  pub listed_fits : (l : ℕ) → l < length a → Fits w64 (l * 4)
  listed_fits l lt = omega (arith, few_lists_of)

  pub next_fits : (m : ℕ) → IsHighestNext (placed_race terms) a m → Fits w32 (get_or a m 0 + 1)
  next_fits m next = omega (arith, cap_small terms sound m, next.runs)

  pub last_is_pair : (l : ℕ) → IsLowestLast (placed_race terms) a l → IsPair (vote_race terms) l (get_or a l 0)
  last_is_pair l last = pair_from_placed terms (races terms sound) l (get_or a l 0) (last.wins, f.high l)

  pub next_is_pair : (m : ℕ) → IsHighestNext (placed_race terms) a m → IsPair (vote_race terms) m (get_or a m 0 + 1)
  next_is_pair m next = pair_from_placed terms (races terms sound) m (get_or a m 0 + 1) (omega (arith, f.low m), omega (arith, next.runs))
