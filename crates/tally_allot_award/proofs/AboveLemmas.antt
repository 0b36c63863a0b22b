-- Which of two pairs ranks above the other, from what the votes alone say.
use Rattle.std.proofs.Common.{◌≡◌, ℕ, ◌*◌, ◌<◌, ◌≤◌, ◌⊎◌, true, false, ltb, refl, sym, inl, inr, arith}
use Rattle.std.specs.Bool.{IsTrue}
use Rattle.std.proofs.lemmas.Bool.{cases_lt, false≢true}
use Rattle.std.proofs.lemmas.Bool.Decides.{Decides-ltb}
use Rattle.tally_frac.specs.Rank.{Pair, RanksAbove, RanksAboveByVotes, TiesByVotes, VotesRankAbove}

module _ (p q : Pair) (v d w e : ℕ) (pv : v ≡ p.votes) (pd : d ≡ p.divisor) (qv : w ≡ q.votes) (qd : e ≡ q.divisor) where
  to : VotesRankAbove v d w e → RanksAboveByVotes p q
  to h = rw (pv, pd, qv, qd) at h

  from : RanksAboveByVotes p q → VotesRankAbove v d w e
  from h = rw (pv, pd, qv, qd) h

  to_back : VotesRankAbove w e v d → RanksAboveByVotes q p
  to_back h = rw (pv, pd, qv, qd) at h

  from_back : RanksAboveByVotes q p → VotesRankAbove w e v d
  from_back h = rw (pv, pd, qv, qd) h

  pub above_by_votes : VotesRankAbove v d w e → (IsTrue true → RanksAbove p q) × (RanksAbove p q → IsTrue true)
  above_by_votes h = (λ _. inl (to h), λ _. refl)

  not_tied : RanksAboveByVotes q p → TiesByVotes p q → ⊥
  not_tied (inl g) t = omega (arith, g, t.0)
  not_tied (inr g) t = omega (arith, g.1, t.1)

  pub below_by_votes : ¬ VotesRankAbove v d w e → VotesRankAbove w e v d → (IsTrue false → RanksAbove p q) × (RanksAbove p q → IsTrue false)
  below_by_votes nb h = (λ f. absurd (false≢true f), none)
    where
      none : RanksAbove p q → IsTrue false
      none (inl b) = absurd (nb (from b))
      none (inr t) = absurd (not_tied (to_back h) t.0)

  tie : ¬ VotesRankAbove v d w e → ¬ VotesRankAbove w e v d → TiesByVotes p q
  tie nb other = (level, same (cases_lt p.votes q.votes) (cases_lt q.votes p.votes))
    where
      by_cases : (p.votes * q.divisor < q.votes * p.divisor) ⊎ (q.votes * p.divisor ≤ p.votes * q.divisor) → (q.votes * p.divisor < p.votes * q.divisor) ⊎ (p.votes * q.divisor ≤ q.votes * p.divisor) → p.votes * q.divisor ≡ q.votes * p.divisor
      by_cases (inl lt) _ = absurd (other (from_back (inl lt)))
      by_cases (inr _) (inl gt) = absurd (nb (from (inl gt)))
      by_cases (inr ge) (inr le) = omega (arith, ge, le)

      level : p.votes * q.divisor ≡ q.votes * p.divisor
      level = by_cases (cases_lt (p.votes * q.divisor) (q.votes * p.divisor)) (cases_lt (q.votes * p.divisor) (p.votes * q.divisor))

      same : (p.votes < q.votes) ⊎ (q.votes ≤ p.votes) → (q.votes < p.votes) ⊎ (p.votes ≤ q.votes) → p.votes ≡ q.votes
      same (inl lt) _ = absurd (other (from_back (inr (sym level, lt))))
      same (inr _) (inl gt) = absurd (nb (from (inr (level, gt))))
      same (inr ge) (inr le) = omega (arith, ge, le)

  pub above_by_place : ¬ VotesRankAbove v d w e → ¬ VotesRankAbove w e v d → (i j : ℕ) → i ≡ p.place → j ≡ q.place → (IsTrue (ltb i j) → RanksAbove p q) × (RanksAbove p q → IsTrue (ltb i j))
  above_by_place nb other i j pi qj = (λ lt. inr (tie nb other, rw (pi, qj) at ((Decides-ltb i j).0 lt)), first)
    where
      first : RanksAbove p q → IsTrue (ltb i j)
      first (inl b) = absurd (nb (from b))
      first (inr t) = (Decides-ltb i j).1 (rw (pi, qj) t.1)
