-- What lists hold in any case, and vectors that are looked at list by list.
use Rattle.std.proofs.Common.{◌≡◌, ℕ, ◌+◌, ◌<◌, ◌≤◌, ◌⊎◌, List, [], ◌∷◌, ◌++◌, length, get_or, refl, sym, ap, ◌∙◌, inl, inr, arith}
use Rattle.std.proofs.lemmas.Bool.{cases_lt}
use Rattle.std.proofs.lemmas.List.{get_or_past, get_or_append_left, get_or_push, length-replicate}
use Rattle.tally_setup.specs.declared.profile.LotRule.{LotRule}
use Rattle.tally_law.specs.Poll.{Poll, IsEligible}
use Rattle.tally_allot_award.specs.internal.Race.{Race, IsFair, IsLastFair, IsWithin}
use Rattle.tally_allot_award.specs.internal.Terms.{Terms, AreFairSoFar, AreSound, placed_divisor_race, placed_race}
use Rattle.tally_allot_award.specs.internal.WonSeat.{AreWon}
use Rattle.tally_allot_award.proofs.DivisorRace.{eligible_or_not}
use Rattle.tally_allot_award.proofs.Room.{no_seats, sum-replicate_zero, at-replicate_zero}
use Rattle.tally_allot_award.proofs.Scan.{count_is}
use Rattle.tally_allot_award.proofs.TermsRace.{races}

-- beyond the lists there are no seats in any case
floor_past : (terms : Terms) → AreSound terms → (l : ℕ) → length terms.poll.votes ≤ l → (placed_race terms).floor l ≡ 0
floor_past terms sound l past = by_test (eligible_or_not terms.poll l)
  where
    by_test : IsEligible terms.poll l ⊎ ¬ IsEligible terms.poll l → (placed_race terms).floor l ≡ 0
    by_test (inl e) = absurd (omega (arith, sound.poll.listed l e))
    by_test (inr ne) = let r = races terms sound in r.same_floor l ∙ (r.ineligible l ne).0

floor-le-cap : (terms : Terms) → AreSound terms → (l : ℕ) → (placed_race terms).floor l ≤ (placed_race terms).cap l
floor-le-cap terms sound l = by_test (eligible_or_not terms.poll l)
  where
    by_test : IsEligible terms.poll l ⊎ ¬ IsEligible terms.poll l → (placed_race terms).floor l ≤ (placed_race terms).cap l
    by_test (inl e) = let r = races terms sound in omega (arith, r.runs_if_eligible l e, r.same_floor l, r.same_cap l)
    by_test (inr ne) = omega (arith, floor_none ne)
      where
        floor_none : ¬ IsEligible terms.poll l → (placed_race terms).floor l ≡ 0
        floor_none none = let r = races terms sound in r.same_floor l ∙ (r.ineligible l none).0

-- what holds of each list in turn holds of the vector
pub within_if_each : (terms : Terms) → AreSound terms → (a : List ℕ) (n : ℕ) → length a ≡ length terms.poll.votes → length terms.poll.votes ≤ n → ((k : ℕ) → k < n → ((placed_race terms).floor k ≤ get_or a k 0) × (get_or a k 0 ≤ (placed_race terms).cap k)) → IsWithin (placed_race terms) a
within_if_each terms sound a n long past each = record { one_each = long ∙ sym (count_is terms sound); low = λ l. low l (cases_lt l n); high = λ l. high l (cases_lt l n) }
  where
    low : (l : ℕ) → (l < n) ⊎ (n ≤ l) → (placed_race terms).floor l ≤ get_or a l 0
    low l (inl lt) = (each l lt).0
    low l (inr ge) = omega (arith, floor_past terms sound l (omega (arith, past, ge)))

    high : (l : ℕ) → (l < n) ⊎ (n ≤ l) → get_or a l 0 ≤ (placed_race terms).cap l
    high l (inl lt) = (each l lt).1
    high l (inr ge) = omega (arith, get_or_past a l 0 (omega (arith, long, past, ge)))

pub fair_if_each : (terms : Terms) → (a : List ℕ) (n : ℕ) → IsWithin (placed_race terms) a → length a ≤ n → ((k : ℕ) → k < n → (placed_race terms).floor k < get_or a k 0 → IsLastFair (placed_race terms) a k) → AreFairSoFar terms a
fair_if_each terms a n w past each = record { one_each = w.one_each; low = w.low; high = w.high; total = refl; last_not_below_next = λ l m ne win runs. each l (inside l (cases_lt l n) win) win m ne runs }
  where
    inside : (l : ℕ) → (l < n) ⊎ (n ≤ l) → (placed_race terms).floor l < get_or a l 0 → l < n
    inside l (inl lt) win = lt
    inside l (inr ge) win = absurd (omega (arith, get_or_past a l 0 (omega (arith, past, ge)), win))

-- where each list holds its floor, none has won a seat
pub floors_fair : (terms : Terms) → AreSound terms → (a : List ℕ) (n : ℕ) → length a ≡ n → n ≡ length terms.poll.votes → ((k : ℕ) → k < n → get_or a k 0 ≡ (placed_race terms).floor k) → AreFairSoFar terms a
floors_fair terms sound a n long all each =
    fair_if_each terms a n (within_if_each terms sound a n (long ∙ all) (omega (arith, all)) (λ k lt. (omega (arith, each k lt), omega (arith, each k lt, floor-le-cap terms sound k)))) (omega (arith, long)) (λ k lt win. absurd (omega (arith, each k lt, win)))

-- one list more holds its floor
pub pushed_floor : (f : ℕ → ℕ) (a b : List ℕ) (n x : ℕ) → length a ≡ n → ((k : ℕ) → k < n → get_or a k 0 ≡ f k) → x ≡ f n → b ≡ a ++ x ∷ [] → (k : ℕ) → k < n + 1 → get_or b k 0 ≡ f k
pushed_floor f a b n x long each e is k lt = ap (λ xs. get_or xs k 0) is ∙ by_cases (cases_lt k n)
  where
    by_cases : (k < n) ⊎ (n ≤ k) → get_or (a ++ x ∷ []) k 0 ≡ f k
    by_cases (inl h) = get_or_append_left a (x ∷ []) 0 k (omega (arith, long, h)) ∙ each k h
    by_cases (inr h) = let q : n ≡ k = omega (arith, lt, h) in get_or_push a x 0 k (long ∙ q) ∙ e ∙ ap f q

-- no seats at all are fair where none is given
pub none_fair : (nth : ℕ → ℕ) (lot_rule : LotRule) (poll : Poll) (lot : List ℕ) (seats : ℕ) → IsFair (placed_divisor_race nth lot_rule poll lot seats) 0 (no_seats (length poll.votes))
none_fair nth lot_rule poll lot seats = record { one_each = length-replicate {A = ℕ} (length poll.votes) 0; low = λ l. omega arith; high = λ l. omega (arith, at-replicate_zero (length poll.votes) l); total = sum-replicate_zero (length poll.votes); last_not_below_next = λ l m ne win. absurd (omega (arith, at-replicate_zero (length poll.votes) l, win)) }

pub none_won : (race : Race) (n : ℕ) → AreWon race (no_seats n) []
none_won race n = record { each = λ i d lt. absurd (omega (arith, lt)); all = λ l k low high. absurd (omega (arith, at-replicate_zero n l, low, high)); falling = λ i j d lt len. absurd (omega (arith, len)); ahead = λ i d m lt. absurd (omega (arith, lt)) }

module _ (race : Race) (a : List ℕ) (w : IsWithin race a) (l n : ℕ) where
  pub not_low : n ≡ race.floor l → get_or a l 0 < n → ⊥
  not_low e lt = omega (arith, e, lt, w.low l)

  pub not_high : n ≡ race.cap l → n < get_or a l 0 → ⊥
  not_high e lt = omega (arith, e, lt, w.high l)

pub not_won : (race : Race) (a : List ℕ) (l n : ℕ) → n ≡ race.floor l → get_or a l 0 ≤ n → race.floor l < get_or a l 0 → ⊥
not_won race a l n e le win = omega (arith, e, le, win)

-- where a count up to an end has ended
pub at_end : (i m n : ℕ) → m ≤ i → i ≤ m → m ≡ n → i ≡ n
at_end i m n ge le e = omega (arith, ge, le, e)
