-- The places of those who hold seats, and the lines of the seats that are empty.
use Rattle.std.proofs.Common.{◌≡◌, ◌≤◌, ◌<◌, ◌∙◌, ℕ, zero, suc, ◌+◌, List, [], ◌∷◌, ◌++◌, Bool, true, false, length, get_or, refl, sym, ap, append_assoc, arith}
use Rattle.std.specs.Prelude.{not, take, if◌then◌else◌}
use Rattle.std.specs.List.{filter, range_with_len, repeat}
use Rattle.std.proofs.lemmas.List.{append-nil}
use Rattle.tally_machine_law.specs.Holders.{holders, is_among, remaining_candidates}

kept : (keep : Bool) (a n i : ℕ) (rest : List ℕ) → ((j : ℕ) → j < length rest → (a + 1 ≤ get_or rest j 0) × (get_or rest j 0 < a + 1 + n))
    → i < length (if keep then a ∷ rest else rest) → (a ≤ get_or (if keep then a ∷ rest else rest) i 0) × (get_or (if keep then a ∷ rest else rest) i 0 < a + suc n)
kept true a n zero rest each lt = (omega arith, omega arith)
kept true a n (suc i) rest each lt = let at = each i (omega arith) in (omega (arith, at.0), omega (arith, at.1))
kept false a n i rest each lt = let at = each i lt in (omega (arith, at.0), omega (arith, at.1))

-- those of a range that pass a test are of the range
within : (keeps : ℕ → Bool) (a n i : ℕ) → i < length (filter keeps (range_with_len a n)) → (a ≤ get_or (filter keeps (range_with_len a n)) i 0) × (get_or (filter keeps (range_with_len a n)) i 0 < a + n)
within keeps a zero i lt = absurd (omega arith)
within keeps a (suc n) i lt = kept (keeps a) a n i (filter keeps (range_with_len (a + 1) n)) (within keeps (a + 1) n) lt

first : (s i : ℕ) (xs : List ℕ) → i < length (take s xs) → (i < length xs) × (get_or (take s xs) i 0 ≡ get_or xs i 0)
first zero i xs lt = absurd (omega arith)
first (suc s) i [] lt = absurd (omega arith)
first (suc s) zero (x ∷ xs) lt = (omega arith, refl)
first (suc s) (suc i) (x ∷ xs) lt = let r = first s i xs (omega arith) in (omega (arith, r.0), r.1)

-- who holds a seat is a candidate
pub holder-within : (candidates seats : ℕ) (gone : List ℕ) (i : ℕ) → i < length (holders candidates seats gone) → (1 ≤ get_or (holders candidates seats gone) i 0) × (get_or (holders candidates seats gone) i 0 ≤ candidates)
holder-within candidates seats gone i lt =
    let f = first seats i (remaining_candidates candidates gone) lt in
    let w = within (λ place. not (is_among place gone)) 1 candidates i f.0 in
    (omega (arith, f.1, w.0), omega (arith, f.1, w.1))

repeat-next : (n : ℕ) (xs : List ℕ) → repeat (suc n + 1) xs ≡ xs ++ repeat (n + 1) xs
repeat-next n xs = let s : suc n + 1 ≡ suc (n + 1) = omega arith in ap (λ k. repeat k xs) s

-- once more
pub repeat-more : (n : ℕ) (xs : List ℕ) → repeat (n + 1) xs ≡ repeat n xs ++ xs
repeat-more zero xs = append-nil xs
repeat-more (suc n) xs = rw (repeat-next n xs) (ap (λ r. xs ++ r) (repeat-more n xs) ∙ sym (append_assoc xs (repeat n xs) xs))
