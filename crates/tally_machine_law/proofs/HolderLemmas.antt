-- Candidates who stay.
use Rattle.std.proofs.Common.{◌≡◌, ◌∙◌, ℕ, zero, suc, ◌+◌, List, [], ◌∷◌, ◌++◌, Bool, true, false, ap, arith}
use Rattle.std.proofs.Common.{cond, append-nil}
use Rattle.std.proofs.Math.Numerals.{add-one}
use Rattle.std.specs.Prelude.{not}
use Rattle.std.specs.List.{filter, range_with_len}
use Rattle.std.proofs.lemmas.List.Elements.{filter-append}
use Rattle.tally_machine_law.specs.Holders.{is_among, remaining_candidates}

-- one number more
pub range-more : (a n : ℕ) → range_with_len a (suc n) ≡ range_with_len a n ++ (a + n) ∷ []
range-more a zero = ap (λ m. m ∷ []) (let e : a ≡ a + 0 = omega arith in e)
range-more a (suc n) =
    ap (λ rest. a ∷ rest) (range-more (a + 1) n)
    ∙ ap (λ m. (a ∷ range_with_len (a + 1) n) ++ m ∷ []) (let e : a + 1 + n ≡ a + suc n = omega arith in e)

-- one candidate more, who stays
pub staying-more : (n : ℕ) (gone : List ℕ) → is_among (n + 1) gone ≡ false → remaining_candidates (n + 1) gone ≡ remaining_candidates n gone ++ (n + 1) ∷ []
staying-more n gone stays =
    let p : ℕ → Bool = λ place. not (is_among place gone) in
    let passes : p (n + 1) ≡ true = ap not stays in
    let more : range_with_len 1 (n + 1) ≡ range_with_len 1 n ++ (n + 1) ∷ [] = rw add-one (range-more 1 n ∙ ap (λ m. range_with_len 1 n ++ m ∷ []) (omega arith)) in
    ap (filter p) more ∙ filter-append p (range_with_len 1 n) ((n + 1) ∷ []) ∙ ap (λ b. filter p (range_with_len 1 n) ++ cond b ((n + 1) ∷ []) []) passes

-- one candidate more, who is gone
pub staying-same : (n : ℕ) (gone : List ℕ) → is_among (n + 1) gone ≡ true → remaining_candidates (n + 1) gone ≡ remaining_candidates n gone
staying-same n gone left =
    let p : ℕ → Bool = λ place. not (is_among place gone) in
    let fails : p (n + 1) ≡ false = ap not left in
    let more : range_with_len 1 (n + 1) ≡ range_with_len 1 n ++ (n + 1) ∷ [] = rw add-one (range-more 1 n ∙ ap (λ m. range_with_len 1 n ++ m ∷ []) (omega arith)) in
    ap (filter p) more ∙ filter-append p (range_with_len 1 n) ((n + 1) ∷ []) ∙ ap (λ b. filter p (range_with_len 1 n) ++ cond b ((n + 1) ∷ []) []) fails ∙ append-nil (filter p (range_with_len 1 n))
