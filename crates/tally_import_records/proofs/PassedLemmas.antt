-- What is left of records after those that were passed over.
use Rattle.std.proofs.Common.{◌≡◌, ◌≤◌, ◌<◌, ◌+◌, ◌∷◌, ◌∙◌, ℕ, List, [], length, drop, get_or, sym, ap, arith, add-one, length-drop}
use Rattle.std.proofs.Math.Seq.{drop-cons}

-- the records that are left, one of them read
pub left-more : (records left rest : List (List (List ℕ))) (n : ℕ) (fields : List (List ℕ)) → left ≡ drop n records → left ≡ fields ∷ rest
    → (n < length records) × (fields ≡ get_or records n []) × (rest ≡ drop (n + 1) records)
left-more records left rest n fields is more =
    let same : drop n records ≡ fields ∷ rest = sym is ∙ more in
    let within : n < length records = omega (arith, ap length same, length-drop n records) in
    let first : get_or records n [] ∷ drop (n + 1) records ≡ fields ∷ rest = ap (λ k. get_or records n [] ∷ drop k records) (add-one n) ∙ sym (drop-cons records n [] within) ∙ same in
    (within, cc first, cc first)

-- none is left
pub left-none : (records left : List (List (List ℕ))) (n : ℕ) → left ≡ drop n records → left ≡ [] → length records ≤ n
left-none records left n is none = omega (arith, ap length (sym is ∙ none), length-drop n records)
