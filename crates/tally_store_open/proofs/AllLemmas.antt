-- What holds of the first elements of a list, one by one.
use Rattle.std.proofs.Common.{◌≡◌, ◌<◌, ◌≤◌, ◌+◌, ℕ, All, List, [], ◌∷◌, ◌++◌, length, take, get_or, sym, ap, subst, ◌∙◌}
use Rattle.std.proofs.lemmas.List.{take_more, take_all}
use Rattle.std.proofs.lemmas.List.Elements.{recursion_from_All, All-from_recursion}
use Rattle.sqlite_keyed.proofs.ListLemmas.{all-append}

module _ {X : Type 0} (P : X → Type 0) where
  pub all_more : (xs : List X) (i : ℕ) (x : X) → i < length xs → x ≡ get_or xs i x → P x → All P (take i xs) → All P (take (i + 1) xs)
  all_more xs i x low at one before =
      subst (All P) (sym (take_more xs i x low ∙ ap (λ y. take i xs ++ y ∷ []) (sym at))) (All-from_recursion P (take i xs ++ x ∷ []) (all-append P (take i xs) (x ∷ []) (recursion_from_All P (take i xs) before) (one, tt)))

  pub all_end : (xs : List X) (i : ℕ) → length xs ≤ i → All P (take i xs) → All P xs
  all_end xs i past before = subst (All P) (take_all i xs past) before
