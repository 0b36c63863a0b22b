-- The line of a constituency.
use Rattle.std.proofs.Common.{◌≡◌, ◌∙◌, ℕ, List, [], ◌∷◌, ◌++◌, ap, append_assoc}
use Rattle.std.specs.List.{flat_map}

-- seven columns after a code, and what comes after them
pub columns_are : (column : ℕ → List ℕ) (old code x y z one two : List ℕ) (a b c d e f g : ℕ) (numbers : List ℕ)
    → one ≡ old ++ code → two ≡ one ++ flat_map column numbers → numbers ≡ a ∷ b ∷ c ∷ d ∷ e ∷ f ∷ g ∷ []
    → two ++ x ++ y ++ z
    ≡ old ++ (code ++ column a ++ column b ++ column c ++ column d ++ column e ++ column f ++ column g ++ x ++ y ++ z)
columns_are column old code x y z one two a b c d e f g numbers first second are =
    ap (λ t. t ++ x ++ y ++ z) (second ∙ ap (λ t. t ++ flat_map column numbers) first ∙ ap (λ ns. old ++ code ++ flat_map column ns) are)
    ∙ joined
  where
    joined : old ++ code ++ flat_map column (a ∷ b ∷ c ∷ d ∷ e ∷ f ∷ g ∷ []) ++ x ++ y ++ z
        ≡ old ++ (code ++ column a ++ column b ++ column c ++ column d ++ column e ++ column f ++ column g ++ x ++ y ++ z)
    joined = simp append_assoc
