-- Texts that are appended one after the other.
use Rattle.std.proofs.Common.{◌≡◌, ◌++◌, List, ℕ, ap, sym, ◌∙◌, append_assoc}

pub three : (old a b c : List ℕ) → old ++ a ++ b ++ c ≡ old ++ (a ++ b ++ c)
three old a b c = ap (λ (l : List ℕ). l ++ c) (append_assoc old a b) ∙ append_assoc old (a ++ b) c

pub two_behind : (old a b c : List ℕ) → old ++ a ++ (b ++ c) ≡ old ++ (a ++ b ++ c)
two_behind old a b c = append_assoc old a (b ++ c) ∙ ap (λ (l : List ℕ). old ++ l) (sym (append_assoc a b c))
