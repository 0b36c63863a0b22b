use Rattle.std.proofs.Common.{◌≡◌, ◌||◌, ◌++◌, ◌∷◌, ◌∙◌, ℕ, Bool, true, false, List, [], ap, arith, refl}
use Rattle.std.specs.Prelude.{nat_eq}
use Rattle.tally_machine_law.specs.Holders.{is_among}
use Rattle.tally_machine.proofs.vacancy.next_holder.Goals as goal

or_turned : (a b c : Bool) → (a || (b || c)) ≡ (b || (a || c))
or_turned true true c = refl
or_turned true false c = refl
or_turned false true c = refl
or_turned false false c = refl

-- one who is gone last is gone
gone_last : (gone : List ℕ) (place other : ℕ) → is_among other (gone ++ place ∷ []) ≡ is_among other (place ∷ gone)
gone_last [] place other = refl
gone_last (g ∷ gone) place other = ap (λ b. nat_eq other g || b) (gone_last gone place other) ∙ or_turned (nat_eq other g) (nat_eq other place) (is_among other gone)

pub returns : goal.returns
returns c = grind (arith, gone_last)
