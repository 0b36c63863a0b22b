-- What a text names is of its code.
use Rattle.std.proofs.Common.{◌≡◌, ◌∙◌, ℕ, Bool, cond, true, false, List, [], ◌∷◌, Option, Some, None, ap, refl, subst, sym}
use Rattle.std.specs.List.{AllByRecursion}
use Rattle.std.specs.List.{find}
use Rattle.std.specs.Str.{bytes_eq}
use Rattle.std.proofs.lemmas.List.Elements.{recursion_from_All}
use Rattle.std.proofs.lemmas.Slice.Eq.{bytes_eq-Decides}
use Rattle.tally_setup.specs.Code.{code_of, is_code}
use Rattle.tally_setup.specs.Constituency.{Constituency}
use Rattle.tally_setup.specs.Limits.{IsConstituency, IsSetup}
use Rattle.tally_setup.specs.Setup.{constituency_with}

found-first : {X : Type 0} (p : X → Bool) (y : X) (ys : List X) (x : X) → (find p ys ≡ Some x → p x ≡ true)
    → (b : Bool) → p y ≡ b → cond b (Some y) (find p ys) ≡ Some x → p x ≡ true
found-first p y ys x rest true h s = let same : y ≡ x = cc in subst (λ z. p z ≡ true) same h
found-first p y ys x rest false h s = rest s

found-passes : {X : Type 0} (p : X → Bool) (xs : List X) (x : X) → find p xs ≡ Some x → p x ≡ true
found-passes p [] x e = cc
found-passes p (y ∷ ys) x e = found-first p y ys x (found-passes p ys x) (p y) refl e

pub con-code : (text : List ℕ) (setup : List Constituency) (con : Constituency) → constituency_with text setup ≡ Some con → text ≡ con.code
con-code text setup con found =
    (bytes_eq-Decides text con.code).0 (found-passes (λ (c : Constituency). bytes_eq text c.code) setup con found)

holds-first : {X : Type 0} (P : X → Type 0) (p : X → Bool) (y : X) (ys : List X) (x : X) → P y → (find p ys ≡ Some x → P x)
    → (b : Bool) → p y ≡ b → cond b (Some y) (find p ys) ≡ Some x → P x
holds-first P p y ys x first rest true h s = let same : y ≡ x = cc in subst P same first
holds-first P p y ys x first rest false h s = rest s

found-holds : {X : Type 0} (P : X → Type 0) (p : X → Bool) (xs : List X) (x : X) → AllByRecursion P xs → find p xs ≡ Some x → P x
found-holds P p [] x all e = cc
found-holds P p (y ∷ ys) x all e = holds-first P p y ys x all.0 (found-holds P p ys x all.1) (p y) refl e

none-of-code : (text : List ℕ) → None ≡ code_of text → is_code text ≡ true → ⊥
none-of-code text none is = let e : None ≡ Some text = none ∙ ap (λ b. cond b (Some text) None) is in cc

-- a text that is no code names no constituency
pub no-con : (text : List ℕ) (setup : List Constituency) → IsSetup setup → None ≡ code_of text → None ≡ constituency_with text setup
no-con text setup limits none = go (constituency_with text setup) refl
  where
    go : (found : Option Constituency) → constituency_with text setup ≡ found → None ≡ found
    go None is = refl
    go (Some con) is =
        let held = found-holds IsConstituency (λ (c : Constituency). bytes_eq text c.code) setup con (recursion_from_All IsConstituency setup limits.each_constituency) is in
        let same : is_code text ≡ true = subst (λ t. is_code t ≡ true) (sym (con-code text setup con is)) held.code in
        absurd (none-of-code text none same)
