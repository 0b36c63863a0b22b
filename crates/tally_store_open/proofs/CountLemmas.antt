-- As many codes as a setup has constituencies, all of them its own and
-- no two the same, are all that it has.
use Rattle.std.proofs.Common.{◌≡◌, ◌≢◌, ◌<◌, ◌≤◌, ◌+◌, ◌||◌, ℕ, suc, Bool, true, false, cond, List, [], ◌∷◌, length, true≢false, refl, sym, ap, ◌∙◌, arith}
use Rattle.std.specs.Prelude.{bytes_eq}
use Rattle.std.specs.List.{AllByRecursion}
use Rattle.std.proofs.lemmas.Bool.{false_from_ne_true}
use Rattle.std.proofs.lemmas.Slice.Eq.{bytes_eq-Decides}
use Rattle.sqlite_keyed.proofs.ListLemmas.{all_weaker}
use Rattle.tally_setup.specs.Codes.{AreDistinct, is_among_codes}

-- no code is one of those before it
abbrev pub AreApart : List (List ℕ) → Type 0
AreApart [] = Unit {0}
AreApart (x ∷ xs) = AllByRecursion (λ z. bytes_eq z x ≡ false) xs × AreApart xs

abbrev without_code : List ℕ → List (List ℕ) → List (List ℕ)
without_code x [] = []
without_code x (y ∷ ys) = cond (bytes_eq x y) ys (y ∷ without_code x ys)

one_less : (x : List ℕ) (ys : List (List ℕ)) → is_among_codes x ys ≡ true → length ys ≡ length (without_code x ys) + 1
one_less x [] h = absurd (true≢false (sym h))
one_less x (y ∷ ys) h = go (bytes_eq x y) h (one_less x ys)
  where
    go : (b : Bool) → (b || is_among_codes x ys) ≡ true → (is_among_codes x ys ≡ true → length ys ≡ length (without_code x ys) + 1) → length (y ∷ ys) ≡ length (cond b ys (y ∷ without_code x ys)) + 1
    go true h later = omega arith
    go false h later = omega (arith, later h)

still_among : (x z : List ℕ) (ys : List (List ℕ)) → bytes_eq z x ≡ false → is_among_codes z ys ≡ true → is_among_codes z (without_code x ys) ≡ true
still_among x z [] apart h = h
still_among x z (y ∷ ys) apart h = go (bytes_eq x y) refl (bytes_eq z y) refl h (still_among x z ys apart)
  where
    go : (b : Bool) → bytes_eq x y ≡ b → (d : Bool) → bytes_eq z y ≡ d → (d || is_among_codes z ys) ≡ true → (is_among_codes z ys ≡ true → is_among_codes z (without_code x ys) ≡ true) → is_among_codes z (cond b ys (y ∷ without_code x ys)) ≡ true
    go true same true tied h later =
        let e : z ≡ x = (bytes_eq-Decides z y).0 tied ∙ sym ((bytes_eq-Decides x y).0 same) in
        absurd (true≢false (sym ((bytes_eq-Decides z x).1 e) ∙ apart))
    go true same false other h later = h
    go false differs true tied h later = ap (λ d. d || is_among_codes z (without_code x ys)) tied
    go false differs false other h later = ap (λ d. d || is_among_codes z (without_code x ys)) other ∙ later h

abbrev pub AreWithin : List (List ℕ) → List (List ℕ) → Type 0
AreWithin xs ys = AllByRecursion (λ x. is_among_codes x ys ≡ true) xs

all_both : {X : Type 0} (P Q : X → Type 0) (xs : List X) → AllByRecursion P xs → AllByRecursion Q xs → AllByRecursion (λ x. P x × Q x) xs
all_both P Q [] p q = tt
all_both P Q (x ∷ xs) p q = ((p.0, q.0), all_both P Q xs p.1 q.1)

pub no_more : (xs ys : List (List ℕ)) → AreApart xs → AreWithin xs ys → length xs ≤ length ys
no_more [] ys apart within = omega arith
no_more (x ∷ xs) ys apart within =
    let rest = all_weaker _ (λ z. is_among_codes z (without_code x ys) ≡ true) (λ z both. still_among x z ys both.0 both.1) xs (all_both (λ z. bytes_eq z x ≡ false) (λ z. is_among_codes z ys ≡ true) xs apart.0 within.1) in
    omega (arith, one_less x ys within.0, no_more xs (without_code x ys) apart.1 rest)

apart_from : (z : List ℕ) (xs : List (List ℕ)) → is_among_codes z xs ≡ false → AllByRecursion (λ w. bytes_eq w z ≡ false) xs
apart_from z [] h = tt
apart_from z (x ∷ xs) h = go (bytes_eq z x) refl h (apart_from z xs)
  where
    go : (b : Bool) → bytes_eq z x ≡ b → (b || is_among_codes z xs) ≡ false → (is_among_codes z xs ≡ false → AllByRecursion (λ w. bytes_eq w z ≡ false) xs) → AllByRecursion (λ w. bytes_eq w z ≡ false) (x ∷ xs)
    go true is h later = absurd (true≢false h)
    go false is h later = (false_from_ne_true (bytes_eq x z) (λ e. true≢false (sym ((bytes_eq-Decides z x).1 (sym ((bytes_eq-Decides x z).0 e))) ∙ is)), later h)

-- and then each of the others is one of these
pub all_covered : (xs ys : List (List ℕ)) → AreApart xs → AreWithin xs ys → length ys ≤ length xs → (z : List ℕ) → is_among_codes z ys ≡ true → is_among_codes z xs ≡ true
all_covered xs ys apart within enough z known = go (is_among_codes z xs) refl
  where
    go : (b : Bool) → is_among_codes z xs ≡ b → is_among_codes z xs ≡ true
    go true is = is
    go false is = absurd (omega (arith, enough, no_more (z ∷ xs) ys (apart_from z xs is, apart) (known, within)))

pub apart_from_distinct : (codes : List (List ℕ)) → AreDistinct codes → AreApart codes
apart_from_distinct [] h = tt
apart_from_distinct (x ∷ xs) h = (first xs (λ i d low. h 0 (suc i) d (omega arith) (omega (arith, low))), apart_from_distinct xs (λ i j d low within. h (suc i) (suc j) d (omega (arith, low)) (omega (arith, within))))
  where
    first : (zs : List (List ℕ)) → ((i : ℕ) (d : List ℕ) → i < length zs → x ≢ Rattle.std.proofs.Common.get_or zs i d) → AllByRecursion (λ z. bytes_eq z x ≡ false) zs
    first [] h = tt
    first (z ∷ zs) h = (false_from_ne_true (bytes_eq z x) (λ e. h 0 z (omega arith) (sym ((bytes_eq-Decides z x).0 e))), first zs (λ i d low. h (suc i) d (omega (arith, low))))
