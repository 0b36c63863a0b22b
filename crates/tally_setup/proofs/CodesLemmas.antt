-- Codes in order: the place of each, and that they differ.
use Rattle.std.proofs.Common.{◌≡◌, ◌≢◌, ◌<◌, ℕ, zero, suc, Bool, true, false, cond, List, [], ◌∷◌, ◌++◌, length, map, Option, Some, None, option_map, is_some, arith, refl, ap, ◌∙◌, sym, get_or}
use Rattle.std.specs.Prelude.{◌||◌, IfSome}
use Rattle.std.specs.List.{slice_get, find}
use Rattle.std.specs.Option.{option_or, option_and_then}
use Rattle.std.specs.Str.{bytes_eq}
use Rattle.std.specs.HashMap.{get, Updates}
use Rattle.std.proofs.lemmas.Slice.Eq.{bytes_eq-Decides}
use Rattle.std.proofs.lemmas.List.Quantifiers.{all_pairs_push}
use Rattle.tally_setup.specs.Codes.{is_among_codes, index_of, AreDistinct}
use Rattle.tally_setup.specs.internal.Index.{IsIndex, Places}

-- a code added at the end is at the place after the others, unless it was there
pub index_of-push : (q code : List ℕ) (codes : List (List ℕ)) → index_of q (codes ++ code ∷ []) ≡ option_or (index_of q codes) (cond (bytes_eq q code) (Some (length codes)) None)
index_of-push q code [] = by_case (bytes_eq q code)
  where
    by_case : (b : Bool) → cond b (Some 0) (option_map suc None) ≡ cond b (Some 0) None
    by_case true = refl
    by_case false = refl
index_of-push q code (first ∷ others) = ap (λ o. cond (bytes_eq q first) (Some 0) (option_map suc o)) (index_of-push q code others) ∙ by_case (bytes_eq q first) (index_of q others) (bytes_eq q code)
  where
    by_case : (b : Bool) (o : Option ℕ) (same : Bool) → cond b (Some 0) (option_map suc (option_or o (cond same (Some (length others)) None))) ≡ option_or (cond b (Some 0) (option_map suc o)) (cond same (Some (suc (length others))) None)
    by_case true o same = refl
    by_case false None true = refl
    by_case false None false = refl
    by_case false (Some i) same = refl

-- a code has a place where it is one of them
pub is_some-index_of : (q : List ℕ) (codes : List (List ℕ)) → is_some (index_of q codes) ≡ is_among_codes q codes
is_some-index_of q [] = refl
is_some-index_of q (first ∷ others) = by_case (bytes_eq q first) (index_of q others) (is_some-index_of q others)
  where
    by_case : (b : Bool) (o : Option ℕ) → is_some o ≡ is_among_codes q others → is_some (cond b (Some 0) (option_map suc o)) ≡ (b || is_among_codes q others)
    by_case true o e = refl
    by_case false None e = e
    by_case false (Some i) e = e

-- the entry of a code is the one at its place
pub find-index_of : {X : Type 0} (code : X → List ℕ) (q : List ℕ) (xs : List X) → find (λ x. bytes_eq q (code x)) xs ≡ option_and_then (slice_get xs) (index_of q (map code xs))
find-index_of code q [] = refl
find-index_of code q (x ∷ xs) = by_case (bytes_eq q (code x)) (index_of q (map code xs)) (find-index_of code q xs)
  where
    by_case : (b : Bool) (o : Option ℕ) → find (λ x. bytes_eq q (code x)) xs ≡ option_and_then (slice_get xs) o → cond b (Some x) (find (λ x. bytes_eq q (code x)) xs) ≡ option_and_then (slice_get (x ∷ xs)) (cond b (Some 0) (option_map suc o))
    by_case true o e = refl
    by_case false None e = e
    by_case false (Some i) e = e

-- a code that is none of them differs from each
pub differs : (q : List ℕ) (codes : List (List ℕ)) → is_among_codes q codes ≡ false → (k : ℕ) (d : List ℕ) → k < length codes → get_or codes k d ≢ q
differs q [] e k d l = λ _. omega arith
differs q (first ∷ others) e k d l = by_place (bytes_eq q first) e (bytes_eq-Decides q first) (differs q others) k l
  where
    by_place : (b : Bool) → (b || is_among_codes q others) ≡ false → (b ≡ true → q ≡ first) × (q ≡ first → b ≡ true) → (is_among_codes q others ≡ false → (k : ℕ) (d : List ℕ) → k < length others → get_or others k d ≢ q) → (k : ℕ) → k < length (first ∷ others) → get_or (first ∷ others) k d ≢ q
    by_place true e same rest k l = λ _. cc
    by_place false e same rest zero l = λ h. let t : false ≡ true = same.1 (sym h) in cc
    by_place false e same rest (suc k) l = rest e k d (omega arith)

-- codes that differ, and one more that is none of them
pub AreDistinct-push : (code : List ℕ) (codes : List (List ℕ)) → is_among_codes code codes ≡ false → AreDistinct codes → AreDistinct (codes ++ code ∷ [])
AreDistinct-push code codes new distinct = all_pairs_push (λ a b. a ≢ b) codes code distinct (differs code codes new)

-- the map has the codes
pub is_some-index : (code : List ℕ) (codes : List (List ℕ)) (places : Places) → IsIndex codes places → is_some (get bytes_eq places code) ≡ is_among_codes code codes
is_some-index code codes places index = ap is_some (index.found code) ∙ is_some-index_of code codes

-- the map with the place of one more code
pub IsIndex-push : (code : List ℕ) (codes : List (List ℕ)) (old new : Places) → IsIndex codes old → is_among_codes code codes ≡ false → Updates bytes_eq old new code (Some (length codes)) → IsIndex (codes ++ code ∷ []) new
IsIndex-push code codes old new index absent updates = record {
  distinct = AreDistinct-push code codes absent index.distinct;
  found = λ q. updates.0 q ∙ at q (bytes_eq-Decides code q) (bytes_eq-Decides q code);
}
  where
    or_none : (o : Option ℕ) → o ≡ option_or o None
    or_none None = refl
    or_none (Some i) = refl

    none_of : (o : Option ℕ) → is_some o ≡ false → o ≡ None
    none_of None e = refl
    none_of (Some i) e = cc

    none : (q : List ℕ) → is_among_codes q codes ≡ false → index_of q codes ≡ None
    none q e = none_of (index_of q codes) (is_some-index_of q codes ∙ e)

    by_case : (q : List ℕ) (s t : Bool) → (s ≡ true → code ≡ q) × (code ≡ q → s ≡ true) → (t ≡ true → q ≡ code) × (q ≡ code → t ≡ true) → cond s (Some (length codes)) (index_of q codes) ≡ option_or (index_of q codes) (cond t (Some (length codes)) None)
    by_case q true true e f = let h : index_of q codes ≡ None = none q (ap (λ x. is_among_codes x codes) (f.0 refl) ∙ absent) in rw h
    by_case q true false e f = let h : false ≡ true = f.1 (sym (e.0 refl)) in cc
    by_case q false true e f = let h : false ≡ true = e.1 (sym (f.0 refl)) in cc
    by_case q false false e f = or_none (index_of q codes)

    at : (q : List ℕ) → (bytes_eq code q ≡ true → code ≡ q) × (code ≡ q → bytes_eq code q ≡ true) → (bytes_eq q code ≡ true → q ≡ code) × (q ≡ code → bytes_eq q code ≡ true) → cond (bytes_eq code q) (Some (length codes)) (get bytes_eq old q) ≡ index_of q (codes ++ code ∷ [])
    at q e f = ap (cond (bytes_eq code q) (Some (length codes))) (index.found q) ∙ by_case q (bytes_eq code q) (bytes_eq q code) e f ∙ sym (index_of-push q code codes)

-- a place is one of a code
pub index_of-below : (q : List ℕ) (codes : List (List ℕ)) (i : ℕ) → index_of q codes ≡ Some i → i < length codes
index_of-below q [] i e = cc
index_of-below q (first ∷ others) i e = by_case (bytes_eq q first) (index_of q others) (index_of-below q others) e
  where
    by_case : (b : Bool) (o : Option ℕ) → ((j : ℕ) → o ≡ Some j → j < length others) → cond b (Some 0) (option_map suc o) ≡ Some i → i < length (first ∷ others)
    by_case true o rest e = let z : 0 ≡ i = cc in omega (arith, z)
    by_case false None rest e = cc
    by_case false (Some j) rest e = let z : suc j ≡ i = cc in let below : j < length others = rest j refl in omega (arith, z, below)

-- a place is below what the number of the codes is below
pub index_of-fits : (q : List ℕ) (codes : List (List ℕ)) (o : Option ℕ) (n : ℕ) → o ≡ index_of q codes → length codes < n → IfSome o (λ place. place < n)
index_of-fits q codes None n e below = tt
index_of-fits q codes (Some i) n e below = let place : i < length codes = index_of-below q codes i (sym e) in omega (arith, place, below)
