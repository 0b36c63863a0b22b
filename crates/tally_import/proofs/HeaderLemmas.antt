-- The lists of a header, one after the other.
use Rattle.std.proofs.Common.{◌≡◌, ◌<◌, ◌≤◌, ◌+◌, ◌++◌, ◌∷◌, ◌∙◌, ℕ, List, [], Bool, true, false, Option, Some, None, length, drop, get_or, refl, sym, ap, subst, arith, append_assoc, add-one}
use Rattle.std.specs.Prelude.{◌&&◌, ◌||◌, not, if◌then◌else◌, nat_le, codes}
use Rattle.std.specs.List.{list_all, list_any}
use Rattle.std.proofs.lemmas.Bool.{le-leb, leb-true}
use Rattle.std.proofs.Math.Seq.{drop-cons}
use Rattle.std.proofs.lemmas.List.{append-nil}
use Rattle.tally_setup.specs.Code.{is_code, code_of}
use Rattle.tally_import.specs.Header.{same_text, are_distinct_codes, are_lists, header_lists}

-- whether a code is among others
abbrev pub stands_in : List (List ℕ) → List ℕ → Bool
stands_in seen code = list_any (λ y. same_text y code) seen

-- these lists and those that follow, where each is a code that did not occur before
unfoldable pub lists_from : List (List ℕ) → List (List ℕ) → Option (List (List ℕ))
lists_from seen [] = Some seen
lists_from seen (code ∷ rest) = if is_code code && not (stands_in seen code) then lists_from (seen ++ code ∷ []) rest else None

-- none of the lists that follow is among these
are_new : List (List ℕ) → List (List ℕ) → Bool
are_new seen rest = list_all (λ x. not (stands_in seen x)) rest

all_good : List (List ℕ) → List (List ℕ) → Bool
all_good seen rest = list_all is_code rest && are_distinct_codes rest && are_new seen rest

any-push : (p : List ℕ → Bool) (xs : List (List ℕ)) (x : List ℕ) → list_any p (xs ++ x ∷ []) ≡ (list_any p xs || p x)
any-push p [] x = or_false (p x)
  where
    or_false : (b : Bool) → (b || false) ≡ (false || b)
    or_false true = refl
    or_false false = refl
any-push p (y ∷ xs) x = ap (λ b. p y || b) (any-push p xs x) ∙ or_assoc (p y) (list_any p xs) (p x)
  where
    or_assoc : (a b c : Bool) → (a || (b || c)) ≡ ((a || b) || c)
    or_assoc true b c = refl
    or_assoc false b c = refl

new-push : (seen : List (List ℕ)) (code : List ℕ) (rest : List (List ℕ)) → are_new (seen ++ code ∷ []) rest ≡ (are_new seen rest && not (list_any (same_text code) rest))
unfolding are_new
new-push seen code [] = refl
new-push seen code (x ∷ rest) =
    ap (λ b. not b && are_new (seen ++ code ∷ []) rest) (any-push (λ y. same_text y x) seen code)
    ∙ ap (λ b. not (stands_in seen x || same_text code x) && b) (new-push seen code rest)
    ∙ regroup (stands_in seen x) (same_text code x) (are_new seen rest) (list_any (same_text code) rest)
  where
    regroup : (a b c d : Bool) → (not (a || b) && (c && not d)) ≡ ((not a && c) && not (b || d))
    regroup true b c d = refl
    regroup false true true d = refl
    regroup false true false d = refl
    regroup false false c d = refl

lists_from-good : (seen rest : List (List ℕ)) → lists_from seen rest ≡ (if all_good seen rest then Some (seen ++ rest) else None)
unfolding lists_from all_good are_new
lists_from-good seen [] = ap Some (sym (append-nil seen))
lists_from-good seen (code ∷ rest) =
    ap (λ o. if is_code code && not (stands_in seen code) then o else None) (lists_from-good (seen ++ code ∷ []) rest)
    ∙ ap (λ b. if is_code code && not (stands_in seen code) then (if (list_all is_code rest && are_distinct_codes rest) && b then Some ((seen ++ code ∷ []) ++ rest) else None) else None) (new-push seen code rest)
    ∙ ap (λ l. if is_code code && not (stands_in seen code) then (if (list_all is_code rest && are_distinct_codes rest) && (are_new seen rest && not (list_any (same_text code) rest)) then Some l else None) else None) (append_assoc seen (code ∷ []) rest)
    ∙ regroup (is_code code) (stands_in seen code) (list_all is_code rest) (are_distinct_codes rest) (are_new seen rest) (list_any (same_text code) rest) (Some (seen ++ code ∷ rest))
  where
    regroup : (c s a d n t : Bool) (o : Option (List (List ℕ)))
        → (if c && not s then (if (a && d) && (n && not t) then o else None) else None) ≡ (if ((c && a) && (not t && d)) && (not s && n) then o else None)
    regroup true true true true n true o = refl
    regroup true true true true n false o = refl
    regroup true true true false n true o = refl
    regroup true true true false n false o = refl
    regroup true true false d n t o = refl
    regroup true false true true true true o = refl
    regroup true false true true true false o = refl
    regroup true false true true false true o = refl
    regroup true false true true false false o = refl
    regroup true false true false n true o = refl
    regroup true false true false n false o = refl
    regroup true false false d n t o = refl
    regroup false s a d n t o = refl

pub lists_from-no_code : (seen : List (List ℕ)) (text : List ℕ) (rest : List (List ℕ)) → is_code text ≡ false → lists_from seen (text ∷ rest) ≡ None
unfolding lists_from
lists_from-no_code seen text rest other = rw other refl

pub lists_from-again : (seen : List (List ℕ)) (text : List ℕ) (rest : List (List ℕ)) → stands_in seen text ≡ true → lists_from seen (text ∷ rest) ≡ None
unfolding lists_from
lists_from-again seen text rest again = rw again (never (is_code text))
  where
    never : (b : Bool) → (if b && not true then lists_from (seen ++ text ∷ []) rest else None) ≡ None
    never true = refl
    never false = refl

pub lists_from-next : (seen : List (List ℕ)) (text : List ℕ) (rest : List (List ℕ)) → is_code text ≡ true → stands_in seen text ≡ false
    → lists_from seen (text ∷ rest) ≡ lists_from (seen ++ text ∷ []) rest
unfolding lists_from
lists_from-next seen text rest code new = rw (code, new) refl

pub lists_from-end : (seen : List (List ℕ)) → lists_from seen [] ≡ Some seen
unfolding lists_from
lists_from-end seen = refl

-- whether a record begins with the fixed names
abbrev pub has_names : List (List ℕ) → Bool
has_names fields =
    same_text (get_or fields 0 []) (codes "station") && same_text (get_or fields 1 []) (codes "slip")
    && same_text (get_or fields 2 []) (codes "blank") && same_text (get_or fields 3 []) (codes "spoiled")

new-nothing : (rest : List (List ℕ)) → are_new [] rest ≡ true
unfolding are_new
new-nothing [] = refl
new-nothing (x ∷ rest) = new-nothing rest

lists_from-nothing : (lists : List (List ℕ)) → 1 ≤ length lists → length lists ≤ 60 → (if are_lists lists then Some lists else None) ≡ lists_from [] lists
unfolding all_good
lists_from-nothing lists some few =
    ap (λ b. if ((b && nat_le (length lists) 60) && list_all is_code lists) && are_distinct_codes lists then Some lists else None) (le-leb 1 (length lists) some)
    ∙ ap (λ b. if (b && list_all is_code lists) && are_distinct_codes lists then Some lists else None) (le-leb (length lists) 60 few)
    ∙ go (list_all is_code lists && are_distinct_codes lists)
    ∙ ap (λ b. if (list_all is_code lists && are_distinct_codes lists) && b then Some lists else None) (sym (new-nothing lists))
    ∙ sym (lists_from-good [] lists)
  where
    go : (b : Bool) → (if b then Some lists else None) ≡ (if b && true then Some lists else None)
    go true = refl
    go false = refl

-- a record of 5 to 64 fields that begins with the fixed names
pub header_lists-named : (fields : List (List ℕ)) → 5 ≤ length fields → length fields ≤ 64 → has_names fields ≡ true → header_lists fields ≡ lists_from [] (drop 4 fields)
header_lists-named (a ∷ b ∷ c ∷ d ∷ lists) some few names =
    ap (λ t. if t && are_lists lists then Some lists else None) names
    ∙ lists_from-nothing lists (omega arith) (omega arith)
header_lists-named [] some few names = absurd (omega arith)
header_lists-named (a ∷ []) some few names = absurd (omega arith)
header_lists-named (a ∷ b ∷ []) some few names = absurd (omega arith)
header_lists-named (a ∷ b ∷ c ∷ []) some few names = absurd (omega arith)

-- the text at a place, and those after it
pub drop-at : (fields : List (List ℕ)) (place : ℕ) → place < length fields → drop place fields ≡ get_or fields place [] ∷ drop (place + 1) fields
drop-at fields place within = rw (add-one place) (drop-cons fields place [] within)

-- what a text that is a code is, and one that is none
pub code_of-some : (text code : List ℕ) → code_of text ≡ Some code → (is_code text ≡ true) × (code ≡ text)
code_of-some text code e = go (is_code text) e
  where
    go : (b : Bool) → (if b then Some text else None) ≡ Some code → (b ≡ true) × (code ≡ text)
    go true e = (refl, cc)
    go false e = cc

pub code_of-none : (text : List ℕ) → code_of text ≡ None → is_code text ≡ false
code_of-none text e = go (is_code text) e
  where
    go : (b : Bool) → (if b then Some text else None) ≡ None → b ≡ false
    go true e = cc
    go false e = refl

-- ---- a header names few lists

and-left : (a b : Bool) → (a && b) ≡ true → a ≡ true
and-left true b is = refl
and-left false b is = is

and-right : (a b : Bool) → (a && b) ≡ true → b ≡ true
and-right true b is = is
and-right false b is = let never : false ≡ true = is in cc never

few-lists : (lists : List (List ℕ)) → are_lists lists ≡ true → length lists ≤ 60
few-lists lists is = leb-true (length lists) 60 (and-right (nat_le 1 (length lists)) _ (and-left _ (list_all is_code lists) (and-left _ (are_distinct_codes lists) is)))

pub header-few : (fields : List (List ℕ)) (lists : List (List ℕ)) → Some lists ≡ header_lists fields → length lists ≤ 60
header-few [] lists is = cc
header-few (a ∷ []) lists is = cc
header-few (a ∷ b ∷ []) lists is = cc
header-few (a ∷ b ∷ c ∷ []) lists is = cc
header-few (a ∷ b ∷ c ∷ d ∷ more) lists is = go _ refl is
  where
    fixed : Bool
    fixed = same_text a (codes "station") && same_text b (codes "slip") && same_text c (codes "blank") && same_text d (codes "spoiled")

    go : (is_good : Bool) → (fixed && are_lists more) ≡ is_good → Some lists ≡ (if is_good then Some more else None) → length lists ≤ 60
    go true good same =
        let all : lists ≡ more = cc in
        subst (λ l. length l ≤ 60) (sym all) (few-lists more (and-right fixed (are_lists more) good))
    go false bad same = cc
