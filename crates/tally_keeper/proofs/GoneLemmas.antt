-- Candidates who are gone, as a list in order and as a map.
use Rattle.std.proofs.Common.{◌≡◌, ◌<◌, ◌+◌, ◌∷◌, ◌++◌, ◌∙◌, ℕ, suc, List, [], Bool, true, false, cond, length, map, take, drop, Some, None, refl, sym, ap, subst, arith}
use Rattle.std.specs.Prelude.{slice_index}
use Rattle.std.specs.Cmp.Lexicographic.{nat_list_cmp_total}
use Rattle.std.specs.FinMap.{empty, entries, entries-insert, find, get, get-entries, insert, len-empty, len-entries, nat_cmp-IsAntisymmetric, slice_cmp-IsAntisymmetric}
use Rattle.std.specs.FinMap.Entries.{by_order, put}
use Rattle.std.specs.Ordering.{MatchOrdering, is_eq, nat_cmp, ordering_then}
use Rattle.std.specs.declared.cmp.Ordering.{Ordering}
use Rattle.std.specs.declared.cmp.Ordering.TheVariants.{Less, Equal, Greater}
use Rattle.std.proofs.lemmas.Cmp.{ranked}
use Rattle.tally_setup.specs.Code.{code_cmp}
use Rattle.tally_returns.specs.GoneCandidate.{GoneCandidate}
use Rattle.tally_returns.specs.View.{gone_candidate, gone_candidates, is_before}
use Rattle.tally_keeper.specs.internal.Rows.{gone_by_places, gone_place, with_gone}
use Rattle.tally_keeper.proofs.MapLemmas.{rows-insert}

-- the place of a candidate's list, and its own place there
abbrev pub key_of : GoneCandidate → List ℕ
key_of g = g.list ∷ g.place ∷ []

abbrev entry_of : GoneCandidate → List ℕ × List ℕ
entry_of g = (key_of g, g.note)

-- the key is two numbers
abbrev IsPair : List ℕ → Type 0
IsPair key = key ≡ slice_index key 0 ∷ slice_index key 1 ∷ []

abbrev ArePairs : List (List ℕ × List ℕ) → Type 0
ArePairs [] = Unit {0}
ArePairs (e ∷ es) = IsPair e.0 × ArePairs es

pub entries-empty : {K X : Type 0} (R : K → K → Ordering) → entries (empty {X = X} {R = R}) ≡ []
entries-empty {K} {X} R = none (entries (empty {X = X} {R = R})) (sym (len-entries (empty {X = X} {R = R})) ∙ len-empty R X)
  where
    none : (es : List (K × X)) → length es ≡ 0 → es ≡ []
    none [] is = refl
    none (e ∷ es) is = absurd (omega (arith, is))

put-pairs : (key note : List ℕ) (es : List (List ℕ × List ℕ)) → IsPair key → ArePairs es → ArePairs (put code_cmp key note es)
put-pairs key note [] is pairs = (is, tt)
put-pairs key note (e ∷ es) is pairs = go (code_cmp key e.0) (put-pairs key note es is pairs.1)
  where
    go : (o : Ordering) → ArePairs (put code_cmp key note es) → ArePairs (by_order o ((key, note) ∷ e ∷ es) ((e.0, note) ∷ es) (e ∷ put code_cmp key note es))
    go Less rest = (is, pairs)
    go Equal rest = pairs
    go Greater rest = (pairs.0, rest)

gone_of-pairs : (gone : List GoneCandidate) → ArePairs (entries (gone_by_places gone))
gone_of-pairs [] = subst ArePairs (sym (entries-empty code_cmp)) tt
gone_of-pairs (g ∷ gone) = subst ArePairs (sym (entries-insert nat_list_cmp_total (gone_by_places gone) (key_of g) g.note)) (put-pairs (key_of g) g.note (entries (gone_by_places gone)) refl (gone_of-pairs gone))

-- a map of the keys of candidates is got back from its candidates
back : (es : List (List ℕ × List ℕ)) → ArePairs es → map entry_of (map gone_candidate es) ≡ es
back [] pairs = refl
back (e ∷ es) pairs = λ i. (sym pairs.0 i, e.1) ∷ back es pairs.1 i

-- how a candidate's key compares with another
abbrev IsOrder : GoneCandidate → GoneCandidate → Ordering → Type 0
IsOrder g h Less = is_before h g ≡ false
IsOrder g h Equal = Unit {0}
IsOrder g h Greater = is_before h g ≡ true

order-is : (g h : GoneCandidate) → IsOrder g h (code_cmp (key_of g) (key_of h))
order-is g h = by_lists (nat_cmp g.list h.list) (nat_cmp g.place h.place) (ranked g.list h.list (nat_cmp g.list h.list) refl) (ranked g.place h.place (nat_cmp g.place h.place) refl)
  where
    by_lists : (a b : Ordering) → MatchOrdering a (g.list < h.list) (g.list ≡ h.list) (h.list < g.list) → MatchOrdering b (g.place < h.place) (g.place ≡ h.place) (h.place < g.place)
        → IsOrder g h (ordering_then a (ordering_then b Equal))
    by_lists Less b lists places = grind (arith, lists)
    by_lists Equal Less lists places = grind (arith, lists, places)
    by_lists Equal Equal lists places = tt
    by_lists Equal Greater lists places = grind (arith, lists, places)
    by_lists Greater b lists places = grind (arith, lists)

with_gone-cons : (g x : GoneCandidate) (xs : List GoneCandidate) → with_gone g (x ∷ xs) ≡ cond (is_before x g) (x ∷ with_gone g xs) (g ∷ x ∷ xs)
with_gone-cons g x xs = by_case (is_before x g)
  where
    by_case : (b : Bool) → take (cond b (1 + gone_place g xs) 0) (x ∷ xs) ++ g ∷ drop (cond b (1 + gone_place g xs) 0) (x ∷ xs) ≡ cond b (x ∷ with_gone g xs) (g ∷ x ∷ xs)
    by_case true = let one : 1 + gone_place g xs ≡ suc (gone_place g xs) = omega arith in ap (λ n. take n (x ∷ xs) ++ g ∷ drop n (x ∷ xs)) one
    by_case false = refl

placed : (g : GoneCandidate) (es : List (List ℕ × List ℕ)) → ArePairs es → find code_cmp (key_of g) es ≡ None → map gone_candidate (put code_cmp (key_of g) g.note es) ≡ with_gone g (map gone_candidate es)
placed g [] pairs none = refl
placed g (e ∷ es) pairs none =
    go (code_cmp (key_of g) e.0) refl (subst (λ key. IsOrder g (gone_candidate e) (code_cmp (key_of g) key)) (sym pairs.0) (order-is g (gone_candidate e))) none (placed g es pairs.1)
    ∙ sym (with_gone-cons g (gone_candidate e) (map gone_candidate es))
  where
    go : (o : Ordering) → code_cmp (key_of g) e.0 ≡ o → IsOrder g (gone_candidate e) o → cond (is_eq o) (Some e.1) (find code_cmp (key_of g) es) ≡ None
        → (find code_cmp (key_of g) es ≡ None → map gone_candidate (put code_cmp (key_of g) g.note es) ≡ with_gone g (map gone_candidate es))
        → map gone_candidate (by_order o ((key_of g, g.note) ∷ e ∷ es) ((e.0, g.note) ∷ es) (e ∷ put code_cmp (key_of g) g.note es))
        ≡ cond (is_before (gone_candidate e) g) (gone_candidate e ∷ with_gone g (map gone_candidate es)) (g ∷ gone_candidate e ∷ map gone_candidate es)
    go Less at order none later = ap (λ b. cond b (gone_candidate e ∷ with_gone g (map gone_candidate es)) (g ∷ gone_candidate e ∷ map gone_candidate es)) (sym order)
    go Equal at order none later = absurd cc
    go Greater at order none later =
        ap (λ xs. gone_candidate e ∷ xs) (later none) ∙ ap (λ b. cond b (gone_candidate e ∷ with_gone g (map gone_candidate es)) (g ∷ gone_candidate e ∷ map gone_candidate es)) (sym order)

-- one more is gone, who was not
pub gone-insert : (g : GoneCandidate) (gone : List GoneCandidate) → gone ≡ gone_candidates (gone_by_places gone) → get (gone_by_places gone) (key_of g) ≡ None
    → with_gone g gone ≡ gone_candidates (insert (gone_by_places gone) (key_of g) g.note)
gone-insert g gone is none =
    ap (with_gone g) is ∙ sym (placed g (entries (gone_by_places gone)) (gone_of-pairs gone) (sym (get-entries (gone_by_places gone) (key_of g)) ∙ none))
    ∙ ap (map gone_candidate) (sym (entries-insert nat_list_cmp_total (gone_by_places gone) (key_of g) g.note))

pub gone_of-insert : (g : GoneCandidate) (gone : List GoneCandidate) → gone ≡ gone_candidates (gone_by_places gone) → get (gone_by_places gone) (key_of g) ≡ None
    → gone_by_places (with_gone g gone) ≡ insert (gone_by_places gone) (key_of g) g.note
gone_of-insert g gone is none =
    rows-insert nat_list_cmp_total (slice_cmp-IsAntisymmetric nat_cmp-IsAntisymmetric) key_of (λ (h : GoneCandidate). h.note) gone_candidate gone (with_gone g gone) (key_of g) g.note (gone-insert g gone is none)
    (back (entries (insert (gone_by_places gone) (key_of g) g.note)) (subst ArePairs (sym (entries-insert nat_list_cmp_total (gone_by_places gone) (key_of g) g.note))
    (put-pairs (key_of g) g.note (entries (gone_by_places gone)) refl (gone_of-pairs gone))))

pub gone-stays : (g : GoneCandidate) (gone : List GoneCandidate) → gone ≡ gone_candidates (gone_by_places gone) → get (gone_by_places gone) (key_of g) ≡ None
    → with_gone g gone ≡ gone_candidates (gone_by_places (with_gone g gone))
gone-stays g gone is none = gone-insert g gone is none ∙ sym (ap gone_candidates (gone_of-insert g gone is none))
