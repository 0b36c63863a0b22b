-- The header and the stations of a constituency.
use Rattle.std.proofs.Common.{◌≡◌, ◌<◌, ◌+◌, ◌∷◌, ◌∙◌, ℕ, zero, suc, List, [], Bool, true, false, cond, Option, Some, None, length, map, drop, get_or, refl, sym, ap, arith, add-one, option_map, is_some}
use Rattle.std.specs.Prelude.{not, ◌&&◌, ◌||◌}
use Rattle.std.specs.HashSet.{Updates, contains}
use Rattle.std.specs.Cmp.Lexicographic.{pointwise}
use Rattle.std.specs.List.{list_any, find}
use Rattle.std.specs.Str.{bytes_eq}
use Rattle.std.proofs.Math.Seq.{drop-cons}
use Rattle.std.proofs.lemmas.Slice.Eq.{bytes_eq-Decides}
use Rattle.tally_setup.specs.Constituency.{Constituency, ListEntry, list_codes, station_codes}
use Rattle.tally_setup.specs.declared.constituency.Station.{Station}
use Rattle.tally_returns.specs.Decide.{station_in, limits_of}
use Rattle.tally_import.specs.Header.{same_text}
use Rattle.tally_import.specs.ReturnRows.{station_limits_in}
use Rattle.tally_import.specs.StationSet.{Codes}
use Rattle.tally_import.proofs.HeaderLemmas.{drop-at}

-- ---- the header

-- the name at a place, and those after it
pub names-at : (lists fields : List (List ℕ)) (place : ℕ) → place < length lists → 4 + place < length fields
    → pointwise same_text (drop (4 + place) fields) (drop place lists)
    ≡ (same_text (get_or fields (4 + place) []) (get_or lists place []) && pointwise same_text (drop (4 + (place + 1)) fields) (drop (place + 1) lists))
names-at lists fields place within inside =
    let next : (4 + place) + 1 ≡ 4 + (place + 1) = omega arith in
    ap (λ l. pointwise same_text l (drop place lists)) (drop-at fields (4 + place) inside ∙ ap (λ n. get_or fields (4 + place) [] ∷ drop n fields) next)
    ∙ ap (pointwise same_text (get_or fields (4 + place) [] ∷ drop (4 + (place + 1)) fields)) (drop-at lists place within)

-- the code of a list
pub code-at : (lists : List ListEntry) (place : ℕ) (d : ListEntry) → place < length lists → get_or (list_codes lists) place [] ≡ (get_or lists place d).code
code-at [] place d within = absurd (omega (arith, within))
code-at (list ∷ lists) zero d within = refl
code-at (list ∷ lists) (suc place) d within = code-at lists place d (omega (arith, within))

pub not-true : (b : Bool) → true ≡ not b → b ≡ false
not-true true e = cc
not-true false e = refl

pub not-false : (b : Bool) → false ≡ not b → b ≡ true
not-false true e = refl
not-false false e = cc

-- ---- the stations

any-find : {X : Type 0} (p : X → Bool) (xs : List X) → is_some (find p xs) ≡ list_any p xs
any-find p [] = refl
any-find p (x ∷ xs) = go (p x) (any-find p xs)
  where
    go : (b : Bool) → is_some (find p xs) ≡ list_any p xs → is_some (cond b (Some x) (find p xs)) ≡ (b || list_any p xs)
    go true e = refl
    go false e = e

any-map : {X : Type 0} (f : X → List ℕ) (q : List ℕ) (xs : List X) → list_any (bytes_eq q) (map f xs) ≡ list_any (λ x. bytes_eq q (f x)) xs
any-map f q [] = refl
any-map f q (x ∷ xs) = ap (λ b. bytes_eq q (f x) || b) (any-map f q xs)

some-map : {X Y : Type 0} (f : X → Y) (o : Option X) → is_some (option_map f o) ≡ is_some o
some-map f None = refl
some-map f (Some x) = refl

pub is_some-stations : (con : Constituency) (code : List ℕ) → list_any (bytes_eq code) (station_codes con.stations) ≡ is_some (station_limits_in con code)
is_some-stations con code =
    any-map (λ (station : Station). station.code) code con.stations
    ∙ sym (any-find (λ (station : Station). bytes_eq code station.code) con.stations)
    ∙ sym (some-map (limits_of con) (station_in con code))

same-either : (a b : List ℕ) → bytes_eq a b ≡ bytes_eq b a
same-either a b = go (bytes_eq a b) (bytes_eq b a) (bytes_eq-Decides a b) (bytes_eq-Decides b a)
  where
    go : (s t : Bool) → (s ≡ true → a ≡ b) × (a ≡ b → s ≡ true) → (t ≡ true → b ≡ a) × (b ≡ a → t ≡ true) → s ≡ t
    go true true e f = refl
    go true false e f = sym (f.1 (sym (e.0 refl)))
    go false true e f = e.1 (sym (f.0 refl))
    go false false e f = refl

-- one more station in the set, and one less to come
pub station-moved : (old new : Codes) (stations : List Station) (place : ℕ) (d : Station) (code : List ℕ) (q : List ℕ)
    → place < length stations → code ≡ (get_or stations place d).code → Updates bytes_eq old new code true
    → (contains bytes_eq new q || list_any (bytes_eq q) (station_codes (drop (place + 1) stations)))
    ≡ (contains bytes_eq old q || list_any (bytes_eq q) (station_codes (drop place stations)))
station-moved old new stations place d code q within is updates =
    ap (λ b. b || later) (updates.0 q ∙ ap (λ b. cond b true had) (same-either code q ∙ ap (bytes_eq q) is))
    ∙ go (bytes_eq q (get_or stations place d).code) had
    ∙ ap (λ l. had || list_any (bytes_eq q) (station_codes l)) (sym here)
  where
    later : Bool
    later = list_any (bytes_eq q) (station_codes (drop (place + 1) stations))

    had : Bool
    had = contains bytes_eq old q

    here : drop place stations ≡ get_or stations place d ∷ drop (place + 1) stations
    here = rw (add-one place) (drop-cons stations place d within)

    go : (b o : Bool) → (cond b true o || later) ≡ (o || (b || later))
    go true true = refl
    go true false = refl
    go false o = refl
