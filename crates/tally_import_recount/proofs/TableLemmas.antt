-- The stations of a table, and those that words name.
use Rattle.std.proofs.Common.{◌≡◌, ◌<◌, ◌+◌, ◌∷◌, ◌∙◌, ℕ, List, Bool, true, false, cond, Option, Some, None, length, take, drop, get_or, refl, sym, ap, arith, add-one, option_map, is_some}
use Rattle.std.specs.Prelude.{nat_eq, if◌then◌else◌, ◌||◌, not, Vec}
use Rattle.std.specs.declared.alloc.Global.{Global}
use Rattle.std.specs.Cmp.Lexicographic.{pointwise}
use Rattle.std.specs.HashMap as table
use Rattle.std.specs.HashSet as set
use Rattle.std.specs.List.{find, list_any}
use Rattle.std.specs.Str.{bytes_eq}
use Rattle.std.proofs.Math.Seq.{drop-cons}
use Rattle.std.proofs.lemmas.List.Sums.{count_by_more_no, count_by_more_yes}
use Rattle.tally_setup.specs.Code.{code_of, is_code}
use Rattle.tally_setup.specs.Codes.{is_among_codes}
use Rattle.tally_setup.specs.Constituency.{Constituency, entitled}
use Rattle.tally_setup.specs.declared.constituency.Station.{Station}
use Rattle.tally_returns.specs.Decide.{station_in}
use Rattle.std.proofs.lemmas.Slice.Eq.{bytes_eq-Decides}
use Rattle.tally_import_recount.specs.Counted.{count_named, no_station}
use Rattle.tally_import_recount.specs.internal.Register.{CodeSet, HasStations, Numbers}
use Rattle.tally_import_votes.specs.Lot.{bytes_of}

-- ---- codes that are the same

same-either : (a b : List ℕ) → bytes_eq a b ≡ bytes_eq b a
same-either a b = go (bytes_eq a b) (bytes_eq b a) (bytes_eq-Decides a b) (bytes_eq-Decides b a)
  where
    go : (s t : Bool) → (s ≡ true → a ≡ b) × (a ≡ b → s ≡ true) → (t ≡ true → b ≡ a) × (b ≡ a → t ≡ true) → s ≡ t
    go true true e f = refl
    go true false e f = sym (f.1 (sym (e.0 refl)))
    go false true e f = e.1 (sym (f.0 refl))
    go false false e f = refl

-- ---- the table

abbrev pub entitled_from : List Station → List ℕ → Option ℕ
entitled_from stations code = option_map entitled (find (λ (station : Station). bytes_eq code station.code) stations)

-- one station more at the front
pub numbers-put : (old new : Numbers) (stations : List Station) (place : ℕ) (d : Station) (code : List ℕ) (n : ℕ)
    → place < length stations → code ≡ (get_or stations place d).code → n ≡ entitled (get_or stations place d)
    → table.Updates (pointwise nat_eq) old new code (Some n)
    → ((q : List ℕ) → table.get (pointwise nat_eq) old q ≡ entitled_from (drop (place + 1) stations) q)
    → (q : List ℕ) → table.get (pointwise nat_eq) new q ≡ entitled_from (drop place stations) q
numbers-put old new stations place d code n within is counts updates so_far q =
    updates.0 q
    ∙ ap (λ b. cond b (Some n) (table.get (pointwise nat_eq) old q)) (same-either code q ∙ ap (bytes_eq q) is)
    ∙ ap (cond (bytes_eq q x.code) (Some n)) (so_far q)
    ∙ go (bytes_eq q x.code)
    ∙ ap (λ l. entitled_from l q) (sym here)
  where
    x : Station
    x = get_or stations place d

    here : drop place stations ≡ x ∷ drop (place + 1) stations
    here = rw (add-one place) (drop-cons stations place d within)

    rest : Option Station
    rest = find (λ (station : Station). bytes_eq q station.code) (drop (place + 1) stations)

    go : (b : Bool) → cond b (Some n) (option_map entitled rest) ≡ option_map entitled (cond b (Some x) rest)
    go true = ap Some counts
    go false = refl

-- ---- how many are named

pub named-more : (stations : List Station) (i : ℕ) (d : Station) (words : List (List ℕ)) (b : Bool) → i < length stations
    → is_among_codes (get_or stations i d).code words ≡ b
    → count_named (take (i + 1) stations) words ≡ count_named (take i stations) words + (if b then 1 else 0)
named-more stations i d words true within is = count_by_more_yes (λ (station : Station). is_among_codes station.code words) stations i d within is
named-more stations i d words false within is = count_by_more_no (λ (station : Station). is_among_codes station.code words) stations i d within is ∙ omega arith

-- ---- words

pub no_station-here : (con : Constituency) (word : List ℕ) (words : List (List ℕ)) (b : Bool) → is_code word ≡ true → is_some (station_in con word) ≡ b
    → no_station con (word ∷ words) ≡ (if b then no_station con words else Some (Some word))
no_station-here con word words b is there =
    ap (λ c. if not c then Some None else if is_some (station_in con word) then no_station con words else Some (Some word)) is
    ∙ ap (λ c. if c then no_station con words else Some (Some word)) there

-- one word more in the set, and one less to come
pub word-moved : (old new : CodeSet) (word : List ℕ) (words : List (List ℕ)) (q : List ℕ) → set.Updates bytes_eq old new word true
    → (set.contains bytes_eq new q || is_among_codes q words) ≡ (set.contains bytes_eq old q || is_among_codes q (word ∷ words))
word-moved old new word words q updates =
    ap (λ b. b || later) (updates.0 q ∙ ap (λ b. cond b true had) (same-either word q))
    ∙ go (bytes_eq q word) had
  where
    later : Bool
    later = list_any (bytes_eq q) words

    had : Bool
    had = set.contains bytes_eq old q

    go : (b o : Bool) → (cond b true o || later) ≡ (o || (b || later))
    go true true = refl
    go true false = refl
    go false o = refl

-- the words from a place on
words-at : (words : List (Vec ℕ Global)) (i : ℕ) (d : Vec ℕ Global) → i < length words → d ≡ get_or words i d
    → bytes_of (drop i words) ≡ d.items ∷ bytes_of (drop (i + 1) words)
words-at words i d within is =
    ap bytes_of here ∙ ap (λ (w : Vec ℕ Global). w.items ∷ bytes_of (drop (i + 1) words)) (sym is)
  where
    here : drop i words ≡ get_or words i d ∷ drop (i + 1) words
    here = rw (add-one i) (drop-cons words i d within)

-- a text that is a code
code-is : (text code : List ℕ) → code_of text ≡ Some code → (is_code text ≡ true) × (text ≡ code)
code-is text code is = go (is_code text) refl is
  where
    go : (b : Bool) → is_code text ≡ b → ◌≡◌ {A = Option (List ℕ)} (if b then Some text else None) (Some code) → (is_code text ≡ true) × (text ≡ code)
    go true good same = (good, cc)
    go false good same = cc

some-map : {X Y : Type 0} (f : X → Y) (o : Option X) → is_some (option_map f o) ≡ is_some o
some-map f None = refl
some-map f (Some x) = refl

there : (con : Constituency) (numbers : Numbers) (code : List ℕ) → HasStations con numbers
    → is_some (station_in con code) ≡ is_some (table.get (pointwise nat_eq) numbers code)
there con numbers code has = sym (some-map entitled (station_in con code)) ∙ ap is_some (sym (has code))

-- a word that is the code of no station
pub word-unknown : (con : Constituency) (numbers : Numbers) (words : List (Vec ℕ Global)) (i : ℕ) (d : Vec ℕ Global) (code : List ℕ) → HasStations con numbers
    → i < length words → d ≡ get_or words i d → code_of d.items ≡ Some code → is_some (table.get (pointwise nat_eq) numbers code) ≡ false
    → no_station con (bytes_of (drop i words)) ≡ Some (Some code)
word-unknown con numbers words i d code has within is named none =
    let good = code-is d.items code named in
    ap (no_station con) (words-at words i d within is)
    ∙ no_station-here con d.items (bytes_of (drop (i + 1) words)) false good.0 (ap (λ q. is_some (station_in con q)) good.1 ∙ there con numbers code has ∙ none)
    ∙ ap (λ q. Some (Some q)) good.1

-- and a word that is that of one
pub word-known : (con : Constituency) (numbers : Numbers) (words : List (Vec ℕ Global)) (i : ℕ) (d : Vec ℕ Global) (code : List ℕ) → HasStations con numbers
    → i < length words → d ≡ get_or words i d → code_of d.items ≡ Some code → is_some (table.get (pointwise nat_eq) numbers code) ≡ true
    → no_station con (bytes_of (drop (i + 1) words)) ≡ no_station con (bytes_of (drop i words))
word-known con numbers words i d code has within is named found =
    let good = code-is d.items code named in
    sym (ap (no_station con) (words-at words i d within is)
    ∙ no_station-here con d.items (bytes_of (drop (i + 1) words)) true good.0 (ap (λ q. is_some (station_in con q)) good.1 ∙ there con numbers code has ∙ found))

-- which is then in the set
pub word-put : (old new : CodeSet) (words : List (Vec ℕ Global)) (i : ℕ) (d : Vec ℕ Global) (code : List ℕ) (q : List ℕ)
    → i < length words → d ≡ get_or words i d → code_of d.items ≡ Some code → set.Updates bytes_eq old new code true
    → (set.contains bytes_eq new q || is_among_codes q (bytes_of (drop (i + 1) words))) ≡ (set.contains bytes_eq old q || is_among_codes q (bytes_of (drop i words)))
word-put old new words i d code q within is named updates =
    word-moved old new code (bytes_of (drop (i + 1) words)) q updates
    ∙ ap (λ w. set.contains bytes_eq old q || is_among_codes q (w ∷ bytes_of (drop (i + 1) words))) (sym (code-is d.items code named).1)
    ∙ ap (λ l. set.contains bytes_eq old q || is_among_codes q l) (sym (words-at words i d within is))
