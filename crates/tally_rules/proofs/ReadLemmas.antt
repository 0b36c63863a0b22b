-- A fault found in a step of a reading is found in the whole.
use Rattle.std.proofs.Common.{◌≡◌, ◌<◌, ◌≤◌, ◌+◌, ◌++◌, ◌∙◌, sym, get_or, drop, length-append, ap, refl, true, false, ℕ, Bool, Option, Some, Result, Ok, Err, List, [], ◌∷◌, map, length}
use Rattle.std.specs.Prelude.{◌==◌, not, nat_lt, if◌then◌else◌}
use Rattle.std.specs.List.{list_all}
use Rattle.std.specs.Str.{IsUtf8, is_utf8}
use Rattle.std.proofs.lemmas.Str.{IsUtf8-from_is_utf8}
use Rattle.toml.specs.Data.{Data, as_array}
use Rattle.std.proofs.lemmas.List.{length-map, drop_more, drop_all}
use Rattle.std.proofs.lemmas.List.Folds.{list_all-map}
use Rattle.toml.specs.View.{view, items_view}
use Rattle.toml.specs.declared.value.Value.{Value}
use Rattle.tally_rules.specs.Fault.{Fault, Placed, missing, bad_value, over_limit, without_place, IsFaultIn, IsPlacedFaultIn}
use Rattle.tally_rules.specs.declared.fault.SetupFault.{SetupFault}
use Rattle.tally_rules.specs.declared.fault.SetupFault.TheVariants as answer
use Rattle.tally_rules.specs.internal.Found.{IsFoundAt}
use Rattle.tally_rules.specs.declared.place.Place.{Place}
use Rattle.tally_rules.specs.Reading.{◌>>=◌, list_of, read_value, read_array, in_turn}
use Rattle.tally_rules.specs.declared.read.fault.KeyFault.{KeyFault as Found}
use Rattle.tally_rules.specs.declared.read.fault.KeyFault.TheVariants as found

pub IsFoundAt-step : {A B : Type 0} (reading : Result A Placed) (step : A → Result B Placed) (place : Option Place) (fault : Found) → IsFoundAt reading place fault → IsFoundAt (reading >>= step) place fault
IsFoundAt-step reading step place (found.Missing key) e = ap (λ r. r >>= step) e
IsFoundAt-step reading step place (found.BadValue key) e = ap (λ r. r >>= step) e
IsFoundAt-step reading step place (found.OverLimit key) e = ap (λ r. r >>= step) e
IsFoundAt-step reading step place (found.Duplicate code) e = ap (λ r. r >>= step) e
IsFoundAt-step reading step place found.UnknownProfile e = ap (λ r. r >>= step) e
IsFoundAt-step reading step place found.Memory e = e

-- what the reading is equal to has the fault
pub IsFoundAt-same : {A : Type 0} (reading other : Result A Placed) (place : Option Place) (fault : Found) → other ≡ reading → IsFoundAt reading place fault → IsFoundAt other place fault
IsFoundAt-same reading other place fault e h = rw e h

-- the fault that is beside a place
pub IsFaultIn-placed : {A : Type 0} (reading : Result A Placed) (fault : SetupFault) (place : Option Place) → IsPlacedFaultIn reading (fault, place) → IsFaultIn reading fault
IsFaultIn-placed reading answer.NotToml place e = ap without_place e
IsFaultIn-placed reading (answer.Missing key) place e = ap without_place e
IsFaultIn-placed reading (answer.BadValue key) place e = ap without_place e
IsFaultIn-placed reading (answer.OverLimit key) place e = ap without_place e
IsFaultIn-placed reading (answer.Duplicate code) place e = ap without_place e
IsFaultIn-placed reading answer.UnknownProfile place e = ap without_place e
IsFaultIn-placed reading answer.Memory place e = tt

-- the items of an array as a list
pub list_of-items_view : (values : List Value) → list_of (items_view values) ≡ map view values
list_of-items_view [] = refl
list_of-items_view (value ∷ values) = ap (λ ds. view value ∷ ds) (list_of-items_view values)

pub length-map_view : (values : List Value) → length (map view values) ≡ length values
length-map_view values = length-map values view

-- the checks of an array, over its values
abbrev pub checked_array : (Data → Bool) → List ℕ → ℕ → List Value → Result (List Data) Fault
checked_array is_wanted key limit values =
    if length values == 0 then Err (missing key)
    else if not (list_all (λ v. is_wanted (view v)) values) then Err (bad_value key)
    else if nat_lt limit (length values) then Err (over_limit key)
    else Ok (map view values)

pub read_array-checked : (is_wanted : Data → Bool) (key : List ℕ) (limit : ℕ) (entry value : Data) (values : List Value) → read_value key entry ≡ Ok value → Some (items_view values) ≡ as_array value → read_array is_wanted key limit entry ≡ checked_array is_wanted key limit values
unfolding read_array
read_array-checked is_wanted key limit entry value values found array =
    rw (found, ← array, list_of-items_view values, length-map_view values, list_all-map is_wanted view values)

-- How far the entries are read: those so far, beside what is left, come to what they all come to.
pub record IsReadTo {A : Type 0} (read : List A → Data → Result A Placed) (entries : List Value) (so_far : List A) (i : ℕ) : Type 0 where
  pub whole : in_turn read [] (map view entries) ≡ in_turn read so_far (map view (drop i entries))
  pub count : length so_far ≡ i

-- one more entry
pub read-more : {A : Type 0} (read : List A → Data → Result A Placed) (entries : List Value) (so_far : List A) (i : ℕ) (entry : Value) (a : A) → IsReadTo read entries so_far i → i < length entries → entry ≡ get_or entries i entry → read so_far (view entry) ≡ Ok a → IsReadTo read entries (so_far ++ a ∷ []) (i + 1)
unfolding in_turn
read-more read entries so_far i entry a to within here one = record {
  whole = to.whole ∙ ap (λ es. in_turn read so_far (map view es)) (drop_more entries i entry within ∙ ap (λ e. e ∷ drop (i + 1) entries) (sym here)) ∙ ap (λ r. r >>= (λ x. in_turn read (so_far ++ x ∷ []) (map view (drop (i + 1) entries)))) one;
  count = length-append so_far (a ∷ []) ∙ ap (λ n. n + 1) to.count;
}

-- an entry with a fault
pub read-fault : {A : Type 0} (read : List A → Data → Result A Placed) (entries : List Value) (so_far : List A) (i : ℕ) (entry : Value) (place : Option Place) (fault : Found) → IsReadTo read entries so_far i → i < length entries → entry ≡ get_or entries i entry → IsFoundAt (read so_far (view entry)) place fault → IsFoundAt (in_turn read [] (map view entries)) place fault
unfolding in_turn
read-fault read entries so_far i entry place fault to within here found =
    IsFoundAt-same _ _ place fault
    (to.whole ∙ ap (λ es. in_turn read so_far (map view es)) (drop_more entries i entry within ∙ ap (λ e. e ∷ drop (i + 1) entries) (sym here)))
    (IsFoundAt-step (read so_far (view entry)) (λ x. in_turn read (so_far ++ x ∷ []) (map view (drop (i + 1) entries))) place fault found)

-- all entries
pub read-end : {A : Type 0} (read : List A → Data → Result A Placed) (entries : List Value) (so_far : List A) (i : ℕ) → IsReadTo read entries so_far i → length entries ≤ i → in_turn read [] (map view entries) ≡ Ok so_far
unfolding in_turn
read-end read entries so_far i to all = to.whole ∙ ap (λ es. in_turn read so_far (map view es)) (drop_all i entries all)

-- a fault in an entry of an array, and an array that is read to its end
pub array-fault : {A : Type 0} (read : List A → Data → Result A Placed) (array : Result (List Data) Placed) (entries : List Value) (so_far : List A) (i : ℕ) (entry : Value) (place : Option Place) (fault : Found) → array ≡ Ok (map view entries) → IsReadTo read entries so_far i → i < length entries → entry ≡ get_or entries i entry → IsFoundAt (read so_far (view entry)) place fault → IsFoundAt (array >>= in_turn read []) place fault
array-fault read array entries so_far i entry place fault whole to within here found =
    IsFoundAt-same _ _ place fault (ap (λ r. r >>= in_turn read []) whole) (read-fault read entries so_far i entry place fault to within here found)

pub array-end : {A : Type 0} (read : List A → Data → Result A Placed) (array : Result (List Data) Placed) (entries : List Value) (so_far : List A) (i : ℕ) → array ≡ Ok (map view entries) → IsReadTo read entries so_far i → length entries ≤ i → (array >>= in_turn read []) ≡ Ok so_far
array-end read array entries so_far i whole to all = ap (λ r. r >>= in_turn read []) whole ∙ read-end read entries so_far i to all

-- bytes that are no UTF-8, as the test has it
pub not_utf8 : (bytes : List ℕ) → (IsUtf8 bytes → ⊥) → is_utf8 bytes ≡ false
not_utf8 bytes none = by_case (is_utf8 bytes) (IsUtf8-from_is_utf8 bytes)
  where
    by_case : (b : Bool) → (b ≡ true → IsUtf8 bytes) → b ≡ false
    by_case true is = absurd (none (is refl))
    by_case false is = refl
