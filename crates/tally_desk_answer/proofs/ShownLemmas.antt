-- What is shown: the code of the list at a place, and that no number is a float.
use Rattle.std.proofs.Common.{◌≡◌, ℕ, suc, ◌+◌, ◌<◌, List, [], ◌∷◌, ◌++◌, map, length, get_or, take, sym, Bool, false, ◌||◌, Option, Some, Result, Ok, Err, IfOk, String, Global, string_bytes, codes, refl, ap, ◌∙◌, option_map, unwrap_or}
use Rattle.std.specs.List.{slice_get}
use Rattle.std.proofs.lemmas.List.{map-append, take_more}
use Rattle.std.specs.declared.alloc.AllocError.{AllocError}
use Rattle.serde_json.specs.Data.{Data, Members, member, string}
use Rattle.serde_json.specs.View.{items_of, view}
use Rattle.serde_json.specs.declared.value.Value.{Value}
use Rattle.serde_json.specs.Written.{has_float, items_have_float, members_have_float, compact_text}
use Rattle.tally_setup.specs.Constituency.{Constituency, ListEntry}
use Rattle.tally_setup.specs.declared.constituency.Entry.{Entry}
use Rattle.tally_setup.specs.declared.constituency.Entry.TheVariants.{Single, Double}
use Rattle.tally_returns.specs.GoneCandidate.{GoneCandidate}
use Rattle.tally_returns.specs.Return.{StationReturn}
use Rattle.tally_returns.specs.View.{View}
use Rattle.tally_desk_answer.specs.Shown.{all_gone, whole_value, code_at_place, members_after_gone, shown_return, shown_gone, shown_con, with_entry}

pub code_at_place-some : (lists : List ListEntry) (place l : ℕ) (list : ListEntry) → place ≡ suc l → slice_get lists l ≡ Some list → code_at_place lists place ≡ list.code
code_at_place-some lists place l list at found =
    ap (code_at_place lists) at ∙ ap (λ (f : Option ListEntry). unwrap_or (option_map (λ (e : ListEntry). e.code) f) []) found

-- one more value after those of the elements so far
pub shown_next : {X : Type 0} (f : X → Data) (xs : List X) (i : ℕ) (d : X) (items more : List Value) (value : Value) → i < length xs → more ≡ items ++ value ∷ [] → view value ≡ f (get_or xs i d) → map view items ≡ map f (take i xs)
    → map view more ≡ map f (take (i + 1) xs)
shown_next f xs i d items more value within is of_value before =
    ap (map view) is ∙ map-append view items (value ∷ []) ∙ ap (λ (l : List Data). l ++ view value ∷ []) before ∙ ap (λ (v : Data). map f (take i xs) ++ v ∷ []) of_value
    ∙ sym (ap (map f) (take_more xs i d within) ∙ map-append f (take i xs) (get_or xs i d ∷ []))

wholes_free : (ns : List ℕ) → items_have_float (items_of (map whole_value ns)) ≡ false
wholes_free [] = refl
wholes_free (n ∷ ns) = wholes_free ns

codes_free : (lists : List ListEntry) (places : List ℕ) → items_have_float (items_of (map (λ place. string (code_at_place lists place)) places)) ≡ false
codes_free lists [] = refl
codes_free lists (place ∷ places) = codes_free lists places

gone_free : (lists : List ListEntry) (all : List GoneCandidate) → items_have_float (items_of (map (shown_gone lists) all)) ≡ false
gone_free lists [] = refl
gone_free lists (gone ∷ all) = gone_free lists all

pub return_free : (station : List ℕ) (kept : StationReturn) → has_float (shown_return station kept) ≡ false
return_free station kept = ap (λ (b : Bool). b || false) (wholes_free kept.counts.votes)

four : (a b c d : Bool) → a ≡ false → b ≡ false → c ≡ false → d ≡ false → (a || (b || (c || (d || false)))) ≡ false
four a b c d p q r s =
    ap (λ (x : Bool). x || (b || (c || (d || false)))) p ∙ ap (λ (x : Bool). x || (c || (d || false))) q ∙ ap (λ (x : Bool). x || (d || false)) r
    ∙ ap (λ (x : Bool). x || false) s

entry_free : (entry : Entry) (ms : Members) → members_have_float (with_entry entry ms) ≡ members_have_float ms
entry_free Single ms = refl
entry_free Double ms = refl

pub con_free : (con : Constituency) (v : View) → has_float (shown_con con v) ≡ false
con_free con v =
    entry_free con.entry (member (codes "gone") (all_gone con.lists v.gone) (members_after_gone con v))
    ∙ four _ _ _ _ (gone_free con.lists v.gone) (codes_free con.lists v.lot) (wholes_free v.seats) (wholes_free v.votes)

-- the text of a value that is what is shown
pub text_of : (written : Result (String Global) AllocError) (d shown : Data) → d ≡ shown → has_float shown ≡ false
    → IfOk written (λ text. has_float d ≡ false → string_bytes text ≡ compact_text d) → IfOk written (λ text. string_bytes text ≡ compact_text shown)
text_of (Ok text) d shown is free of_value = of_value (ap has_float is ∙ free) ∙ ap compact_text is
text_of (Err fault) d shown is free of_value = tt
