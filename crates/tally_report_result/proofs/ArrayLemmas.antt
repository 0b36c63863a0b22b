-- Arrays that grow by a value for each entry, or by those of each list.
use Rattle.std.proofs.Common.{◌≡◌, ◌≤◌, ◌<◌, ◌∙◌, ℕ, zero, suc, ◌+◌, List, [], ◌∷◌, ◌++◌, length, get_or, map, replicate, take, drop, refl, sym, ap, subst, append_assoc, arith}
use Rattle.std.proofs.lemmas.List.{append-nil, at_drop_more, at_drop_all, map-append, take_more}
use Rattle.serde_json.specs.Data.{Data}
use Rattle.serde_json.specs.View.{view}
use Rattle.serde_json.specs.declared.value.Value.{Value}
use Rattle.tally_setup.specs.Constituency.{ListEntry}
use Rattle.tally_report_result.specs.Values.{values_from}

-- ---- a value for each entry

pub value_more : {T : Type 0} (f : T → Data) (entries : List T) (i : ℕ) (d : T) (old : List Data) (items more : List Value) (value : Value) → i < length entries → more ≡ items ++ value ∷ []
    → view value ≡ f (get_or entries i d) → map view items ≡ old ++ map f (take i entries) → map view more ≡ old ++ map f (take (i + 1) entries)
value_more f entries i d old items more value within is of_value before =
    ap (map view) is
    ∙ map-append view items (value ∷ [])
    ∙ ap (λ (l : List Data). l ++ view value ∷ []) before
    ∙ append_assoc old (map f (take i entries)) (view value ∷ [])
    ∙ ap (λ (v : Data). old ++ (map f (take i entries) ++ v ∷ [])) of_value
    ∙ ap (λ (l : List Data). old ++ l) (sym (ap (map f) (take_more entries i d within) ∙ map-append f (take i entries) (get_or entries i d ∷ [])))

replicate-next : (n : ℕ) (d : Data) → replicate (n + 1) d ≡ replicate n d ++ d ∷ []
replicate-next zero d = refl
replicate-next (suc n) d = let s : suc n + 1 ≡ suc (n + 1) = omega arith in ap (λ k. replicate k d) s ∙ ap (λ (l : List Data). d ∷ l) (replicate-next n d)

-- the same value once more
pub again_more : (d : Data) (n : ℕ) (old : List Data) (items more : List Value) (value : Value) → more ≡ items ++ value ∷ [] → view value ≡ d → map view items ≡ old ++ replicate n d
    → map view more ≡ old ++ replicate (n + 1) d
again_more d n old items more value is of_value before =
    ap (map view) is
    ∙ map-append view items (value ∷ [])
    ∙ ap (λ (l : List Data). l ++ view value ∷ []) before
    ∙ append_assoc old (replicate n d) (view value ∷ [])
    ∙ ap (λ (v : Data). old ++ (replicate n d ++ v ∷ [])) of_value
    ∙ ap (λ (l : List Data). old ++ l) (sym (replicate-next n d))

-- ---- the values of each list

-- those of a list, before those of the lists after it
pub values_more : (f : ℕ → ListEntry → List Data) (lists items : List ListEntry) (i : ℕ) (list : ListEntry) (before after whole : List Data)
    → items ≡ lists → i < length items → list ≡ get_or items i list
    → before ++ values_from f i (drop i lists) ≡ whole → after ≡ before ++ f i list
    → after ++ values_from f (i + 1) (drop (i + 1) lists) ≡ whole
values_more f lists items i list before after whole same lt is so_far more =
    ap (λ (t : List Data). t ++ rest) more
    ∙ append_assoc before (f i list) rest
    ∙ ap (λ (t : List Data). before ++ t) (sym step)
    ∙ so_far
  where
    rest : List Data
    rest = values_from f (i + 1) (drop (i + 1) lists)

    found : list ≡ get_or lists i list
    found = subst (λ (es : List ListEntry). list ≡ get_or es i list) same is

    step : values_from f i (drop i lists) ≡ f i list ++ values_from f (i + 1) (drop (i + 1) lists)
    step =
        at_drop_more (values_from f i) lists i list (subst (λ (es : List ListEntry). i < length es) same lt)
        ∙ ap (λ (e : ListEntry). f i e ++ values_from f (i + 1) (drop (i + 1) lists)) (sym found)

-- no list is left
pub values_end : (f : ℕ → ListEntry → List Data) (lists items : List ListEntry) (i : ℕ) (values whole : List Data)
    → items ≡ lists → length items ≤ i → values ++ values_from f i (drop i lists) ≡ whole → values ≡ whole
values_end f lists items i values whole same le so_far =
    sym (append-nil values)
    ∙ ap (λ (t : List Data). values ++ t) (sym (at_drop_all (values_from f i) lists i (subst (λ (es : List ListEntry). length es ≤ i) same le)))
    ∙ so_far

-- one value for a list
pub one_pushed : (items more : List Value) (value : Value) (d : Data) → more ≡ items ++ value ∷ [] → view value ≡ d → map view more ≡ map view items ++ d ∷ []
one_pushed items more value d is of_value =
    ap (map view) is ∙ map-append view items (value ∷ []) ∙ ap (λ (v : Data). map view items ++ v ∷ []) of_value
