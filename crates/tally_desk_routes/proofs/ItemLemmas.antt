-- What the members of an array are, one by one.
use Rattle.std.proofs.Common.{◌≡◌, ℕ, zero, suc, ◌+◌, ◌<◌, ◌≤◌, List, [], ◌∷◌, ◌++◌, length, take, get_or, map, Option, Some, None, is_some, refl, sym, ap, ◌∙◌, arith, true≢false}
use Rattle.std.proofs.lemmas.List.{length-map, take-map, get_or-map, take_all}
use Rattle.std.proofs.lemmas.Option.{same_Some}
use Rattle.serde_json.specs.Data.{Data}
use Rattle.serde_json.specs.View.{view, items_of, items_view}
use Rattle.serde_json.specs.declared.value.Value.{Value}
use Rattle.tally_desk_routes.specs.Bodies.{all_items, ◌>>=◌}

-- the first member and the others
abbrev both : {A : Type 0} → Option A → Option (List A) → Option (List A)
both first others = first >>= (λ x. others >>= (λ xs. Some (x ∷ xs)))

no_others : {A : Type 0} (first : Option A) (others : Option (List A)) → others ≡ None → both first others ≡ None
no_others None others is = refl
no_others (Some x) others is = ap (λ r. r >>= (λ xs. Some (x ∷ xs))) is

parts : {A : Type 0} (first : Option A) (others : Option (List A)) (all : List A) → both first others ≡ Some all
    → (x : A) × (xs : List A) × (first ≡ Some x) × (others ≡ Some xs) × (all ≡ x ∷ xs)
parts None others all is = absurd (true≢false (sym (ap is_some is)))
parts (Some x) None all is = absurd (true≢false (sym (ap is_some is)))
parts (Some x) (Some xs) all is = (x, xs, refl, refl, sym (same_Some (x ∷ xs) all is))

joined : {A : Type 0} (first : Option A) (others : Option (List A)) (x : A) (xs : List A) → first ≡ Some x → others ≡ Some xs → both first others ≡ Some (x ∷ xs)
joined first others x xs f o = ap (λ t. both t others) f ∙ ap (both (Some x)) o

item_none : {A : Type 0} (m : Data → Option A) (ds : List Data) (i : ℕ) (d : Data) → i < length ds → m (get_or ds i d) ≡ None → all_items m (items_of ds) ≡ None
item_none m [] i d within is = absurd (omega (arith, within))
item_none m (v ∷ vs) zero d within is = ap (λ t. both t (all_items m (items_of vs))) is
item_none m (v ∷ vs) (suc i) d within is = no_others (m v) (all_items m (items_of vs)) (item_none m vs i d (omega (arith, within)) is)

item_next : {A : Type 0} (m : Data → Option A) (ds : List Data) (i : ℕ) (d : Data) (xs : List A) (x : A) → i < length ds
    → all_items m (items_of (take i ds)) ≡ Some xs → m (get_or ds i d) ≡ Some x → all_items m (items_of (take (suc i) ds)) ≡ Some (xs ++ x ∷ [])
item_next m [] i d xs x within before is = absurd (omega (arith, within))
item_next m (v ∷ vs) zero d xs x within before is = joined (m v) (Some []) x [] is refl ∙ ap (λ (front : List _). Some (front ++ x ∷ [])) (same_Some [] xs before)
item_next m (v ∷ vs) (suc i) d xs x within before is =
    let p = parts (m v) (all_items m (items_of (take i vs))) xs before in
    joined (m v) (all_items m (items_of (take (suc i) vs))) p.0 (p.1 ++ x ∷ []) p.2 (item_next m vs i d p.1 x (omega (arith, within)) p.3 is)
    ∙ ap (λ (all : List _). Some (all ++ x ∷ [])) (sym p.4)

mapped : (vs : List Value) (i : ℕ) → i < length vs → i < length (map view vs)
mapped vs i within = let same : length (map view vs) ≡ length vs = length-map vs view in omega (arith, within, same)

one_more : (i : ℕ) → i + 1 ≡ suc i
one_more i = omega arith

pub value_none : {A : Type 0} (m : Data → Option A) (vs : List Value) (i : ℕ) (d : Value) → i < length vs → m (view (get_or vs i d)) ≡ None → all_items m (items_view vs) ≡ None
value_none m vs i d within is = item_none m (map view vs) i (view d) (mapped vs i within) (ap m (get_or-map view vs i d (view d) within) ∙ is)

pub value_next : {A : Type 0} (m : Data → Option A) (vs : List Value) (i : ℕ) (d : Value) (xs : List A) (x : A) → i < length vs
    → all_items m (items_view (take i vs)) ≡ Some xs → m (view (get_or vs i d)) ≡ Some x → all_items m (items_view (take (i + 1) vs)) ≡ Some (xs ++ x ∷ [])
value_next m vs i d xs x within before is =
    ap (λ (n : ℕ). all_items m (items_view (take n vs))) (one_more i)
    ∙ ap (λ ds. all_items m (items_of ds)) (sym (take-map view (suc i) vs))
    ∙ item_next m (map view vs) i (view d) xs x (mapped vs i within) (ap (λ ds. all_items m (items_of ds)) (take-map view i vs) ∙ before) (ap m (get_or-map view vs i d (view d) within) ∙ is)

pub value_all : {A : Type 0} (m : Data → Option A) (vs : List Value) (i : ℕ) (xs : List A) → length vs ≤ i → all_items m (items_view (take i vs)) ≡ Some xs → Some xs ≡ all_items m (items_view vs)
value_all m vs i xs past before = sym before ∙ ap (λ all. all_items m (items_view all)) (take_all i vs past)
