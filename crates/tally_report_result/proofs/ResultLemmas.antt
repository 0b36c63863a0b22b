-- The results of constituencies, one after the other.
use Rattle.std.proofs.Common.{◌≡◌, ◌∙◌, ◌<◌, ◌≤◌, ℕ, zero, suc, ◌+◌, List, [], ◌∷◌, ◌++◌, length, get_or, map, take, sym, ap, subst, arith}
use Rattle.std.proofs.lemmas.List.{map-append, take_all}
use Rattle.std.specs.List.{AllZip}
use Rattle.serde_json.specs.Data.{Data}
use Rattle.serde_json.specs.View.{view as data_value}
use Rattle.serde_json.specs.declared.value.Value.{Value}
use Rattle.tally_setup.specs.Constituency.{Constituency}
use Rattle.tally_returns.specs.View.{View}
use Rattle.tally_report_result.specs.Result.{AreResults, IsResult}

-- what holds of each constituency and its view holds of those at a place
pub zipped-at : (R : Constituency → View → Type 0) (cons : List Constituency) (views : List View) (i : ℕ) (con : Constituency) (view : View) → AllZip R cons views → i < length cons → con ≡ get_or cons i con → view ≡ get_or views i view → R con view
zipped-at R cons views i con view all within con_is view_is =
    subst (λ (c : Constituency). R c view) (sym con_is) (subst (λ (v : View). R (get_or cons i con) v) (sym view_is) (at cons views i all within))
  where
    at : (cs : List Constituency) (vs : List View) (n : ℕ) → AllZip R cs vs → n < length cs → R (get_or cs n con) (get_or vs n view)
    at [] vs n all within = absurd (omega (arith, within))
    at (c ∷ cs) [] n all within = absurd all
    at (c ∷ cs) (v ∷ vs) zero all within = all.0
    at (c ∷ cs) (v ∷ vs) (suc n) all within = at cs vs n all.1 (omega (arith, within))

more : (cons : List Constituency) (views : List View) (i : ℕ) (values : List Data) (value : Data) (c : Constituency) (v : View) → i < length cons → i < length views
    → AreResults (take i cons) (take i views) values → IsResult (get_or cons i c) (get_or views i v) value → AreResults (take (suc i) cons) (take (suc i) views) (values ++ value ∷ [])
more [] views i values value c v few_cons few_views are is = absurd (omega (arith, few_cons))
more (con ∷ cons) [] i values value c v few_cons few_views are is = absurd (omega (arith, few_views))
more (con ∷ cons) (view ∷ views) zero [] value c v few_cons few_views are is = (is, tt)
more (con ∷ cons) (view ∷ views) zero (x ∷ values) value c v few_cons few_views are is = absurd are
more (con ∷ cons) (view ∷ views) (suc i) [] value c v few_cons few_views are is = absurd are
more (con ∷ cons) (view ∷ views) (suc i) (x ∷ values) value c v few_cons few_views are is =
    (are.0, more cons views i values value c v (omega (arith, few_cons)) (omega (arith, few_views)) are.1 is)

one_more : (i : ℕ) → suc i ≡ i + 1
one_more i = omega arith

-- one result more
pub one-result-more : (cons : List Constituency) (views : List View) (i : ℕ) (items after : List Value) (value : Value) (con : Constituency) (view : View) → i < length cons → i < length views → con ≡ get_or cons i con → view ≡ get_or views i view
    → after ≡ items ++ value ∷ [] → AreResults (take i cons) (take i views) (map data_value items) → IsResult con view (data_value value)
    → AreResults (take (i + 1) cons) (take (i + 1) views) (map data_value after)
one-result-more cons views i items after value con view few_cons few_views con_is view_is pushed are is =
    let here : IsResult (get_or cons i con) (get_or views i view) (data_value value) = subst (λ (v : View). IsResult (get_or cons i con) v (data_value value)) view_is (subst (λ (c : Constituency). IsResult c view (data_value value)) con_is is) in
    let values : map data_value items ++ data_value value ∷ [] ≡ map data_value after = sym (ap (map data_value) pushed ∙ map-append data_value items (value ∷ [])) in
    subst (λ (n : ℕ). AreResults (take n cons) (take n views) (map data_value after)) (one_more i)
    (subst (λ (ds : List Data). AreResults (take (suc i) cons) (take (suc i) views) ds) values (more cons views i (map data_value items) (data_value value) con view few_cons few_views are here))

-- those of all of them
pub all-done : (cons : List Constituency) (views : List View) (i : ℕ) (values : List Data) → length cons ≤ i → length views ≤ i → AreResults (take i cons) (take i views) values → AreResults cons views values
all-done cons views i values no_con no_view are =
    subst (λ (vs : List View). AreResults cons vs values) (take_all i views no_view) (subst (λ (cs : List Constituency). AreResults cs (take i views) values) (take_all i cons no_con) are)
