-- A row that obeys its table, where no column is NULL, has one value for each column.
use Rattle.std.proofs.Common.{◌≡◌, ℕ, zero, suc, ◌+◌, true, not, ◌||◌, List, [], ◌∷◌, drop, None, refl, sym, ap, subst, ◌∙◌, true≢false, add-one}
use Rattle.std.specs.List.{AllByRecursion}
use Rattle.std.proofs.lemmas.Bool.{and_parts}
use Rattle.sqlite_value.specs.declared.value.Value.{Value}
use Rattle.sqlite_value.specs.declared.value.Value.TheVariants.{Null}
use Rattle.sqlite_value.specs.Order.{Row, column}
use Rattle.sqlite_schema.specs.declared.schema.Column.{Column}
use Rattle.sqlite_sql.specs.Ops.{is_null}
use Rattle.sqlite_schema.specs.Names.{is_key}
use Rattle.sqlite_schema.specs.Rules.{are_typed, are_present}

-- the values of these columns, from a place on
abbrev pub values_from : ℕ → List Column → Row → Row
values_from at [] row = []
values_from at (c ∷ cs) row = column row (suc at) ∷ values_from (suc at) cs row

-- the value at a place is the first of what is left from there
column_after_drop : (row : Row) (at : ℕ) (vs : Row) → drop at row ≡ vs → column row at ≡ column vs 0
column_after_drop row zero vs is = ap (λ r. column r 0) is
column_after_drop [] (suc at) vs is = ap (λ r. column r 0) is
column_after_drop (v ∷ row) (suc at) vs is = column_after_drop row at vs is

drop_one_more : (row : Row) (at : ℕ) (v : Value) (vs : Row) → drop at row ≡ v ∷ vs → drop (suc at) row ≡ vs
drop_one_more [] zero v vs is = absurd (let e = is in cc)
drop_one_more [] (suc at) v vs is = absurd (let e = is in cc)
drop_one_more (w ∷ row) zero v vs is = let e = is in cc
drop_one_more (w ∷ row) (suc at) v vs is = drop_one_more row at v vs is

pub whole_row_is : (cs : List Column) (at : ℕ) (row vs : Row) → drop (suc at) row ≡ vs → AllByRecursion (λ c. c.not_null ≡ true) cs → are_typed None at cs vs ≡ true → are_present None at cs row ≡ true → vs ≡ values_from at cs row
whole_row_is [] at row [] is all typed there = refl
whole_row_is [] at row (v ∷ vs) is all typed there = absurd (true≢false (sym typed))
whole_row_is (c ∷ cs) at row [] is all typed there =
    let gone : column row (at + 1) ≡ Null = ap (column row) (add-one at) ∙ column_after_drop row (suc at) [] is in
    let present : (is_key None at || not c.not_null || not (is_null (column row (at + 1)))) ≡ true = (and_parts _ _ there).0 in
    absurd (true≢false (sym (rw (all.0, gone) at present)))
whole_row_is (c ∷ cs) at row (v ∷ vs) is all typed there =
    let later = whole_row_is cs (suc at) row vs (drop_one_more row (suc at) v vs is) all.1 (subst (λ n. are_typed None n cs vs ≡ true) (add-one at) (and_parts _ _ typed).1) (subst (λ n. are_present None n cs row ≡ true) (add-one at) (and_parts _ _ there).1) in
    ap (λ w. w ∷ vs) (sym (column_after_drop row (suc at) (v ∷ vs) is)) ∙ ap (λ l. column row (suc at) ∷ l) later
