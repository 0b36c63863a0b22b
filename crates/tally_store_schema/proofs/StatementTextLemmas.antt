-- What each text means, as sqlite reads it, and what the statement does.
use Rattle.std.proofs.Common.{◌≡◌, ℕ, pos, List, [], ◌∷◌, true, false, Ok, Err, Result, OnOk, refl}
use Rattle.std.specs.Prelude.{if◌then◌else◌, Bool}
use Rattle.sqlite_value.specs.declared.value.Value.{Value}
use Rattle.sqlite_value.specs.declared.value.Value.TheVariants.{Null, Int, Text}
use Rattle.sqlite_sql.specs.Term.{Term, lit, col}
use Rattle.sqlite_schema.specs.declared.command.Command.TheVariants.{Insert, Update, Delete}
use Rattle.sqlite_schema.specs.declared.command.Source.TheVariants.{Values}
use Rattle.sqlite.specs.declared.error.Error.{Error}
use Rattle.sqlite.specs.Listing.{understood}
use Rattle.sqlite.specs.State.{State}
use Rattle.sqlite_tied.specs.Compute.{everything}
use Rattle.tally_store_schema.proofs.AnswerLemmas.{from_table}
use Rattle.tally_store_schema.proofs.StatementLemmas.{cast_int}
use Rattle.tally_store_schema.proofs.UpdateLemmas.{by_text}
use Rattle.tally_store_schema.specs.Cells.{flag}
use Rattle.tally_store_schema.specs.declared.table.KeyedTable.TheVariants.{Returns, Counts, Cons, Lots, Seats, Gone, Totals}
use Rattle.tally_store_schema.specs.Office.{tree_of, RunsWithValues, Inserts, Replaces, SetsItem, Deletes, item_cells}
use Rattle.tally_store_schema.specs.internal.StatementTexts.{insert_return_text, insert_con_text, insert_gone_text, insert_total_text, update_return_text, update_count_text, update_con_text, update_total_text, delete_lot_text, delete_seats_text}
use Rattle.tally_store_schema.proofs.TableLemmas.{table_number}
use Rattle.tally_store_schema.proofs.WriteLemmas.{Means, inserts, replaces, sets_item, deletes, by_item, item_set}

pub on_ok : {A B : Type 0} (r : Result Unit Error) → (A → B) → OnOk r A → OnOk r B
on_ok (Ok done) f h = f h
on_ok (Err e) f h = tt

abbrev three : List Term
three = lit Null ∷ col 0 0 ∷ col 0 1 ∷ col 0 2 ∷ []

abbrev four : List Term
four = lit Null ∷ col 0 0 ∷ col 0 1 ∷ col 0 2 ∷ col 0 3 ∷ []

abbrev six : List Term
six = lit Null ∷ col 0 0 ∷ col 0 1 ∷ col 0 2 ∷ col 0 3 ∷ col 0 4 ∷ col 0 5 ∷ []

insert_return_is : Means insert_return_text (Insert (table_number Returns) (Values six 7))
unfolding understood everything
insert_return_is = record { command = refl; plain = (refl, refl) }

pub insert_return_does : (station con : List ℕ) (rev : ℕ) (slip : List ℕ) (status : ℕ) (note : List ℕ) (old new : State) (r : Result Unit Error) → RunsWithValues insert_return_text (Text station ∷ Text con ∷ Int (pos rev) ∷ Text slip ∷ Int (pos status) ∷ Text note ∷ []) old new r → Inserts Returns (Text station ∷ Text con ∷ Int (pos rev) ∷ Text slip ∷ Int (pos status) ∷ Text note ∷ []) old new r
insert_return_does station con rev slip status note old new r ran clean inside =
    on_ok r (λ it. inserts Returns insert_return_text (Text station ∷ Text con ∷ Int (pos rev) ∷ Text slip ∷ Int (pos status) ∷ Text note ∷ []) (Text station ∷ Text con ∷ Int (pos rev) ∷ Text slip ∷ Int (pos status) ∷ Text note ∷ []) six 7 insert_return_is refl (rw (cast_int (pos rev), cast_int (pos status))) old new it.0 inside it.1) (ran clean inside.inside)

-- how a yes or no is bound
flag_is : (b : Bool) → (if b then pos 1 else pos 0) ≡ pos (flag b)
flag_is true = refl
flag_is false = refl

insert_con_is : Means insert_con_text (Insert (table_number Cons) (Values four 5))
unfolding understood everything
insert_con_is = record { command = refl; plain = (refl, refl) }

pub insert_con_does : (con : List ℕ) (edition : ℕ) (certified : Bool) (note : List ℕ) (old new : State) (r : Result Unit Error) → RunsWithValues insert_con_text (Text con ∷ Int (pos edition) ∷ Int (if certified then pos 1 else pos 0) ∷ Text note ∷ []) old new r → Inserts Cons (Text con ∷ Int (pos edition) ∷ Int (pos (flag certified)) ∷ Text note ∷ []) old new r
insert_con_does con edition certified note old new r ran clean inside =
    on_ok r (λ it. inserts Cons insert_con_text (Text con ∷ Int (pos edition) ∷ Int (pos (flag certified)) ∷ Text note ∷ []) (Text con ∷ Int (pos edition) ∷ Int (pos (flag certified)) ∷ Text note ∷ []) four 5 insert_con_is refl (rw (cast_int (pos edition), cast_int (pos (flag certified)))) old new it.0 inside it.1) (rw (flag_is certified) at (ran clean inside.inside))

insert_gone_is : Means insert_gone_text (Insert (table_number Gone) (Values four 5))
unfolding understood everything
insert_gone_is = record { command = refl; plain = (refl, refl) }

pub insert_gone_does : (con : List ℕ) (list place : ℕ) (note : List ℕ) (old new : State) (r : Result Unit Error) → RunsWithValues insert_gone_text (Text con ∷ Int (pos list) ∷ Int (pos place) ∷ Text note ∷ []) old new r → Inserts Gone (Text con ∷ Int (pos list) ∷ Int (pos place) ∷ Text note ∷ []) old new r
insert_gone_does con list place note old new r ran clean inside =
    on_ok r (λ it. inserts Gone insert_gone_text (Text con ∷ Int (pos list) ∷ Int (pos place) ∷ Text note ∷ []) (Text con ∷ Int (pos list) ∷ Int (pos place) ∷ Text note ∷ []) four 5 insert_gone_is refl (rw (cast_int (pos list), cast_int (pos place))) old new it.0 inside it.1) (ran clean inside.inside)

insert_total_is : Means insert_total_text (Insert (table_number Totals) (Values three 4))
unfolding understood everything
insert_total_is = record { command = refl; plain = (refl, refl) }

pub insert_total_does : (key : List ℕ) (item n : ℕ) (old new : State) (r : Result Unit Error) → RunsWithValues insert_total_text (item_cells key item n) old new r → Inserts Totals (item_cells key item n) old new r
insert_total_does key item n old new r ran clean inside =
    on_ok r (λ it. inserts Totals insert_total_text (item_cells key item n) (item_cells key item n) three 4 insert_total_is refl (rw (cast_int (pos item), cast_int (pos n))) old new it.0 inside it.1) (ran clean inside.inside)

abbrev return_set : List Term
return_set = col 1 0 ∷ col 1 0 ∷ col 1 1 ∷ col 1 2 ∷ col 0 1 ∷ col 0 2 ∷ col 0 3 ∷ col 0 4 ∷ []

update_return_is : Means update_return_text (Update (table_number Returns) (record { lets = []; body = from_table (tree_of Returns) by_text return_set [] }))
unfolding understood everything
update_return_is = record { command = refl; plain = (refl, refl) }

pub update_return_does : (station : List ℕ) (rev : ℕ) (slip : List ℕ) (status : ℕ) (note : List ℕ) (con : List ℕ) (a b c d : Value) (old new : State) (r : Result Unit Error)
    → RunsWithValues update_return_text (Text station ∷ Int (pos rev) ∷ Text slip ∷ Int (pos status) ∷ Text note ∷ []) old new r
    → Replaces Returns station (Text station ∷ Text con ∷ a ∷ b ∷ c ∷ d ∷ []) (Text station ∷ Text con ∷ Int (pos rev) ∷ Text slip ∷ Int (pos status) ∷ Text note ∷ []) old new r
update_return_does station rev slip status note con a b c d old new r ran clean inside one =
    on_ok r
    (λ it. replaces Returns update_return_text station (Int (pos rev) ∷ Text slip ∷ Int (pos status) ∷ Text note ∷ []) (Text station ∷ Text con ∷ Int (pos rev) ∷ Text slip ∷ Int (pos status) ∷ Text note ∷ []) return_set update_return_is
    (rw (cast_int (pos rev), cast_int (pos status))) (Text station) (Text con ∷ a ∷ b ∷ c ∷ d ∷ []) (λ i. refl) (λ trees. refl) old new it.0 inside it.1 one)
    (ran clean inside.inside)

abbrev con_set : List Term
con_set = col 1 0 ∷ col 1 0 ∷ col 1 1 ∷ col 0 1 ∷ col 0 2 ∷ col 0 3 ∷ []

update_con_is : Means update_con_text (Update (table_number Cons) (record { lets = []; body = from_table (tree_of Cons) by_text con_set [] }))
unfolding understood everything
update_con_is = record { command = refl; plain = (refl, refl) }

pub update_con_does : (con : List ℕ) (edition : ℕ) (certified : Bool) (note : List ℕ) (a b c : Value) (old new : State) (r : Result Unit Error)
    → RunsWithValues update_con_text (Text con ∷ Int (pos edition) ∷ Int (if certified then pos 1 else pos 0) ∷ Text note ∷ []) old new r
    → Replaces Cons con (Text con ∷ a ∷ b ∷ c ∷ []) (Text con ∷ Int (pos edition) ∷ Int (pos (flag certified)) ∷ Text note ∷ []) old new r
update_con_does con edition certified note a b c old new r ran clean inside one =
    on_ok r
    (λ it. replaces Cons update_con_text con (Int (pos edition) ∷ Int (pos (flag certified)) ∷ Text note ∷ []) (Text con ∷ Int (pos edition) ∷ Int (pos (flag certified)) ∷ Text note ∷ []) con_set update_con_is
    (rw (cast_int (pos edition), cast_int (pos (flag certified)))) (Text con) (a ∷ b ∷ c ∷ []) (λ i. refl) (λ trees. refl) old new it.0 inside it.1 one)
    (rw (flag_is certified) at (ran clean inside.inside))

update_count_is : Means update_count_text (Update (table_number Counts) (record { lets = []; body = from_table (tree_of Counts) by_item item_set [] }))
unfolding understood everything
update_count_is = record { command = refl; plain = (refl, refl) }

pub update_count_does : (key : List ℕ) (item n : ℕ) (old new : State) (r : Result Unit Error) → RunsWithValues update_count_text (item_cells key item n) old new r → SetsItem Counts key item n old new r
update_count_does key item n old new r ran clean inside before rest none held =
    on_ok r (λ it. sets_item Counts update_count_text key item n update_count_is (rw (cast_int (pos item), cast_int (pos n))) (λ trees. refl) old new it.0 inside it.1 before rest none held) (ran clean inside.inside)

update_total_is : Means update_total_text (Update (table_number Totals) (record { lets = []; body = from_table (tree_of Totals) by_item item_set [] }))
unfolding understood everything
update_total_is = record { command = refl; plain = (refl, refl) }

pub update_total_does : (key : List ℕ) (item n : ℕ) (old new : State) (r : Result Unit Error) → RunsWithValues update_total_text (item_cells key item n) old new r → SetsItem Totals key item n old new r
update_total_does key item n old new r ran clean inside before rest none held =
    on_ok r (λ it. sets_item Totals update_total_text key item n update_total_is (rw (cast_int (pos item), cast_int (pos n))) (λ trees. refl) old new it.0 inside it.1 before rest none held) (ran clean inside.inside)

delete_lot_is : Means delete_lot_text (Delete (table_number Lots) (record { lets = []; body = from_table (tree_of Lots) by_text (col 1 0 ∷ []) [] }))
unfolding understood everything
delete_lot_is = record { command = refl; plain = (refl, refl) }

pub delete_lot_does : (key : List ℕ) (old new : State) (r : Result Unit Error) → RunsWithValues delete_lot_text (Text key ∷ []) old new r → Deletes Lots key old new r
delete_lot_does key old new r ran clean inside = on_ok r (λ it. deletes Lots delete_lot_text key delete_lot_is (λ trees. refl) old new it.0 inside it.1) (ran clean inside.inside)

delete_seats_is : Means delete_seats_text (Delete (table_number Seats) (record { lets = []; body = from_table (tree_of Seats) by_text (col 1 0 ∷ []) [] }))
unfolding understood everything
delete_seats_is = record { command = refl; plain = (refl, refl) }

pub delete_seats_does : (key : List ℕ) (old new : State) (r : Result Unit Error) → RunsWithValues delete_seats_text (Text key ∷ []) old new r → Deletes Seats key old new r
delete_seats_does key old new r ran clean inside = on_ok r (λ it. deletes Seats delete_seats_text key delete_seats_is (λ trees. refl) old new it.0 inside it.1) (ran clean inside.inside)
