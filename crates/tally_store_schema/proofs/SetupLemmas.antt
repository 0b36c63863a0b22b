-- What the statements of the table `setup` do.
use Rattle.std.proofs.Common.{◌≡◌, ◌≢◌, ℕ, pos, List, [], ◌∷◌, map, drop, filter, Bool, true, false, cond, not, ◌&&◌, Some, Ok, Result, codes, refl, sym, ap, ap₂, subst, ◌∙◌, true≢false}
use Rattle.std.specs.List.{AllByRecursion}
use Rattle.std.specs.List.Sorted.{IsPermutation}
use Rattle.std.proofs.lemmas.Bool.{and_parts}
use Rattle.std.proofs.lemmas.Cmp.{tied_itself}
use Rattle.std.specs.Ordering.{is_eq}
use Rattle.std.proofs.lemmas.List.Sorted.{IsPermutation-sym, IsPermutation-map}
use Rattle.sqlite_value.specs.declared.value.Value.{Value}
use Rattle.sqlite_value.specs.declared.value.Value.TheVariants.{Null, Int, Real, Text, Blob}
use Rattle.sqlite_value.specs.declared.keys.Collation.TheVariants.{Binary}
use Rattle.sqlite_value.specs.declared.keys.Key.{Key}
use Rattle.sqlite_value.specs.Keys.{ascending}
use Rattle.sqlite_value.specs.Order.{Row}
use Rattle.sqlite_value.proofs.OrderLemmas.{value_cmp_total}
use Rattle.sqlite_trees.specs.Tree.{put_row, without_rowid}
use Rattle.sqlite_sql.specs.Ops.{is_null}
use Rattle.sqlite_sql.specs.Term.{Term, lit, col}
use Rattle.sqlite_schema.specs.declared.command.Command.TheVariants.{Insert, Update, Select}
use Rattle.sqlite_schema.specs.declared.command.Source.TheVariants.{Values}
use Rattle.sqlite_schema.specs.declared.schema.Constraint.TheVariants.{Datatype, NotNull}
use Rattle.sqlite_schema.specs.Rules.{passes, are_typed, are_present, has_computed}
use Rattle.sqlite.specs.declared.error.Error.{Error}
use Rattle.sqlite.specs.Effect.{IsDatabase, Database}
use Rattle.sqlite.specs.Listing.{understood, reads_listing}
use Rattle.sqlite.specs.State.{State, Shown, ExecutesInside, mode_of}
use Rattle.sqlite.proofs.Callers.{statement_of, runs_as, reads_as}
use Rattle.sqlite_keyed.proofs.ListLemmas.{all_both}
use Rattle.sqlite_tied.specs.Compute.{everything}
use Rattle.tally_store_schema.specs.Rows.{HaveDistinctRowids}
use Rattle.tally_store_schema.proofs.AnswerLemmas.{from_table}
use Rattle.tally_store_schema.proofs.InsertLemmas.{stores_one}
use Rattle.tally_store_schema.proofs.ReadLemmas.{shown_open}
use Rattle.tally_store_schema.proofs.StatementLemmas.{cast_int, cast_null}
use Rattle.tally_store_schema.proofs.UpdateLemmas.{IsOnly, updates_one}
use Rattle.tally_store_schema.specs.Cells.{setup_row}
use Rattle.tally_store_schema.specs.Tables.{office_schema, setup_tree, setup_table}
use Rattle.tally_store_schema.specs.declared.table.KeyedTable.{KeyedTable}
use Rattle.tally_store_schema.specs.Office.{tree_of, IsInside, HasTables, RunsWithValues, PutsSetup, InsertsSetup, SetsVersion, ShowsSetup, shown_setup, stored_setup}
use Rattle.tally_store_schema.specs.internal.StatementTexts.{insert_setup_text, update_version_text, all_setup_text}
use Rattle.tally_store_schema.proofs.TableLemmas.{no_index, not_setup, setup_ordinary}
use Rattle.tally_store_schema.proofs.StatementTextLemmas.{on_ok}
use Rattle.tally_store_schema.proofs.WholeLemmas.{typed, present, all_shown}
use Rattle.tally_store_schema.proofs.WriteLemmas.{Means, does}

-- ---- what is true of all tables after a change of this one

not_keyed : (t : KeyedTable) → tree_of t ≢ setup_tree
not_keyed t e = not_setup t (sym e)

changed_setup : (version : ℕ) (text : List ℕ) (old new : State) → IsInside old → new.now.schema ≡ office_schema → IsDatabase new.now → new.now.trees setup_tree ≡ setup_row version text ∷ []
    → ((t : KeyedTable) → new.now.trees (tree_of t) ≡ old.now.trees (tree_of t)) → new.in_transaction ≡ true → PutsSetup version text old new
changed_setup version text old new inside schema sound is others mode = record {
  inside = record { schema = schema; sound = sound; distinct = λ t. subst HaveDistinctRowids (sym (others t)) (inside.distinct t); inside = mode };
  setup = is;
  others = others;
}

-- ---- INSERT

abbrev given_id : List Term
given_id = lit (Int (pos 1)) ∷ lit Null ∷ col 0 0 ∷ col 0 1 ∷ []

insert_setup_is : Means insert_setup_text (Insert 0 (Values given_id 4))
unfolding understood everything
insert_setup_is = record { command = refl; plain = (refl, refl) }

inserts_setup : (version : ℕ) (text : List ℕ) (old new : State) (count : ℕ) → IsInside old → ExecutesInside 0 insert_setup_text (Int (pos version) ∷ Text text ∷ []) old new (Ok count) → old.now.trees setup_tree ≡ [] → PutsSetup version text old new
inserts_setup version text old new count inside ran none =
    let params : Row = Int (pos version) ∷ Text text ∷ [] in
    let w = runs_as insert_setup_text params old new office_schema inside.schema (Insert 0 (Values given_id 4)) insert_setup_is.command insert_setup_is.plain count ran.0 in
    let made = stores_one office_schema 0 (setup_table setup_tree) setup_ordinary given_id 4 params (Int (pos 1)) (Null ∷ params) refl (cast_int (pos 1)) (rw (cast_null, cast_int (pos version))) old.step_limit (mode_of old)
    (statement_of insert_setup_text (understood office_schema insert_setup_text)) old.now.trees w.tally new.now (does insert_setup_text params (Insert 0 (Values given_id 4)) old new count inside.schema w) in
    changed_setup version text old new inside made.0 w.sound (made.1.stored ∙ ap (put_row (setup_row version text)) none) (λ t. made.1.others (tree_of t) (not_keyed t) (no_index t)) ran.1.mode

pub insert_setup_does : (version : ℕ) (text : List ℕ) (old new : State) (r : Result Unit Error) → RunsWithValues insert_setup_text (Int (pos version) ∷ Text text ∷ []) old new r → InsertsSetup version text old new r
insert_setup_does version text old new r ran clean inside none = on_ok r (λ it. inserts_setup version text old new it.0 inside it.1 none) (ran clean inside.inside)

-- ---- UPDATE

abbrev version_set : List Term
version_set = col 1 0 ∷ col 1 0 ∷ lit Null ∷ col 0 0 ∷ col 1 3 ∷ []

update_version_is : Means update_version_text (Update 0 (record { lets = []; body = from_table setup_tree [] version_set [] }))
unfolding understood everything
update_version_is = record { command = refl; plain = (refl, refl) }

none_left : (version : ℕ) (text : List ℕ) → without_rowid (pos 1) (setup_row version text ∷ []) ≡ []
none_left version text = ap (λ o. cond (not (is_eq o)) (setup_row version text ∷ []) []) (tied_itself value_cmp_total (Int (pos 1)))

sets_version : (version before : ℕ) (text : List ℕ) (old new : State) (count : ℕ) → IsInside old → ExecutesInside 0 update_version_text (Int (pos version) ∷ []) old new (Ok count) → old.now.trees setup_tree ≡ setup_row before text ∷ []
    → PutsSetup version text old new
sets_version version before text old new count inside ran one =
    let params : Row = Int (pos version) ∷ [] in
    let before_row : Row = setup_row before text in
    let row : Row = Null ∷ Int (pos version) ∷ Text text ∷ [] in
    let w = runs_as update_version_text params old new office_schema inside.schema (Update 0 (record { lets = []; body = from_table setup_tree [] version_set [] })) update_version_is.command update_version_is.plain count ran.0 in
    let distinct : HaveDistinctRowids (old.now.trees setup_tree) = subst HaveDistinctRowids (sym one) (refl, refl, tt) in
    let only : IsOnly (old.now.trees setup_tree) (λ x. true) before_row (pos 1) = record { only = subst (λ l. filter (λ x. true) l ≡ before_row ∷ []) (sym one) refl; id = refl } in
    let made = updates_one office_schema 0 (setup_table setup_tree) setup_ordinary [] version_set params (λ x. true) (λ x. refl) before_row row (pos 1) refl (rw (cast_null, cast_int (pos version))) old.step_limit (mode_of old)
    (statement_of update_version_text (understood office_schema update_version_text)) old.now.trees w.tally new.now refl distinct only (does update_version_text params (Update 0 (record { lets = []; body = from_table setup_tree [] version_set [] })) old new count inside.schema w) in
    changed_setup version text old new inside made.0 w.sound (made.1.stored ∙ ap (λ l. put_row (Int (pos 1) ∷ row) (without_rowid (pos 1) l)) one ∙ ap (put_row (Int (pos 1) ∷ row)) (none_left before text)) (λ t. made.1.others (tree_of t) (not_keyed t) (no_index t)) ran.1.mode

pub update_version_does : (version : ℕ) (old new : State) (r : Result Unit Error) → RunsWithValues update_version_text (Int (pos version) ∷ []) old new r → SetsVersion version old new r
update_version_does version old new r ran clean inside before text one = on_ok r (λ it. sets_version version before text old new it.0 inside it.1 one) (ran clean inside.inside)

-- ---- SELECT

abbrev setup_columns : List Term
setup_columns = col 1 0 ∷ col 1 2 ∷ col 1 3 ∷ []

abbrev setup_order : List (Term × Key)
setup_order = (col 1 0, ascending Binary) ∷ []

pub all_setup_means : Means all_setup_text (Select (record { lets = []; body = from_table setup_tree [] setup_columns setup_order }) (codes "id" ∷ codes "version" ∷ codes "text" ∷ []))
unfolding understood everything
all_setup_means = record { command = refl; plain = (refl, refl) }

setup_unlisted : reads_listing office_schema all_setup_text ≡ false
unfolding understood everything
setup_unlisted = refl

-- a row that obeys the table has NULL in the column of the id, and a value in each other column
null_is : (v : Value) → is_null v ≡ true → v ≡ Null
null_is Null h = refl
null_is (Int n) h = absurd (true≢false (sym h))
null_is (Real x) h = absurd (true≢false (sym h))
null_is (Text t) h = absurd (true≢false (sym h))
null_is (Blob b) h = absurd (true≢false (sym h))

not_last : (a : Bool) → (a && false) ≡ true → ⊥
not_last true h = absurd (true≢false (sym h))
not_last false h = absurd (true≢false (sym h))

not_last_of_three : (a b c : Bool) → (a && (b && (c && false))) ≡ true → ⊥
not_last_of_three true true c h = not_last c h
not_last_of_three true false c h = absurd (true≢false (sym h))
not_last_of_three false b c h = absurd (true≢false (sym h))

whole_setup_row : (row : Row) → are_typed (Some 0) 0 (setup_table setup_tree).columns (drop 1 row) ≡ true → are_present (Some 0) 0 (setup_table setup_tree).columns row ≡ true → stored_setup (shown_setup row) ≡ row
whole_setup_row [] fits there = absurd (true≢false (sym there))
whole_setup_row (a ∷ []) fits there = absurd (true≢false (sym there))
whole_setup_row (a ∷ b ∷ []) fits there = absurd (true≢false (sym there))
whole_setup_row (a ∷ b ∷ c ∷ []) fits there = absurd (not_last (not (is_null c)) there)
whole_setup_row (a ∷ b ∷ c ∷ d ∷ []) fits there = ap (λ v. a ∷ v ∷ c ∷ d ∷ []) (sym (null_is b (and_parts (is_null b) _ fits).0))
whole_setup_row (a ∷ b ∷ c ∷ d ∷ e ∷ more) fits there = absurd (not_last_of_three (is_null b) _ _ fits)

whole_setup : (db : Database) → db.schema ≡ office_schema → IsDatabase db → AllByRecursion (λ row. stored_setup (shown_setup row) ≡ row) (db.trees setup_tree)
whole_setup db is sound =
    all_both (λ row. passes Datatype office_schema db.trees (setup_table setup_tree) row ≡ true) (λ row. passes NotNull office_schema db.trees (setup_table setup_tree) row ≡ true) _
    (λ row p q. whole_setup_row row (and_parts (are_typed (Some 0) 0 (setup_table setup_tree).columns (drop 1 row)) (has_computed (setup_table setup_tree) row) p).0 q) (db.trees setup_tree) (typed db is sound).0 (present db is sound).0

stored_again : (rows : List Row) → AllByRecursion (λ row. stored_setup (shown_setup row) ≡ row) rows → map stored_setup (map shown_setup rows) ≡ rows
stored_again [] h = refl
stored_again (r ∷ rows) h = ap₂ (λ x l. x ∷ l) h.0 (stored_again rows h.1)

pub shows_setup : (old new : State) (answer : List Row) → HasTables old → Shown all_setup_text [] old new answer → ShowsSetup old answer
shows_setup old new answer has shown =
    let read = reads_as all_setup_text [] old new office_schema has.schema _ all_setup_means.command all_setup_means.plain setup_unlisted answer shown in
    let was_open = shown_open all_setup_text [] old new answer shown in
    let there : IsPermutation (map shown_setup (old.now.trees setup_tree)) answer = all_shown setup_tree setup_columns setup_order old.now.trees answer (read.answer Null) refl in
    record {
      shown = there;
      stored = subst (IsPermutation (map stored_setup answer)) (stored_again (old.now.trees setup_tree) (whole_setup old.now has.schema (has.sound was_open))) (IsPermutation-map stored_setup _ _ (IsPermutation-sym _ _ there));
    }
