-- From what queries answered of the tables to the judgement of them.
use Rattle.std.proofs.Common.{◌≡◌, ◌∙◌, List, ℕ, Result, Ok, Err, OnOk, inr, refl, sym, ap, subst, arith}
use Rattle.std.specs.Prelude.{IfOk}
use Rattle.std.specs.BTreeMap.{BTreeMap}
use Rattle.std.specs.List.Sorted.{IsPermutation}
use Rattle.sqlite_value.specs.Order.{Row}
use Rattle.sqlite_trees.specs.declared.store.Store.{Ghosts}
use Rattle.tally_store_rows.specs.declared.views.Statuses.{Statuses}
use Rattle.sqlite.specs.Effect.{Database, IsDatabase}
use Rattle.sqlite.specs.declared.error.Error.{Error}
use Rattle.sqlite.specs.declared.transaction.Transaction.{Transaction}
use Rattle.sqlite.specs.Held.{state}
use Rattle.sqlite.specs.State.{State as Seen, HasCleanDisk, IsUnchanged}
use Rattle.sqlite.proofs.Callers.{unchanged_then}
use Rattle.tally_store_schema.specs.Rows.{cells}
use Rattle.tally_setup.specs.Constituency.{Constituency}
use Rattle.tally_setup.specs.Limits.{IsSetup}
use Rattle.tally_store_open.specs.Numbers.{HasNumbersOfRows, numbers_of}
use Rattle.tally_store_open.specs.OfficeRows.{AreLawfulRows, AreRowsOfOneState, RowsInOrder}
use Rattle.tally_store_schema.specs.declared.table.KeyedTable.{KeyedTable}
use Rattle.tally_store_schema.specs.declared.table.KeyedTable.TheVariants.{Returns, Counts, Cons, Lots, Seats, Gone, Totals, Past}
use Rattle.tally_store_schema.specs.internal.Inside.{OnlyReadsFrom}
use Rattle.tally_store_schema.proofs.StaysLemmas.{stays-then}
use Rattle.tally_store_schema.specs.Office.{HasTables, ShowsTable, rows_in, tree_of}
use Rattle.tally_store_open.specs.internal.Opening.{AreTablesOfNone, CountsTables, HasSetupRow, IsJudged, IsJudgedFault, IsUnlawful, ShowsOffice, trees_with}
use Rattle.tally_keeper.specs.declared.fault.OpenFault.{OpenFault}
use Rattle.tally_store_open.proofs.JudgedLemmas.{accepted, refused}
use Rattle.tally_store_open.proofs.TableLemmas.{rows_of_tables}

pub tables_still : (old new : Seen) → HasTables old → IsUnchanged old new → HasTables new
tables_still old new has same = record {
  schema = ap (λ (d : Database). d.schema) same.0.now_is ∙ has.schema;
  sound = λ _. subst IsDatabase (sym same.0.now_is) (has.sound same.0.was_open);
  inside = same.0.mode ∙ has.inside;
}

-- the database with the one row of `setup`, of today's version and this text
abbrev with_setup : List ℕ → Seen → Seen
with_setup text seen = record seen { now = record seen.now { trees = trees_with text seen.now.trees } }

-- what was answered of the tables is answered of them with another row of `setup`
shows_with : (t : KeyedTable) (text : List ℕ) (seen : Seen) (answer : List Row) → rows_in t (with_setup text seen) ≡ rows_in t seen → ShowsTable t seen answer → ShowsTable t (with_setup text seen) answer
shows_with t text seen answer is shown = record {
  same = subst (λ l. IsPermutation l answer) (sym is) shown.same;
  in_order = λ rows order perm. shown.in_order rows order (subst (IsPermutation rows) is perm);
}

office_with : (text : List ℕ) (seen : Seen) (rows : RowsInOrder) → ShowsOffice seen rows → ShowsOffice (with_setup text seen) rows
office_with text seen rows shown = record {
  returns = shows_with Returns text seen rows.returns refl shown.returns;
  counts = shows_with Counts text seen rows.counts refl shown.counts;
  cons = shows_with Cons text seen rows.cons refl shown.cons;
  lots = shows_with Lots text seen rows.tables.lots refl shown.lots;
  seats = shows_with Seats text seen rows.tables.seats refl shown.seats;
  gone = shows_with Gone text seen rows.tables.gone refl shown.gone;
  totals = shows_with Totals text seen rows.tables.totals refl shown.totals;
  past = shows_with Past text seen rows.tables.past refl shown.past;
}

pub shows_before : (t : KeyedTable) (old new : Seen) (answer : List Row) → IsUnchanged old new → ShowsTable t new answer → ShowsTable t old answer
shows_before t old new answer same shown = record {
  same = subst (λ (d : Database). IsPermutation (cells (d.trees (tree_of t))) answer) same.0.now_is shown.same;
  in_order = λ rows order perm. shown.in_order rows order (subst (λ (d : Database). IsPermutation rows (cells (d.trees (tree_of t)))) (sym same.0.now_is) perm);
}

-- one read after the other, each of which changed nothing
both_unchanged : {X E : Type 0} (a b c : Seen) (r : Result X E) → IsUnchanged a b → OnOk r (IsUnchanged b c) → OnOk r (IsUnchanged a c)
both_unchanged a b c (Ok x) first second = unchanged_then a b c first second
both_unchanged a b c (Err e) first second = tt

pub so_answered : {X E P : Type 0} (r : Result X E) → P → OnOk r P
so_answered (Ok x) p = p
so_answered (Err e) p = tt

pub look_then : {S X Y : Type 0} (g : Ghosts S) (a b c : Transaction S) (first : X) (r : Result Y Error) → OnlyReadsFrom HasTables g a b (Ok first) → OnlyReadsFrom HasTables g b c r → OnlyReadsFrom HasTables g a c r
look_then g a b c first r one two = record {
  stays = stays-then HasTables HasTables g a b c (λ early has. tables_still _ _ has (one.same early has)) one.stays two.stays;
  same = λ clean has.
      let early : HasCleanDisk (state g b.conn.now) = omega (arith, clean, two.stays.survives.clean) in
      both_unchanged _ _ _ r (one.same early has) (two.same clean (tables_still _ _ has (one.same early has)));
  answered_open = λ clean. so_answered r (one.answered_open (omega (arith, clean, two.stays.survives.clean)));
}

-- the same of another answer
pub look_as : {S X Y : Type 0} (g : Ghosts S) (a b : Transaction S) (x : X) (r : Result Y Error) → OnlyReadsFrom HasTables g a b (Ok x) → OnlyReadsFrom HasTables g a b r
look_as g a b x r one = record {
  stays = one.stays;
  same = λ clean has. so_answered r (one.same clean has);
  answered_open = λ clean. so_answered r (one.answered_open clean);
}

pub judged : (setup : List Constituency) (seen : Seen) (rows : RowsInOrder) → IsSetup setup → ShowsOffice seen rows → AreRowsOfOneState setup rows → IsJudged setup seen.now
judged setup seen rows limits shown one text = accepted setup text (with_setup text seen) rows limits (office_with text seen rows shown) refl one

pub judged_none : (setup : List Constituency) (seen : Seen) (rows : RowsInOrder) → IsSetup setup → ShowsOffice seen rows → (AreLawfulRows setup rows → ⊥) → AreTablesOfNone setup seen.now
judged_none setup seen rows limits shown none text = refused setup (with_setup text seen) rows limits (office_with text seen rows shown) none text

-- what is so of a setup is so of the one that is given back
pub so_again : {P E : Type 0} (r : Result (Result (List Constituency) OpenFault) E) (setup : List Constituency) (Q : List Constituency → Type 0) → IfOk r (λ answer. IfOk answer (λ again. again ≡ setup)) → (P → Q setup)
    → IfOk r (λ answer. OnOk answer P) → IfOk r (λ answer. IfOk answer Q)
so_again (Ok (Ok again)) setup Q is so p = subst Q (sym is) (so p)
so_again (Ok (Err fault)) setup Q is so p = tt
so_again (Err e) setup Q is so p = tt

-- tables of no lawful state over the setup that is stored
pub unlawful_stored : (number : ℕ) (setup : List Constituency) (old mid : Database) (fault : OpenFault) → mid ≡ old → HasSetupRow number setup old → IsUnlawful setup mid fault → IsJudgedFault number old fault
unlawful_stored number setup old mid fault same stored why = subst (IsJudgedFault number old) (sym why.0) (inr (setup, stored, subst (AreTablesOfNone setup) same why.1))

-- numbers of rows are those of the tables that answered them
pub numbers_judged : (setup : List Constituency) (seen : Seen) (rows : RowsInOrder) (known : BTreeMap (List ℕ) Statuses) → IsSetup setup → ShowsOffice seen rows → HasNumbersOfRows setup rows (numbers_of known) → CountsTables known setup seen.now
numbers_judged setup seen rows known limits shown ensured text s lawful tables =
    ensured s lawful (rows_of_tables setup s limits lawful text (with_setup text seen) rows (office_with text seen rows shown) tables)
