-- From what was judged of the tables to the opening of a database.
use Rattle.std.proofs.Common.{◌≡◌, ◌∙◌, ◌⊎◌, List, [], ◌∷◌, ℕ, pos, true, IsTrue, Result, Ok, Err, inl, inr, refl, sym, ap, subst, arith, length, true≢false}
use Rattle.std.specs.Prelude.{codes, IfOk, IsOk}
use Rattle.std.specs.BTreeMap.{BTreeMap}
use Rattle.sqlite.specs.Effect.{Database, IsDatabase}
use Rattle.sqlite.specs.State.{State as Seen}
use Rattle.sqlite_schema.specs.declared.schema.Schema.{Schema}
use Rattle.sqlite_trees.specs.Tree.{Trees}
use Rattle.sqlite_value.specs.declared.value.Value.TheVariants.{Int, Null, Text}
use Rattle.tally_store_schema.specs.Rows.{AreRowsOf, HaveDistinctRowids}
use Rattle.tally_setup.specs.Constituency.{Constituency}
use Rattle.tally_rules.specs.Reading.{setup_of_text}
use Rattle.tally_store_open.specs.Numbers.{HasNumbers, numbers_of}
use Rattle.tally_machine_law.specs.LawfulState.{IsLawfulState}
use Rattle.tally_returns.specs.State.{State}
use Rattle.tally_store_schema.specs.Made.{has_former_tables, has_table}
use Rattle.tally_store_schema.specs.Tables.{former_schema, office_schema, setup_tree}
use Rattle.tally_store_schema.specs.declared.table.KeyedTable.{KeyedTable}
use Rattle.tally_store_schema.specs.declared.table.KeyedTable.TheVariants.{Returns, Counts, Cons, Lots, Seats, Gone, Totals, Past}
use Rattle.tally_store_schema.specs.Office.{tree_of}
use Rattle.tally_store_rows.specs.Cells.{return_rows, count_rows, con_rows, lot_rows, seat_rows, gone_rows, total_rows, past_rows}
use Rattle.tally_store_rows.specs.TablesOfState.{AreTables, version}
use Rattle.tally_store_rows.specs.declared.views.Statuses.{Statuses}
use Rattle.tally_store_open.specs.Create.{IsAsBefore}
use Rattle.tally_store_open.specs.internal.Ending.{IsSettled}
use Rattle.tally_store_open.specs.Open.{AreFormerTables, CountsFound, HasSetup, IsOfKnownVersion, IsOpenFault, IsOpened, LacksTable}
use Rattle.tally_store_open.specs.internal.Opening.{AreOfNoStored, CountsFormer, CountsTables, HasDistinctRows, HasSetupRow, HasStoredRow, IsJudged, IsTodayFault, Lacks, trees_with}
use Rattle.tally_keeper.specs.declared.fault.OpenFault.{OpenFault}
use Rattle.tally_keeper.specs.declared.fault.OpenFault.TheVariants.{BadTables, Memory, NoTables, Setup, Store}

-- ---- tables that are the same

pub record AreSame (a b : Trees) : Type 0 where
  pub setup : b setup_tree ≡ a setup_tree
  pub tables : (t : KeyedTable) → b (tree_of t) ≡ a (tree_of t)

pub same_back : (a b : Trees) → AreSame a b → AreSame b a
same_back a b same = record { setup = sym same.setup; tables = λ t. sym (same.tables t) }

pub same_tables : (setup : List Constituency) (text : List ℕ) (s : State) (a b : Trees) → AreSame a b → AreTables setup text s a → AreTables setup text s b
same_tables setup text s a b same tables = record {
  given = tables.given;
  allotted = tables.allotted;
  setup_is = same.setup ∙ tables.setup_is;
  returns = subst (AreRowsOf (return_rows setup) s.returns) (sym (same.tables Returns)) tables.returns;
  counts = subst (AreRowsOf count_rows s.returns) (sym (same.tables Counts)) tables.counts;
  cons = subst (AreRowsOf con_rows s.cons) (sym (same.tables Cons)) tables.cons;
  lots = subst (AreRowsOf lot_rows s.cons) (sym (same.tables Lots)) tables.lots;
  seats = subst (AreRowsOf (seat_rows tables.given) s.cons) (sym (same.tables Seats)) tables.seats;
  gone = subst (AreRowsOf gone_rows s.cons) (sym (same.tables Gone)) tables.gone;
  totals = subst (AreRowsOf (total_rows setup s.returns) s.cons) (sym (same.tables Totals)) tables.totals;
  past = subst (AreRowsOf past_rows s.cons) (sym (same.tables Past)) tables.past;
}

-- the tables beside `setup` have no part in its row
pub beside_setup : (text : List ℕ) (db : Trees) (t : KeyedTable) → trees_with text db (tree_of t) ≡ db (tree_of t)
beside_setup text seen Returns = refl
beside_setup text seen Counts = refl
beside_setup text seen Cons = refl
beside_setup text seen Lots = refl
beside_setup text seen Seats = refl
beside_setup text seen Gone = refl
beside_setup text seen Totals = refl
beside_setup text seen Past = refl

-- the row of `setup` that is stored has no other version and no other text
pub one_row : (m n : ℕ) (words text : List ℕ) (db : Trees) → HasSetup m words db → HasSetup n text db → (m ≡ n) × (words ≡ text)
one_row m n words text db first second =
    let both : (Int (pos 1) ∷ Null ∷ Int (pos m) ∷ Text words ∷ []) ∷ [] ≡ (Int (pos 1) ∷ Null ∷ Int (pos n) ∷ Text text ∷ []) ∷ [] = sym first ∙ second in
    (cc, cc)

pub one_setup : (words text : List ℕ) (a b : List Constituency) → words ≡ text → setup_of_text words ≡ Ok a → setup_of_text text ≡ Ok b → a ≡ b
one_setup words text a b same first second =
    let both : setup_of_text words ≡ setup_of_text text = ap setup_of_text same in
    let ok : Ok a ≡ Ok b = sym first ∙ both ∙ second in
    cc

pub forms_differ : office_schema ≡ former_schema → ⊥
forms_differ same = let k : 9 ≡ 8 = ap (λ (s : Schema). length s.tables) same in omega (arith, k)

pub is_text : (text words : List ℕ) (setup : List Constituency) → words ≡ text → setup_of_text text ≡ Ok setup → IsOk (setup_of_text words)
is_text text words setup same reads = rw (same, reads) refl

-- ---- today's version

stored_same : (db : Trees) (text : List ℕ) → HasSetup version text db → AreSame (trees_with text db) db
stored_same db text row = record { setup = row; tables = λ t. sym (beside_setup text db t) }

pub opened_today : (setup : List Constituency) (old new : Seen) → old.now.schema ≡ office_schema → HasSetupRow version setup old.now → IsJudged setup old.now → (IsTrue old.is_open → IsDatabase old.now) → IsSettled old → (IsTrue new.is_open → IsTrue old.is_open)
    → (IsTrue new.is_open → IsAsBefore old new) → (IsTrue old.is_open → (t : KeyedTable) → HasDistinctRows old.now t) → IsOpened setup old new
opened_today setup old new schema stored judged sound settled was_open before distinct = record {
  state = (judged stored.text).state;
  text = stored.text;
  found = record { lawful = (judged stored.text).lawful; found = (stored.reads, inl (schema, tables)); alone = λ other lawful found. alone other lawful found.1 };
  left = λ now. inl (schema, ap (λ (d : Database). d.trees) (before now).now);
  has = λ now. record {
    tables = subst (λ (d : Database). AreTables setup stored.text (judged stored.text).state d.trees) (sym (before now).now) tables;
    schema = ap (λ (d : Database). d.schema) (before now).now ∙ schema;
    sound = subst IsDatabase (sym (before now).now) (sound (was_open now));
    distinct = λ t. subst (λ (d : Database). HaveDistinctRowids (d.trees (tree_of t))) (sym (before now).now) (distinct (was_open now) t);
    settled = (before now).committed ∙ sym (settled (was_open now)) ∙ sym (before now).now;
  };
}
  where
    same : AreSame (trees_with stored.text old.now.trees) old.now.trees
    same = stored_same old.now.trees stored.text stored.row

    tables : AreTables setup stored.text (judged stored.text).state old.now.trees
    tables = same_tables setup stored.text (judged stored.text).state _ _ same (judged stored.text).tables

    alone : (other : State) → IsLawfulState setup other
        → ((old.now.schema ≡ office_schema) × AreTables setup stored.text other old.now.trees) ⊎ ((old.now.schema ≡ former_schema) × AreFormerTables setup stored.text other old.now.trees)
        → other ≡ (judged stored.text).state
    alone other lawful (inl found) = (judged stored.text).alone other lawful (same_tables setup stored.text other _ _ (same_back _ _ same) found.1)
    alone other lawful (inr found) = absurd (forms_differ (sym schema ∙ found.0))

-- why today's tables are not opened
pub fault_today : (old : Seen) (fault : OpenFault) → old.now.schema ≡ office_schema → has_former_tables old.now.schema ≡ true → has_table old.now.schema (codes "past") ≡ true → IsTodayFault old.now fault → IsOpenFault old.now fault
fault_today old NoTables schema names past ensured = absurd (ensured.0 refl)
fault_today old (Setup fault) schema names past ensured = (ensured.0, inl (schema, ensured.1), ensured.2.0, ensured.2.1)
fault_today old Memory schema names past ensured = tt
fault_today old Store schema names past ensured = tt
fault_today old BadTables schema names past ensured = (λ setup text s lawful found. no_state ensured setup text s lawful found.0 found.1, λ text known. no_text ensured text known, inl schema, lacks)
  where
    lacks : LacksTable old.now → ⊥
    lacks (inl missing) = true≢false (sym names ∙ missing)
    lacks (inr missing) = true≢false (sym past ∙ missing.0)

    Told : Type 0
    Told = (Lacks (HasStoredRow old.now) version × Lacks (HasStoredRow old.now) version) ⊎ AreOfNoStored version old.now

    no_state : Told → (setup : List Constituency) (text : List ℕ) (s : State) → IsLawfulState setup s → setup_of_text text ≡ Ok setup
        → ((old.now.schema ≡ office_schema) × AreTables setup text s old.now.trees) ⊎ ((old.now.schema ≡ former_schema) × AreFormerTables setup text s old.now.trees) → ⊥
    no_state ensured setup text s lawful reads (inr found) = forms_differ (sym schema ∙ found.0)
    no_state (inl none) setup text s lawful reads (inl found) = none.0 text found.1.setup_is
    no_state (inr unlawful) setup text s lawful reads (inl found) =
        let stored = unlawful.1 in
        let own = (one_row version version text stored.text old.now.trees found.1.setup_is stored.row).1 in
        let is = one_setup text stored.text setup unlawful.0 own reads stored.reads in
        let here = same_tables setup text s _ _ (same_back _ _ (stored_same old.now.trees text found.1.setup_is)) found.1 in
        unlawful.2 text s (subst (λ c. IsLawfulState c s) is lawful) (subst (λ c. AreTables c text s (trees_with text old.now.trees)) is here)

    no_text : Told → (text : List ℕ) → IsOfKnownVersion text old.now → IsOk (setup_of_text text)
    no_text ensured text (inr known) = absurd (forms_differ (sym schema ∙ known.0))
    no_text (inl none) text (inl known) = absurd (none.0 text known.1)
    no_text (inr unlawful) text (inl known) =
        let stored = unlawful.1 in
        is_text stored.text text unlawful.0 (one_row version version text stored.text old.now.trees known.1 stored.row).1 stored.reads

-- ---- version 1

-- ---- the store

-- ---- the numbers of returns

pub numbers_today : (setup : List Constituency) (old : Seen) (known : BTreeMap (List ℕ) Statuses) → old.now.schema ≡ office_schema → CountsTables known setup old.now → CountsFound known setup old.now
numbers_today setup old known schema ensured text s lawful found = go found.1
  where
    go : ((old.now.schema ≡ office_schema) × AreTables setup text s old.now.trees) ⊎ ((old.now.schema ≡ former_schema) × AreFormerTables setup text s old.now.trees) → HasNumbers setup s (numbers_of known)
    go (inl is) = ensured text s lawful (same_tables setup text s _ _ (same_back _ _ (stored_same old.now.trees text is.1.setup_is)) is.1)
    go (inr is) = absurd (forms_differ (sym schema ∙ is.0))

pub numbers_former : (setup : List Constituency) (old : Seen) (known : BTreeMap (List ℕ) Statuses) → old.now.schema ≡ former_schema → CountsFormer known setup old.now → CountsFound known setup old.now
numbers_former setup old known schema ensured text s lawful found = go found.1
  where
    go : ((old.now.schema ≡ office_schema) × AreTables setup text s old.now.trees) ⊎ ((old.now.schema ≡ former_schema) × AreFormerTables setup text s old.now.trees) → HasNumbers setup s (numbers_of known)
    go (inl is) = absurd (forms_differ (sym is.0 ∙ schema))
    go (inr is) = ensured text s lawful is.1

-- ---- what calls answered

pub today_each : (r : Result (List Constituency) OpenFault) (old new : Seen) → old.now.schema ≡ office_schema → (IsTrue old.is_open → IsDatabase old.now) → IsSettled old → (IsTrue new.is_open → IsTrue old.is_open)
    → (IsTrue new.is_open → IsAsBefore old new) → (IsTrue old.is_open → (t : KeyedTable) → HasDistinctRows old.now t) → IfOk r (λ setup. HasSetupRow version setup old.now) → IfOk r (λ setup. IsJudged setup old.now)
    → IfOk r (λ setup. IsOpened setup old new)
today_each (Ok setup) old new schema sound settled was_open before distinct stored judged = opened_today setup old new schema stored judged sound settled was_open before distinct
today_each (Err fault) old new schema sound settled was_open before distinct stored judged = tt
