-- The tables of version 1, and what becomes of them as they are taken over.
use Rattle.std.proofs.Common.{◌≡◌, ◌∙◌, ◌⊎◌, List, ℕ, inl, inr, refl, sym, ap, subst, Result, Ok, Err, OnErr, OnOk, IsTrue, true, true≢false}
use Rattle.std.specs.Prelude.{IfErr, IfOk, is_err}
use Rattle.std.proofs.lemmas.Result.{IfOk-at_ok, IfOk-weaker}
use Rattle.std.specs.BTreeMap.{BTreeMap}
use Rattle.sqlite.specs.declared.error.Error.{Error}
use Rattle.sqlite.specs.Effect.{Database, IsDatabase}
use Rattle.sqlite.specs.State.{State as Seen, HasCleanDisk, IsUnchanged, KeepsCommit, Survives}
use Rattle.sqlite.proofs.StateLemmas.{survives_then}
use Rattle.sqlite_trees.specs.Tree.{Trees}
use Rattle.tally_store_schema.specs.Rows.{HaveDistinctRowids}
use Rattle.tally_setup.specs.Constituency.{Constituency}
use Rattle.tally_store_rows.specs.declared.views.Statuses.{Statuses}
use Rattle.tally_machine_law.specs.LawfulState.{IsLawfulState}
use Rattle.tally_returns.specs.State.{State}
use Rattle.tally_store_schema.specs.Made.{AddsTable, HasFirstTables}
use Rattle.tally_store_schema.specs.Tables.{former_schema, office_schema, past_tree, setup_tree}
use Rattle.tally_store_schema.specs.declared.table.KeyedTable.{KeyedTable}
use Rattle.tally_store_schema.specs.declared.table.KeyedTable.TheVariants.{Returns, Counts, Cons, Lots, Seats, Gone, Totals, Past}
use Rattle.tally_store_schema.specs.Office.{PutsSetup as SetsSetup, IsInside, tree_of}
use Rattle.tally_store_rows.specs.TablesOfState.{AreTables, version}
use Rattle.tally_store_open.specs.Crash.{IsWholeOrNothing, LeavesTakenOver}
use Rattle.tally_store_open.specs.Create.{IsAsBefore}
use Rattle.tally_store_open.specs.internal.Ending.{IsSettled}
use Rattle.tally_store_open.specs.Open.{AreFormerTables, HasSetup, IsOpened, IsTakenOver, former_version, tables_taken_over}
use Rattle.tally_store_open.specs.internal.Opening.{AddsPast, AreFormerOfNone, AreOfNoStored, CountsFormer, CountsTables, CommitsTakeover, EndsTakeover, HasFormerRowids, HasSetupRow, HasFormerTables, HasStoredRow, IsFormerFault, IsJudged, IsJudgedFault, IsReady, IsTablesFault, AreTablesTakenOver, trees_with}
use Rattle.tally_keeper.specs.declared.fault.OpenFault.{OpenFault}
use Rattle.tally_keeper.specs.declared.fault.OpenFault.TheVariants.{Memory, Store}
use Rattle.tally_store_open.proofs.JudgingLemmas.{tables_still}
use Rattle.tally_store_open.proofs.OpenedLemmas.{AreSame, beside_setup, forms_differ, same_back, same_tables}
use Rattle.tally_store_schema.proofs.StaysLemmas.{clean_first}
use Rattle.tally_store_open.proofs.EndingLemmas.{has_begun, rolled_back, survives_begun}
use Rattle.tally_store_open.proofs.StoredLemmas.{fault_as, or_fails}
use Rattle.tally_store_open.proofs.UnwrittenLemmas.{on_err}
use Rattle.tally_store_open.proofs.WholeLemmas.{whole_left}

-- ---- the table `past`

pub past_added : (old new : Seen) → AddsTable 8 past_tree old new → AddsPast old new
past_added old new added = record {
  has = record { schema = added.tables.schema; sound = λ _. added.sound; inside = added.tables.inside };
  sound = added.sound;
  setup = added.others.0;
  each = each;
}
  where
    each : (text : List ℕ) (t : KeyedTable) → new.now.trees (tree_of t) ≡ tables_taken_over text old.now.trees (tree_of t)
    each text Returns = added.others.1.0
    each text Counts = added.others.1.1.0
    each text Cons = added.others.1.1.1.0
    each text Lots = added.others.1.1.1.1.0
    each text Seats = added.others.1.1.1.1.1.0
    each text Gone = added.others.1.1.1.1.1.1.0
    each text Totals = added.others.1.1.1.1.1.1.1.0
    each text Past = added.empty

past_still : (old mid new : Seen) → AddsPast old mid → IsUnchanged mid new → AddsPast old new
past_still old mid new past same = record {
  has = tables_still mid new past.has same;
  sound = subst IsDatabase (sym same.0.now_is) past.sound;
  setup = ap (λ (d : Database). d.trees setup_tree) same.0.now_is ∙ past.setup;
  each = λ text t. ap (λ (d : Database). d.trees (tree_of t)) same.0.now_is ∙ past.each text t;
}

pub ready : (setup : List Constituency) (old mid new : Seen) → IsTrue old.is_open → AddsPast old mid → IsUnchanged mid new → HasSetupRow former_version setup mid.now → IsJudged setup mid.now → IsReady setup old new
ready setup old mid new was_open past same stored judged = record {
  was_open = was_open;
  stored = record { text = stored.text; reads = stored.reads; row = sym past.setup ∙ stored.row };
  judged = subst (IsJudged setup) (sym same.0.now_is) judged;
  past = past_still old mid new past same;
}

-- with a row of today's version they are the tables as they are taken over
over_same : (text : List ℕ) (old mid : Seen) → AddsPast old mid → AreSame (trees_with text mid.now.trees) (tables_taken_over text old.now.trees)
over_same text old mid past = record { setup = refl; tables = λ t. sym (beside_setup text mid.now.trees t ∙ past.each text t) }

-- the numbers of the tables with an empty `past` are those of the tables of version 1
numbers_before : (setup : List Constituency) (old mid : Seen) (known : BTreeMap (List ℕ) Statuses) → AddsPast old mid → CountsTables known setup mid.now → CountsFormer known setup old.now
numbers_before setup old mid known past ensured text s lawful tables =
    ensured text s lawful (same_tables setup text s _ _ (same_back _ _ (over_same text old mid past)) tables.1)

pub numbers_each : (r : Result (Result (List Constituency) OpenFault) Error) (old mid : Seen) (known : BTreeMap (List ℕ) Statuses) → AddsPast old mid → IfOk r (λ ensured. IfOk ensured (λ setup. CountsTables known setup mid.now))
    → IfOk r (λ ensured. IfOk ensured (λ setup. CountsFormer known setup old.now))
numbers_each (Ok (Ok setup)) old mid known past ensured = numbers_before setup old mid known past ensured
numbers_each (Ok (Err fault)) old mid known past ensured = tt
numbers_each (Err e) old mid known past ensured = tt

-- why they are not taken over
pub fault_judged : (old mid : Seen) (fault : OpenFault) → AddsPast old mid → IsJudgedFault former_version mid.now fault → IsFormerFault old.now fault
fault_judged old mid fault past ensured =
    or_fails (IsTablesFault former_version (HasStoredRow old.now) (AreFormerOfNone old.now)) fault
    (fault_as former_version (HasStoredRow mid.now) (HasStoredRow old.now) (AreOfNoStored former_version mid.now) (AreFormerOfNone old.now) fault (λ n text row. sym past.setup ∙ row) (λ text row. past.setup ∙ row)
    (λ text row. past.setup ∙ row) none ensured)
  where
    none : AreOfNoStored former_version mid.now → AreFormerOfNone old.now
    none unlawful = record {
      setup = unlawful.0;
      text = unlawful.1.text;
      reads = unlawful.1.reads;
      row = sym past.setup ∙ unlawful.1.row;
      none = λ s lawful tables. unlawful.2 unlawful.1.text s lawful (same_tables unlawful.0 unlawful.1.text s _ _ (same_back _ _ (over_same unlawful.1.text old mid past)) tables);
    }

-- ---- the version

pub ready_inside : (setup : List Constituency) (old new : Seen) → HasFormerTables old → IsReady setup old new → IsInside new
ready_inside setup old new has ready = record {
  schema = ready.past.has.schema;
  sound = ready.past.sound;
  distinct = λ t. subst HaveDistinctRowids (sym (ready.past.each ready.stored.text t)) (has.distinct ready.was_open ready.stored.text t);
  inside = ready.past.has.inside;
}

pub ready_row : (setup : List Constituency) (old new : Seen) (h : IsReady setup old new) → HasSetup former_version h.stored.text new.now.trees
ready_row setup old new h = h.past.setup ∙ h.stored.row

pub taken : (setup : List Constituency) (old mid new : Seen) (h : IsReady setup old mid) → SetsSetup version h.stored.text mid new → AreTablesTakenOver setup old new
taken setup old mid new h set = record {
  state = (h.judged h.stored.text).state;
  text = h.stored.text;
  lawful = (h.judged h.stored.text).lawful;
  reads = h.stored.reads;
  former = (h.stored.row, found);
  alone = λ other lawful tables. (h.judged h.stored.text).alone other lawful (same_tables setup h.stored.text other _ _ (same_back _ _ over) tables.1);
  inside = set.inside;
  left = record { setup = set.setup; tables = λ t. set.others t ∙ h.past.each h.stored.text t };
  tables = same_tables setup h.stored.text (h.judged h.stored.text).state _ _ (record { setup = set.setup; tables = λ t. set.others t ∙ h.past.each h.stored.text t }) found;
}
  where
    over : AreSame (trees_with h.stored.text mid.now.trees) (tables_taken_over h.stored.text old.now.trees)
    over = over_same h.stored.text old mid h.past

    found : AreTables setup h.stored.text (h.judged h.stored.text).state (tables_taken_over h.stored.text old.now.trees)
    found = same_tables setup h.stored.text (h.judged h.stored.text).state _ _ over (h.judged h.stored.text).tables

-- ---- the commit

pub opened_former : (setup : List Constituency) (old last new : Seen) → old.now.schema ≡ former_schema → AreTablesTakenOver setup old last → new.now ≡ last.now → new.committed ≡ last.now → IsOpened setup old new
opened_former setup old last new schema h now committed = record {
  state = h.state;
  text = h.text;
  found = record { lawful = h.lawful; found = (h.reads, inr (schema, h.former)); alone = λ other lawful found. alone other lawful found.1 };
  left = λ _. inr (schema, subst (λ (d : Database). IsTakenOver h.text old.now.trees d.trees) (sym now) h.left);
  has = λ _. record {
    tables = subst (λ (d : Database). AreTables setup h.text h.state d.trees) (sym now) h.tables;
    schema = ap (λ (d : Database). d.schema) now ∙ h.inside.schema;
    sound = subst IsDatabase (sym now) h.inside.sound;
    distinct = λ t. subst (λ (d : Database). HaveDistinctRowids (d.trees (tree_of t))) (sym now) (h.inside.distinct t);
    settled = committed ∙ sym now;
  };
}
  where
    alone : (other : State) → IsLawfulState setup other
        → ((old.now.schema ≡ office_schema) × AreTables setup h.text other old.now.trees) ⊎ ((old.now.schema ≡ former_schema) × AreFormerTables setup h.text other old.now.trees) → other ≡ h.state
    alone other lawful (inl found) = absurd (forms_differ (sym found.0 ∙ schema))
    alone other lawful (inr found) = h.alone other lawful found.1

pub leaves_taken : (setup : List Constituency) (old last : Seen) (db : Trees) → old.now.schema ≡ former_schema → AreTablesTakenOver setup old last → db ≡ last.now.trees → LeavesTakenOver old.now db
leaves_taken setup old last db schema h is = record {
  former = schema;
  setup = setup;
  text = h.text;
  state = h.state;
  lawful = h.lawful;
  tables = (h.reads, inr (schema, h.former));
  whole = whole_left setup h.text h.state last db h.reads h.inside h.tables is;
}

-- ---- what calls answered

pub ready_each : (r : Result (Result (List Constituency) OpenFault) Error) (old mid new : Seen) → OnOk r (IsTrue old.is_open) → AddsPast old mid → OnOk r (IsUnchanged mid new) → IfOk r (λ ensured. IfOk ensured (λ setup. HasSetupRow former_version setup mid.now))
    → IfOk r (λ ensured. IfOk ensured (λ setup. IsJudged setup mid.now)) → IfOk r (λ ensured. IfOk ensured (λ setup. IsReady setup old new))
ready_each (Ok (Ok setup)) old mid new was_open past same stored judged = ready setup old mid new was_open past same stored judged
ready_each (Ok (Err fault)) old mid new was_open past same stored judged = tt
ready_each (Err e) old mid new was_open past same stored judged = tt

pub fault_each : (r : Result (Result (List Constituency) OpenFault) Error) (old mid : Seen) → AddsPast old mid → IfOk r (λ ensured. IfErr ensured (IsJudgedFault former_version mid.now)) → IfOk r (λ ensured. IfErr ensured (IsFormerFault old.now))
fault_each (Ok (Ok setup)) old mid past ensured = tt
fault_each (Ok (Err fault)) old mid past ensured = fault_judged old mid fault past ensured
fault_each (Err e) old mid past ensured = tt

-- what was taken over of a database that is as it was
pub taken_now : (setup : List Constituency) (old bare last : Seen) → bare.now ≡ old.now → AreTablesTakenOver setup bare last → AreTablesTakenOver setup old last
taken_now setup old bare last same h = record {
  state = h.state;
  text = h.text;
  lawful = h.lawful;
  reads = h.reads;
  former = subst (λ (d : Database). AreFormerTables setup h.text h.state d.trees) same h.former;
  alone = λ other lawful former. h.alone other lawful (subst (λ (d : Database). AreFormerTables setup h.text other d.trees) (sym same) former);
  inside = h.inside;
  left = subst (λ (d : Database). IsTakenOver h.text d.trees last.now.trees) same h.left;
  tables = h.tables;
}

pub taken_each : (judged : Result (List Constituency) OpenFault) (old mid new : Seen) → HasFormerTables old → IfOk judged (λ setup. IsReady setup old mid)
    → (IsInside mid → (number : ℕ) (text : List ℕ) → HasSetup number text mid.now.trees → SetsSetup version text mid new) → IfOk judged (λ setup. AreTablesTakenOver setup old new)
taken_each (Ok setup) old mid new has h sets = taken setup old mid new h (sets (ready_inside setup old mid has h) former_version h.stored.text (ready_row setup old mid h))
taken_each (Err fault) old mid new has h sets = tt

-- ---- the end of the transaction

-- What was taken over in a transaction that began on a connection to tables of version 1.
pub record Takes (known : BTreeMap (List ℕ) Statuses) (old bare last new : Seen) (got : Result (Result (List Constituency) OpenFault) Error) (r : Result (List Constituency) OpenFault) : Type 1 where
  pub schema : old.now.schema ≡ former_schema
  pub rowids : IsTrue old.is_open → HasFormerRowids old.now
  pub settled : IsSettled old
  pub begun : bare ≡ record old { in_transaction = true }
  pub kept : HasCleanDisk last → HasFirstTables 8 bare → KeepsCommit bare last
  pub survives : Survives bare last (λ _. ⊥)
  pub taken : HasCleanDisk last → HasFormerTables bare → IfOk got (λ answer. IfOk answer (λ setup. AreTablesTakenOver setup bare last))
  pub faults : HasCleanDisk last → HasFormerTables bare → IfOk got (λ answer. IfErr answer (IsFormerFault bare.now))
  pub numbers : HasCleanDisk last → HasFormerTables bare → IfOk got (λ answer. IfOk answer (λ setup. CountsFormer known setup bare.now))
  pub ends : EndsTakeover got last new r

module _ {known : BTreeMap (List ℕ) Statuses} {old bare last new : Seen} {got : Result (Result (List Constituency) OpenFault) Error} {r : Result (List Constituency) OpenFault} (h : Takes known old bare last new got r) where
  first : HasFormerTables bare
  first = rw h.begun (record { first = record { schema = h.schema; inside = refl }; distinct = h.rowids })

  same : bare.now ≡ old.now
  same = ap (λ (s : Seen). s.now) h.begun

  early : HasCleanDisk new → HasCleanDisk last
  early = clean_first h.ends.survives

  taken_here : (setup : List Constituency) → got ≡ Ok (Ok setup) → HasCleanDisk new → AreTablesTakenOver setup old last
  taken_here setup is clean = taken_now setup old bare last same (IfOk-at_ok (λ answer. IfOk answer (λ setup. AreTablesTakenOver setup bare last)) is (h.taken (early clean) first))

  pub whole_or_nothing : IsWholeOrNothing (LeavesTakenOver old.now) r old new
  whole_or_nothing = record {
    ended = h.ends.ended;
    same = λ clean now. elim h.ends.how [
      | inl it ↦ subst (λ x. OnErr x (IsAsBefore old new)) (sym it.is) tt
      | inr up ↦ on_err r (rolled_back old last new (has_begun h.begun h.settled (h.kept (early clean) first.first)) (up.undone clean (IfOk-weaker got _ _ (λ answer so. IfOk-weaker answer _ _ (λ setup was. was.inside.inside) so) (h.taken (early clean) first))) now)
    ];
    crash = survives_then old last new _ _ (LeavesTakenOver old.now) (λ _ db none. absurd none) (λ clean db it. leaves_taken it.0 old last db h.schema (taken_here it.0 it.1 clean) it.2) (survives_begun h.begun h.survives) h.ends.survives;
  }

  if_taken : (Is : List Constituency → Type 0) → ((it : CommitsTakeover got last new r) → Is it.setup) → IfOk r Is
  if_taken Is so = elim h.ends.how [
    | inl it ↦ subst (λ x. IfOk x Is) (sym it.is) (so it)
    | inr up ↦ subst (λ x. IfOk x Is) (sym up.is) tt
  ]

  pub opened_taken : HasCleanDisk new → IfOk r (λ setup. IsOpened setup old new)
  opened_taken clean = if_taken _ (λ it. let shown = it.shown clean in opened_former it.setup old last new h.schema (taken_here it.setup it.taken clean) shown.now_is shown.committed_is)

  pub numbers_taken : HasCleanDisk new → IfOk r (λ setup. CountsFormer known setup old.now)
  numbers_taken clean = if_taken _ (λ it. subst (CountsFormer known it.setup) same (IfOk-at_ok (λ answer. IfOk answer (λ setup. CountsFormer known setup bare.now)) it.taken (h.numbers (early clean) first)))

  pub fault_taken : HasCleanDisk new → IfErr r (IsFormerFault old.now)
  fault_taken clean = elim h.ends.how [
    | inl it ↦ subst (λ x. IfErr x (IsFormerFault old.now)) (sym it.is) tt
    | inr up ↦ subst (λ x. IfErr x (IsFormerFault old.now)) (sym up.is) (why up.why up.own)
  ]
    where
      why : (fault : OpenFault) → (got ≡ Ok (Err fault)) ⊎ ((fault ≡ Memory) ⊎ (fault ≡ Store)) → IsFormerFault old.now fault
      why fault (inl is) = subst (λ (d : Database). IsFormerFault d fault) same (IfOk-at_ok (λ answer. IfErr answer (IsFormerFault bare.now)) is (h.faults (early clean) first))
      why fault (inr (inl is)) = subst (IsFormerFault old.now) (sym is) tt
      why fault (inr (inr is)) = subst (IsFormerFault old.now) (sym is) tt

-- a failed call gives nothing
pub ok_none : {X E : Type 0} (r : Result X E) (Is : X → Type 0) → is_err r ≡ true → IfOk r Is
ok_none (Ok x) Is is = absurd (true≢false (sym is))
ok_none (Err e) Is is = tt
