-- From what a crash leaves of two files to what the next opening of them finds.
use Rattle.std.proofs.Common.{◌≡◌, ◌⊎◌, ◌∙◌, ◌≢◌, ℕ, List, IsTrue, true, inl, inr, refl, sym, ap, subst, subst₂, arith, ◌≤◌, true≢false}
use Rattle.std.proofs.Math.Logic.{∥∥₁_elim}
use Rattle.std.specs.Prelude.{codes}
use Rattle.sqlite_catalog.proofs.ReadLemmas.{lists_once}
use Rattle.sqlite_disk.specs.declared.Disk.{Ghosts}
use Rattle.sqlite_schema.specs.Names.{same_name}
use Rattle.sqlite_schema.specs.declared.schema.Schema.{Schema}
use Rattle.sqlite_store.specs.declared.store.FileStore.{FileStore}
use Rattle.sqlite_store.specs.FileStore.{view}
use Rattle.sqlite_trees.specs.Objects.{catalog_tree}
use Rattle.sqlite_trees.specs.Props.{Trees-set}
use Rattle.sqlite_trees.specs.View.{IsClean, IsRolledBack, View, doubt}
use Rattle.sqlite.proofs.Theorems.{next_run}
use Rattle.sqlite.specs.Effect.{Database, IsDatabase}
use Rattle.sqlite.specs.Files.{file_state}
use Rattle.sqlite.specs.Held.{Held}
use Rattle.tally_keeper.specs.declared.fault.OpenFault.{OpenFault}
use Rattle.tally_keeper.specs.declared.fault.OpenFault.TheVariants.{BadTables, Memory, NoTables, Setup, Store}
use Rattle.tally_returns.specs.State.{State}
use Rattle.tally_setup.specs.Constituency.{Constituency}
use Rattle.tally_rules.specs.Fault.{IsFaultIn, without_place}
use Rattle.tally_rules.specs.Reading.{setup_of_text}
use Rattle.tally_rules.specs.declared.fault.SetupFault.{SetupFault}
use Rattle.tally_rules.specs.declared.fault.SetupFault.TheVariants as setup_fault
use Rattle.tally_store_schema.specs.Made.{has_former_tables, has_table}
use Rattle.tally_store_schema.specs.Tables.{former_schema, office_schema}
use Rattle.tally_machine_law.specs.LawfulState.{IsLawfulState}
use Rattle.tally_store_rows.specs.TablesOfState.{AreTables, version}
use Rattle.tally_store_open.specs.Office.{HasOfficeSchema, IsWholeOffice}
use Rattle.tally_store_open.specs.Open.{AreFormerTables, AreFound, AreOfOneState, HasSetup, IsOfKnownVersion, IsOpenFault}
use Rattle.tally_store_open.proofs.OpenedLemmas.{forms_differ, one_row, one_setup}
use Rattle.tally_store_open.proofs.WholeLemmas.{listed}
use Rattle.tally_store.specs.Crash.{IsKept}
use Rattle.tally_store.specs.NextOpening.{FindsContent, FindsWhatIsLeft, OpensAs, OpensWholeOffice}

-- ---- the tables of one lawful state, and no others

-- the schema of the office has each of its tables
has_first_tables : has_former_tables office_schema ≡ true
unfolding same_name
has_first_tables = refl

has_past_table : has_table office_schema (codes "past") ≡ true
unfolding same_name
has_past_table = refl

module _ (setup : List Constituency) (text : List ℕ) (s : State) (found : Database) (sound : IsDatabase found) (lawful : IsLawfulState setup s) (whole : IsWholeOffice setup text s found.trees) where
  -- what lists the tables of the office is understood as the schema of the office
  schema : found.schema ≡ office_schema
  schema = lists_once (found.trees catalog_tree) found.schema office_schema sound.lists whole.schema.lists

  names : has_former_tables found.schema ≡ true
  names = subst (λ (x : Schema). has_former_tables x ≡ true) (sym schema) has_first_tables

  past : has_table found.schema (codes "past") ≡ true
  past = subst (λ (x : Schema). has_table x (codes "past") ≡ true) (sym schema) has_past_table

  are_found : AreFound setup text s found
  are_found = (whole.reads, inl (schema, whole.tables))

  own_text : (words : List ℕ) → HasSetup version words found.trees → words ≡ text
  own_text words row = (one_row version version words text found.trees row whole.tables.setup_is).1

  known_text : (words : List ℕ) → IsOfKnownVersion words found → words ≡ text
  known_text words (inl known) = own_text words known.1
  known_text words (inr known) = absurd (forms_differ (sym schema ∙ known.0))

  found_text : (other : List Constituency) (words : List ℕ) (t : State)
      → ((found.schema ≡ office_schema) × AreTables other words t found.trees) ⊎ ((found.schema ≡ former_schema) × AreFormerTables other words t found.trees) → words ≡ text
  found_text other words t (inl is) = own_text words is.1.setup_is
  found_text other words t (inr is) = absurd (forms_differ (sym schema ∙ is.0))

  no_fault : (fault : SetupFault) → IsFaultIn (setup_of_text text) fault → fault ≢ setup_fault.Memory → ⊥
  no_fault setup_fault.NotToml is other = let e = sym is ∙ ap without_place whole.reads in cc
  no_fault (setup_fault.Missing key) is other = let e = sym is ∙ ap without_place whole.reads in cc
  no_fault (setup_fault.BadValue key) is other = let e = sym is ∙ ap without_place whole.reads in cc
  no_fault (setup_fault.OverLimit key) is other = let e = sym is ∙ ap without_place whole.reads in cc
  no_fault (setup_fault.Duplicate code) is other = let e = sym is ∙ ap without_place whole.reads in cc
  no_fault setup_fault.UnknownProfile is other = let e = sym is ∙ ap without_place whole.reads in cc
  no_fault setup_fault.Memory is other = other refl

  one : (other : List Constituency) (words : List ℕ) (t : State) → AreOfOneState other words t found → (other ≡ setup) × (t ≡ s)
  one other words t are =
      let own : words ≡ text = found_text other words t are.found.1 in
      let same : other ≡ setup = one_setup words text other setup own are.found.0 whole.reads in
      (same, sym (are.alone s (subst (λ c. IsLawfulState c s) (sym same) lawful) (subst₂ (λ c x. AreFound c x s found) (sym same) (sym own) are_found)))

  faults : (fault : OpenFault) → IsOpenFault found fault → (fault ≡ Memory) ⊎ (fault ≡ Store)
  faults NoTables (inl missing) = absurd (true≢false (sym names ∙ missing))
  faults NoTables (inr missing) = absurd (true≢false (sym past ∙ missing.0))
  faults BadTables is = absurd (is.0 setup text s lawful are_found)
  faults (Setup fault) is = absurd (no_fault fault (subst (λ w. IsFaultIn (setup_of_text w) fault) (known_text is.0 is.1) is.2) is.3)
  faults Memory is = inl refl
  faults Store is = inr refl

  pub opens_as : OpensAs setup s found
  opens_as = record { one = one; faults = faults }

pub opens_whole : {E : Type 0} {h : Ghosts E} (next : Held (FileStore E h)) → OpensWholeOffice next
opens_whole next opened setup text s lawful whole = opens_as setup text s (file_state next).now (opened.1 opened.0.is_open).0 lawful whole

-- ---- from one run to the next

-- what is known of a store once it is given back, of the connection that had it
pub clean_before : {S : Type 0} (seen : S → View) (conn closed : Held S) (last : S) → closed ≡ conn → doubt (seen closed.store).is_clean ≤ doubt (seen last).is_clean → IsClean (seen last) → IsClean (seen conn.store)
clean_before seen conn closed last is counts clean =
    let early : IsClean (seen closed.store) = omega (arith, counts, clean) in
    subst (λ (h : _). IsClean (seen h.store)) is early

pub numbered_before : {S : Type 0} (seen : S → View) (conn closed : Held S) (last : S) → closed ≡ conn → IsRolledBack (seen closed.store) (seen last)
    → (IsClean (seen last) → IsTrue (seen last).is_numbered) → IsClean (seen last) → IsTrue (seen conn.store).is_numbered
numbered_before seen conn closed last is undone numbered clean =
    subst (λ (h : _). IsTrue (seen h.store).is_numbered) is (subst IsTrue undone.numbered (numbered clean))

module _ {D E : Type 0} {g : Ghosts D} {h : Ghosts E} (conn : Held (FileStore D g)) (next : Held (FileStore E h)) where
  pub finds_left : IsTrue (view conn.store).is_numbered → FindsWhatIsLeft conn next
  finds_left numbered offices left over =
      subst (λ t. ∥ (file_state conn).may_leave t ∥₁) (ap (λ (d : Database). d.trees) (sym over.opened.0.clean))
      (next_run conn.store numbered (λ db may. (office_schema, offices db may)) left over.is_left (file_state next) over.found)

  pub finds_content : (setup : List Constituency) → IsTrue (view conn.store).is_numbered → (IsTrue (file_state conn).is_open → IsKept setup (file_state conn)) → FindsContent conn next setup
  finds_content setup numbered kept_now now left over =
      let kept = kept_now now in
      let has = kept.office.has in
      let whole : IsWholeOffice setup kept.office.text kept.state (file_state conn).now.trees = record { reads = kept.office.reads; tables = has.tables; schema = listed (file_state conn).now has.schema has.sound } in
      let same : (file_state next).now.trees ≡ (file_state conn).now.trees =
      ∥∥₁_elim (finds_left numbered (λ db may. subst HasOfficeSchema (sym (kept.crash db may)) whole.schema) left over) (Trees-set _ _) (λ may. kept.crash (file_state next).now.trees may) in
      (kept.state, kept.content, opens_whole next over.opened setup kept.office.text kept.state kept.lawful (subst (IsWholeOffice setup kept.office.text kept.state) (sym same) whole))
