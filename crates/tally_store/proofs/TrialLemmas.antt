-- What the trial of an import leaves of a connection, and of a store.
use Rattle.std.proofs.Common.{◌≡◌, ◌⊎◌, ◌∙◌, inl, inr, ℕ, Bool, true, false, IfErr, IfOk, IsTrue, List, [], OnOk, Option, Some, Result, Ok, Err, ap, arith, refl, subst, subst₂, sym, true≢false}
use Rattle.sqlite.specs.Effect.{Database}
use Rattle.sqlite.specs.State.{State as Seen, HasCleanDisk, IsNotRun, IsRolledBack, IsUnchanged, KeepsCommit, Survives, store_error}
use Rattle.sqlite.specs.declared.error.Error.{Error}
use Rattle.sqlite.specs.declared.error.Error.TheVariants.{SqlInputError}
use Rattle.sqlite_trees.specs.declared.error.StoreError.{StoreError}
use Rattle.sqlite_trees.specs.declared.error.StoreError.TheVariants.{OutOfMemory, Io, Corrupt, Full, Broken, Unstorable}
use Rattle.sqlite_value.specs.Order.{Row}
use Rattle.sqlite.proofs.StateLemmas.{survives_then}
use Rattle.tally_setup.specs.Constituency.{Constituency}
use Rattle.tally_returns.specs.State.{State}
use Rattle.tally_machine_law.specs.LawStatements.{ViewsAreLawful}
use Rattle.tally_keeper.proofs.TakenLemmas.{own-last}
use Rattle.tally_keeper.specs.Keeper.{IsImportFault, IsImportOf, Tries}
use Rattle.tally_returns_rows.specs.NamedRows.{NamesRows}
use Rattle.tally_returns_rows.specs.Source.{Delivery, GaveAll}
use Rattle.tally_returns_rows.specs.declared.import.ImportCount.{ImportCount}
use Rattle.tally_returns_rows.specs.declared.import.NamedRow.{NamedRow}
use Rattle.tally_returns_rows.specs.declared.source.ImportFault.{ImportFault}
use Rattle.tally_returns_rows.specs.declared.source.ImportFault.TheVariants.{Store}
use Rattle.tally_store_commands.specs.internal.Inside.{IsLawfulInside}
use Rattle.tally_store_commands.specs.internal.Known.{Known}
use Rattle.tally_store_schema.specs.Office.{IsInside}
use Rattle.tally_store_rows.specs.TablesOfState.{AreTables}
use Rattle.tally_store_open.specs.Crash.{IsUnwritten}
use Rattle.tally_store_open.specs.Create.{IsAsBefore}
use Rattle.tally_store_open.specs.Office.{HasState, IsOffice}
use Rattle.tally_store_open.specs.internal.Ending.{EndsUnchanged, IsSettled}
use Rattle.tally_store_open.proofs.EndingLemmas.{Began, rolled_back}
use Rattle.tally_store_open.proofs.UnwrittenLemmas.{LeavesCommit}
use Rattle.tally_store.specs.Content.{content_of}
use Rattle.tally_store.specs.Crash.{LeavesImported}
use Rattle.tally_store.specs.Store.{IsOfLawfulState, IsStored, KeepsText}
use Rattle.tally_store.specs.internal.Served.{IsServed}
use Rattle.tally_store.specs.internal.Requests.{DoesImport, DoesName, DoesTry, EndsImport}
use Rattle.tally_store.proofs.ContentLemmas.{content_is}
use Rattle.tally_store.proofs.RequestLemmas.{Took, imports_after, state_back}

-- ---- a connection

-- one call after the other that committed nothing
pub ends_then : (a b c : Seen) → EndsUnchanged a b → EndsUnchanged b c → EndsUnchanged a c
ends_then a b c one two = record {
  ended = two.ended;
  was_open = λ clean now. one.was_open (early clean) (two.was_open clean now);
  same = λ clean now.
      let was = one.same (early clean) (two.was_open clean now) in
      let is = two.same clean now in
      record { now = is.now ∙ was.now; committed = is.committed ∙ was.committed };
  survives = survives_then a b c _ _ _ (λ _ db none. absurd none) (λ _ db none. absurd none) one.survives two.survives;
}
  where
    early : HasCleanDisk c → HasCleanDisk b
    early clean = omega (arith, clean, two.survives.clean)

-- an import with a fault, and a call after it that committed nothing
module _ (setup : List Constituency) (d : Delivery) (a b c : Seen) (still : EndsUnchanged b c) where
  early : HasCleanDisk c → HasCleanDisk b
  early clean = omega (arith, clean, still.survives.clean)

  pub import_then : EndsImport setup d a b → EndsImport setup d a c
  import_then ends = record {
    ended = still.ended;
    was_open = λ clean now. ends.was_open (early clean) (still.was_open clean now);
    crash = survives_then a b c _ _ (LeavesImported setup d a) (λ _ db made. made) (λ _ db none. absurd none) ends.crash still.survives;
  }

  pub still_there : (fault said : ImportFault) → DoesImport setup d a b (Err fault) → DoesImport setup d a c (Err said)
  still_there fault said done clean now text s lawful has = state_back setup text s b c (done (early clean) (still.was_open clean now) text s lawful has) (still.same clean now)

-- the fault that came, or that the database failed
pub fault_or_failed : (d : Delivery) (fault said : ImportFault) → IsImportFault d fault → (said ≡ fault) ⊎ (said ≡ Store) → IsImportFault d said
fault_or_failed d fault said is (inl same) = subst (IsImportFault d) (sym same) is
fault_or_failed d fault said is (inr failed) = (is.0, is.1, inl (inr failed))

-- what a trial came to, or that the database failed
module _ (setup : List Constituency) (d : Delivery) (old mid new : Seen) (r said : Result ImportCount ImportFault) (early : HasCleanDisk new → HasCleanDisk mid) where
  pub tried_or_failed : DoesTry setup d old mid r → (said ≡ r) ⊎ (said ≡ Err Store) → DoesTry setup d old new said
  tried_or_failed tried (inl same) clean text s lawful has = subst (λ y. IfOk y (λ count. (after : Option State) × IsImportOf setup (Some s) d count after)) (sym same) (tried (early clean) text s lawful has)
  tried_or_failed tried (inr failed) clean text s lawful has = subst (λ y. IfOk y (λ count. (after : Option State) × IsImportOf setup (Some s) d count after)) (sym failed) tt

  pub named_or_failed : (before after : List NamedRow) → DoesName setup d old mid r before after → (said ≡ r) ⊎ (said ≡ Err Store) → DoesName setup d old new said before after
  named_or_failed before after named (inl same) clean text s lawful has = subst (λ y. OnOk y (NamesRows setup (Some s) d before after)) (sym same) (named (early clean) text s lawful has)
  named_or_failed before after named (inr failed) clean text s lawful has = subst (λ y. OnOk y (NamesRows setup (Some s) d before after)) (sym failed) tt

pub fault_of_trial : (d : Delivery) (r said : Result ImportCount ImportFault) → IfErr r (IsImportFault d) → OnOk r (GaveAll d) → (said ≡ r) ⊎ (said ≡ Err Store) → IfErr said (IsImportFault d)
fault_of_trial d r said fault gave (inl same) = subst (λ y. IfErr y (IsImportFault d)) (sym same) fault
fault_of_trial d (Ok count) said fault gave (inr failed) = subst (λ y. IfErr y (IsImportFault d)) (sym failed) (own-last d Store gave (inr refl))
fault_of_trial d (Err why) said fault gave (inr failed) = subst (λ y. IfErr y (IsImportFault d)) (sym failed) (fault_or_failed d why Store fault (inr refl))

-- a transaction on the database of a store that committed nothing and was rolled back
pub undone_ends : (setup : List Constituency) (old bare last new : Seen) → IsOfLawfulState setup old → bare ≡ record old { in_transaction = true }
    → (HasCleanDisk last → IsTrue last.is_open → IsTrue bare.is_open) → (HasCleanDisk last → IsLawfulInside setup bare → KeepsCommit bare last) → Survives bare last (λ _. ⊥)
    → new.in_transaction ≡ false → (HasCleanDisk new → IsRolledBack last new) → Survives last new (λ _. ⊥) → EndsUnchanged old new
undone_ends setup old bare last new office begun was_open kept one ended undone two = record {
  ended = ended;
  was_open = λ clean now. open_before (early clean) ((undone clean).was_open now);
  same = λ clean now. rolled_back old last new (began (early clean) ((undone clean).was_open now)) (undone clean) now;
  survives = survives_then old last new _ _ _ (λ _ db none. absurd none) (λ _ db none. absurd none) inside two;
}
  where
    early : HasCleanDisk new → HasCleanDisk last
    early clean = omega (arith, clean, two.clean)

    inside : Survives old last (λ _. ⊥)
    inside =
        let s = rw begun at one in
        record { clean = s.clean; shield = s.shield; counts = s.counts; limit = s.limit; closes = s.closes; crash = s.crash }

    open_before : HasCleanDisk last → IsTrue last.is_open → IsTrue old.is_open
    open_before clean now = rw begun at (was_open clean now)

    here : (text : List ℕ) (s : State) → HasState setup text s old → IsInside bare
    here text s has = rw begun (record { schema = has.schema; sound = has.sound; distinct = has.distinct; inside = refl })

    held : (text : List ℕ) (s : State) → HasState setup text s old → AreTables setup text s bare.now.trees
    held text s has = rw begun has.tables

    committed : KeepsCommit bare last → IsTrue last.is_open → last.committed ≡ old.committed
    committed same = rw begun at same.committed

    began : HasCleanDisk last → IsTrue last.is_open → Began old last
    began clean now =
        let it = office (omega (arith, clean, inside.clean)) (open_before clean now) in
        let has = it.2.has in
        let same = kept clean (record { text = it.2.text; office = it.0; inside = here it.2.text it.0 has; lawful = it.1; tables = held it.2.text it.0 has }) in
        record { settled = λ _. sym has.settled; was_open = λ open_last. open_before clean open_last; committed = committed same }

-- a statement that was not prepared
pub not_prepared : (old new : Seen) (sql : List ℕ) (e : Error) → IsSettled old → IsNotRun old new sql [] e → IsTrue new.is_open → IsTrue old.is_open × IsAsBefore old new
unfolding IsNotRun
not_prepared old new sql e settled (inl same) now = (same.1.0.was_open, record { now = same.1.0.now_is; committed = same.1.0.committed_is })
not_prepared old new sql e settled (inr fails) now =
    let was_open = fails.3.was_open now in
    let back = fails.3.undone now in
    (was_open, record { now = back.0 ∙ sym (settled was_open); committed = back.1 })

-- a fault of the text that was given
unfoldable pub is_of_text : Error → Bool
is_of_text (SqlInputError fault) = true
is_of_text _ = false

not_of_store : (cause : StoreError) → is_of_text (store_error cause) ≡ false
unfolding is_of_text
not_of_store OutOfMemory = refl
not_of_store Io = refl
not_of_store Corrupt = refl
not_of_store Full = refl
not_of_store Broken = refl
not_of_store Unstorable = refl

-- a connection that finds a fault in a text is open
pub open_by_fault : (old new : Seen) (sql : List ℕ) (e : Error) → is_of_text e ≡ true → IsNotRun old new sql [] e → IsTrue new.is_open
unfolding IsNotRun
open_by_fault old new sql e of_text (inl same) = same.1.0.is_open
open_by_fault old new sql e of_text (inr fails) = absurd (true≢false (sym of_text ∙ ap is_of_text fails.1 ∙ not_of_store fails.0))

-- what a connection is left as by a text that it was given to prepare
module _ {X : Type 0} (P : X → Type 0) (old new : Seen) (sql : List ℕ) where
  was_there : (r : Result X Error) → IsSettled old → IfOk r (λ s. P s × IsUnchanged old new) → IfErr r (λ e. (params : Row) → IsNotRun old new sql params e) → IsTrue new.is_open → IsTrue old.is_open × IsAsBefore old new
  was_there (Ok s) settled ok err now = (ok.1.0.was_open, record { now = ok.1.0.now_is; committed = ok.1.0.committed_is })
  was_there (Err e) settled ok err now = not_prepared old new sql e settled (err []) now

  pub prepared_ends : (r : Result X Error) → IsSettled old → new.in_transaction ≡ false → (HasCleanDisk new → IfOk r (λ s. P s × IsUnchanged old new)) → (HasCleanDisk new → IfErr r (λ e. (params : Row) → IsNotRun old new sql params e)) → Survives old new (λ _. ⊥) → EndsUnchanged old new
  prepared_ends r settled ended ok err survives = record {
    ended = ended;
    was_open = λ clean now. (was_there r settled (ok clean) (err clean) now).0;
    same = λ clean now. (was_there r settled (ok clean) (err clean) now).1;
    survives = survives;
  }

-- a call that committed nothing wrote nothing
pub unwritten_ends : (setup : List Constituency) (old new : Seen) → LeavesCommit old → IsOfLawfulState setup old → EndsUnchanged old new → IsUnwritten old new
unwritten_ends setup old new law office ends = record {
  survives = ends.survives;
  crash = λ clean was_open db may. elim (ends.survives.crash clean db may) [
    | inl before ↦ law db was_open before ∙ ap (λ (d : Database). d.trees) (office (omega (arith, clean, ends.survives.clean)) was_open).2.has.settled
    | inr none ↦ absurd none
  ];
  same = ends.same;
}

-- ---- a store

-- what is known of a trial on the connection of a store
pub record Tried (setup : List Constituency) (old new : Seen) (d : Delivery) (r : Result ImportCount ImportFault) : Type 0 where
  pub ends : EndsUnchanged old new
  pub done : DoesTry setup d old new r
  pub fault : IfErr r (IsImportFault d)
  pub shut : HasCleanDisk new → new.is_open ≡ false → r ≡ Err Store

module _ (setup : List Constituency) (old new : Seen) where
  office_still : (s : State) → IsOffice setup s old → IsAsBefore old new → IsOffice setup s new
  office_still s office same = record { text = office.text; reads = office.reads; has = state_back setup office.text s old new office.has same }

  clean_before : EndsUnchanged old new → HasCleanDisk new → HasCleanDisk old
  clean_before ends clean = omega (arith, clean, ends.survives.clean)

  pub stored_still : IsStored setup old → EndsUnchanged old new → IsStored setup new
  stored_still was ends = record {
    limits = was.limits;
    autocommit = ends.ended;
    office = λ clean now.
        let office = was.office (clean_before ends clean) (ends.was_open clean now) in
        (office.0, office.1, office_still office.0 office.2 (ends.same clean now));
  }

  pub served_still : (known : Known) → IsServed setup old known → EndsUnchanged old new → IsServed setup new known
  served_still known was ends = record {
    stored = stored_still was.stored ends;
    true_is = λ clean now text s lawful has.
        let same = ends.same clean now in
        let back : IsAsBefore new old = record { now = sym same.now; committed = sym same.committed } in
        was.true_is (clean_before ends clean) (ends.was_open clean now) text s lawful (state_back setup text s new old has back);
  }

  pub keeps_text_still : EndsUnchanged old new → HasCleanDisk new → IsTrue new.is_open → KeepsText setup old new
  keeps_text_still ends clean now text s lawful has = (s, state_back setup text s old new has (ends.same clean now))

  pub tries_after : (d : Delivery) (r : Result ImportCount ImportFault) → ViewsAreLawful → IsStored setup old → Tried setup old new d r → HasCleanDisk new → Tries setup (content_of setup old) d r (content_of setup new)
  tries_after d (Ok count) views was h clean = go new.is_open refl
    where
      go : (b : Bool) → new.is_open ≡ b → Tries setup (content_of setup old) d (Ok count) (content_of setup new)
      go true now =
          let before = h.ends.was_open clean now in
          let office = was.office (clean_before h.ends clean) before in
          let next = office_still office.0 office.2 (h.ends.same clean now) in
          let done = h.done clean office.2.text office.0 office.1 office.2.has in
          subst₂ (λ a b. Tries setup a d (Ok count) b) (sym (content_is setup office.0 old views was.limits office.1 office.2 before)) (sym (content_is setup office.0 new views was.limits office.1 next now)) (done.0, done.1, refl)
      go false shut = absurd (let failed = h.shut clean shut in cc)
  tries_after d (Err fault) views was h clean =
      let took : Took setup old new d (Err fault) = record {
        ended = h.ends.ended;
        clean = clean_before h.ends;
        done = λ clean now text s lawful has. state_back setup text s old new has (h.ends.same clean now);
        fault = h.fault;
        shut = h.shut;
        was_open = h.ends.was_open;
      } in
      imports_after setup old new d (Err fault) views was took clean

  -- the rows that were named, by what the store had before
  pub named_after : (d : Delivery) (r : Result ImportCount ImportFault) (before after : List NamedRow) → ViewsAreLawful → IsStored setup old → (HasCleanDisk new → HasCleanDisk old)
      → (HasCleanDisk new → IsTrue new.is_open → IsTrue old.is_open) → (HasCleanDisk new → new.is_open ≡ false → r ≡ Err Store) → DoesName setup d old new r before after
      → HasCleanDisk new → OnOk r (NamesRows setup (content_of setup old) d before after)
  named_after d (Ok count) before after views was clean_old was_open shut names clean = go new.is_open refl
    where
      go : (b : Bool) → new.is_open ≡ b → NamesRows setup (content_of setup old) d before after
      go true now =
          let open_old = was_open clean now in
          let office = was.office (clean_old clean) open_old in
          subst (λ s. NamesRows setup s d before after) (sym (content_is setup office.0 old views was.limits office.1 office.2 open_old)) (names clean office.2.text office.0 office.1 office.2.has)
      go false is = absurd (let failed = shut clean is in cc)
  named_after d (Err fault) before after views was clean_old was_open shut names clean = tt
