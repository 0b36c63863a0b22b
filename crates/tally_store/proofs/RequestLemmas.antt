-- What a request or an import leaves of a connection, and of a store.
use Rattle.std.proofs.Common.{◌≡◌, ◌⊎◌, ◌∙◌, inl, inr, ℕ, Bool, true, false, IsTrue, IfErr, IfSome, OnOk, Option, Some, None, List, [], ◌∷◌, Result, Ok, Err, refl, sym, ap, subst, subst₂, arith, true≢false}
use Rattle.std.specs.BTreeMap.{BTreeMap, is_at}
use Rattle.std.specs.Map.{lookup}
use Rattle.std.proofs.lemmas.List.Elements.{All-from_recursion}
use Rattle.sqlite.proofs.StateLemmas.{survives_then}
use Rattle.sqlite.specs.Effect.{Database, IsDatabase}
use Rattle.sqlite.specs.Steps.{FailsToCommit}
use Rattle.sqlite.specs.declared.error.Error.{Error}
use Rattle.sqlite.specs.declared.transaction.Transaction.{Transaction}
use Rattle.sqlite.specs.State.{State as Seen, HasCleanDisk, IsUnchanged, KeepsCounts, Shows, Survives}
use Rattle.sqlite_trees.specs.declared.store.Store.{Ghosts}
use Rattle.sqlite_trees.specs.Tree.{Trees}
use Rattle.tally_store_schema.specs.Rows.{HaveDistinctRowids}
use Rattle.tally_setup.specs.Constituency.{Constituency}
use Rattle.tally_setup.specs.Limits.{IsSetup}
use Rattle.tally_returns.specs.Named.{BringsCode}
use Rattle.tally_setup.specs.Code.{code_cmp}
use Rattle.tally_rules.specs.Reading.{setup_of_text}
use Rattle.tally_returns.specs.Return.{Returns}
use Rattle.tally_returns.specs.State.{State}
use Rattle.tally_returns.specs.View.{view_of}
use Rattle.tally_returns.specs.declared.ask.Ask.{Ask}
use Rattle.tally_returns.specs.declared.refusal.Refusal.{Refusal}
use Rattle.tally_returns.specs.declared.refusal.Refusal.TheVariants as refusal
use Rattle.tally_returns.specs.declared.reply.Reply.{Reply}
use Rattle.tally_machine_law.specs.LawStatements.{ViewsAreLawful}
use Rattle.tally_machine_law.specs.LawfulState.{IsLawfulState}
use Rattle.tally_machine_law.specs.Step.{IsAnswered, IsNotAccepted}
use Rattle.tally_machine_law.proofs.LawLemmas.{answered-lawful}
use Rattle.tally_store_open.specs.Numbers.{HasNumbers}
use Rattle.tally_keeper.specs.Events.{BringsCodes}
use Rattle.tally_keeper.specs.Keeper.{Event, Happens, Imports, IsImportFault, IsImportOf, failed_import, request, whole_import}
use Rattle.tally_returns_rows.specs.Source.{Delivery}
use Rattle.tally_returns_rows.specs.declared.import.ImportCount.{ImportCount}
use Rattle.tally_returns_rows.specs.declared.source.ImportFault.{ImportFault}
use Rattle.tally_returns_rows.specs.declared.source.ImportFault.TheVariants as import_fault
use Rattle.tally_keeper.proofs.EventLemmas.{happen-lawful}
use Rattle.tally_keeper.proofs.TreeLemmas.{get-tree}
use Rattle.tally_store_commands.specs.internal.Inside.{IsLawfulInside, StaysInState}
use Rattle.tally_store_commands.specs.internal.Known.{AreKnown, Known, known_of}
use Rattle.tally_store_commands.specs.internal.Requests.{IsCarriedOut, IsImported, IsImportedKnown, IsInState}
use Rattle.tally_store_schema.specs.internal.Inside.{StaysInside}
use Rattle.tally_store_schema.specs.declared.table.KeyedTable.{KeyedTable}
use Rattle.tally_store_schema.specs.Office.{IsInside, tree_of}
use Rattle.tally_store_rows.specs.TablesOfState.{AreTables}
use Rattle.tally_store_rows.specs.Views.{statuses_of}
use Rattle.tally_store_rows.specs.declared.views.Statuses.{Statuses}
use Rattle.tally_store.specs.Content.{content_of}
use Rattle.tally_store.specs.Crash.{AreTablesAfter, AreTablesImported, LeavesImported, WritesNothing}
use Rattle.tally_store_open.specs.Create.{IsAsBefore}
use Rattle.tally_store.specs.internal.Requests.{Does, DoesImport, EndsImport, IsDone, IsAllDone, IsAllKnown, IsImportDone, IsNothing, KnowsAfter, KnowsImported}
use Rattle.tally_store_open.specs.Office.{HasState, IsOffice}
use Rattle.tally_store_open.proofs.UnwrittenLemmas.{LeavesCommit}
use Rattle.tally_store.specs.Store.{IsStored, KeepsText}
use Rattle.tally_store.specs.internal.Served.{IsServed}
use Rattle.tally_store_open.proofs.WholeLemmas.{whole_inside}
use Rattle.tally_store.proofs.ContentLemmas.{content_is, content_shut}

-- ---- a read before the rest

pub on_ok : {X E P : Type 0} (r : Result X E) → P → OnOk r P
on_ok (Ok x) p = p
on_ok (Err e) p = tt

pub stays_in_state : {S : Type 0} (setup : List Constituency) (g : Ghosts S) (old new : Transaction S) → StaysInside g old new → StaysInState setup g old new
stays_in_state setup g old new stays = record { same_reference = stays.same_reference; was_open = stays.was_open; kept = λ clean at. stays.kept clean at.inside; survives = stays.survives }

pub inside_still : (old new : Seen) → IsUnchanged old new → IsInside old → IsInside new
inside_still old new same inside = record {
  schema = ap (λ (d : Database). d.schema) same.0.now_is ∙ inside.schema;
  sound = subst IsDatabase (sym same.0.now_is) inside.sound;
  distinct = subst (λ (d : Database). (t : KeyedTable) → HaveDistinctRowids (d.trees (tree_of t))) (sym same.0.now_is) inside.distinct;
  inside = same.0.mode ∙ inside.inside;
}

pub lawful_still : (setup : List Constituency) (old new : Seen) → IsUnchanged old new → IsLawfulInside setup old → IsLawfulInside setup new
lawful_still setup old new same at = record {
  text = at.text;
  office = at.office;
  inside = inside_still old new same at.inside;
  lawful = at.lawful;
  tables = subst (λ (d : Database). AreTables setup at.text at.office d.trees) (sym same.0.now_is) at.tables;
}

-- ---- a transaction and its end

-- a database that is as it was
pub state_back : (setup : List Constituency) (text : List ℕ) (s : State) (old new : Seen) → HasState setup text s old → IsAsBefore old new → HasState setup text s new
state_back setup text s old new h back = record {
  tables = subst (λ (d : Database). AreTables setup text s d.trees) (sym back.now) h.tables;
  schema = ap (λ (d : Database). d.schema) back.now ∙ h.schema;
  sound = subst IsDatabase (sym back.now) h.sound;
  distinct = subst (λ (d : Database). (t : KeyedTable) → HaveDistinctRowids (d.trees (tree_of t))) (sym back.now) h.distinct;
  settled = back.committed ∙ h.settled ∙ sym back.now;
}

-- a database that was committed
pub state_committed : (setup : List Constituency) (text : List ℕ) (s : State) (last new : Seen) → IsInState setup text s last → Shows last new last.now last.now false → HasState setup text s new
state_committed setup text s last new h shown = record {
  tables = subst (λ (d : Database). AreTables setup text s d.trees) (sym shown.now_is) h.tables;
  schema = ap (λ (d : Database). d.schema) shown.now_is ∙ h.inside.schema;
  sound = subst IsDatabase (sym shown.now_is) h.inside.sound;
  distinct = subst (λ (d : Database). (t : KeyedTable) → HaveDistinctRowids (d.trees (tree_of t))) (sym shown.now_is) h.inside.distinct;
  settled = shown.committed_is ∙ sym shown.now_is;
}

-- what a crash may leave of a transaction and its commit
pub survives_commit : (old last new : Seen) (P : Trees → Type 0) → Survives old last (λ _. ⊥) → Survives last new (λ db. db ≡ last.now.trees) → (HasCleanDisk last → P last.now.trees) → Survives old new P
survives_commit old last new P inside commit made =
    survives_then old last new _ _ P (λ _ db none. absurd none) (λ clean db is. subst P (sym is) (made (omega (arith, clean, commit.clean)))) inside commit

-- a call that left what it found, and its commit
pub unwritten_commit : (old last new : Seen) → LeavesCommit old → Survives old last (λ _. ⊥) → Survives last new (λ db. db ≡ last.now.trees)
    → (HasCleanDisk last → old.committed ≡ old.now) → (HasCleanDisk last → last.now ≡ old.now) → (HasCleanDisk last → last.changes ≡ old.changes) → (HasCleanDisk last → last.last_rowid ≡ old.last_rowid)
    → (HasCleanDisk new → Shows last new last.now last.now false) → (HasCleanDisk new → KeepsCounts last new) → WritesNothing old new
unwritten_commit old last new law inside commit settled same changes last_rowid shown counts = record {
  crash = λ clean now db may. elim (both.crash clean db may) [
    | inl before ↦ law db now before ∙ ap (λ (d : Database). d.trees) (settled (early clean))
    | inr is ↦ is
  ];
  same = λ clean now. record {
    now = (shown clean).now_is ∙ same (early clean);
    committed = (shown clean).committed_is ∙ same (early clean) ∙ sym (settled (early clean));
  };
  counts = λ clean now. record {
    changes = (counts clean).changes ∙ changes (early clean);
    last_rowid = (counts clean).last_rowid ∙ last_rowid (early clean);
  };
}
  where
    early : HasCleanDisk new → HasCleanDisk last
    early clean = omega (arith, clean, commit.clean)

    both : Survives old new (λ db. db ≡ old.now.trees)
    both = survives_commit old last new (λ db. db ≡ old.now.trees) inside commit (λ clean. ap (λ (d : Database). d.trees) (same clean))

-- ---- a request

pub done_committed : (setup : List Constituency) (text : List ℕ) (s : State) (ask : Ask) (r : Result Reply Refusal) (last new : Seen) → IsCarriedOut setup text s ask r last → Shows last new last.now last.now false
    → IsDone setup text s ask r new
done_committed setup text s ask r last new h shown = record { state = h.state; answered = h.answered; has = state_committed setup text h.state last new h.in_state shown }

pub not_accepted : (e : Refusal) → (e ≡ refusal.Memory) ⊎ (e ≡ refusal.Store) → IsNotAccepted (Err e)
not_accepted e (inl is) = inl (ap Err is)
not_accepted e (inr is) = inr (ap Err is)

pub done_failed : (setup : List Constituency) (text : List ℕ) (s : State) (ask : Ask) (e : Refusal) (old new : Seen) → (e ≡ refusal.Memory) ⊎ (e ≡ refusal.Store) → HasState setup text s old → IsAsBefore old new
    → IsDone setup text s ask (Err e) new
done_failed setup text s ask e old new own h back = record { state = s; answered = inr (not_accepted e own, refl); has = state_back setup text s old new h back }

pub tables_after : (setup : List Constituency) (text : List ℕ) (s : State) (ask : Ask) (r : Result Reply Refusal) (last : Seen) → setup_of_text text ≡ Ok setup → IsCarriedOut setup text s ask r last → AreTablesAfter setup text s ask last.now.trees
tables_after setup text s ask r last reads h = record { answer = r; state = h.state; answered = h.answered; whole = whole_inside setup text h.state last reads h.in_state.inside h.in_state.tables }

-- ---- an import

-- what it leaves of a connection, however its transaction ended
pub import_ends : (setup : List Constituency) (d : Delivery) (old bare last new : Seen) → bare ≡ record old { in_transaction = true } → (HasCleanDisk last → IsTrue last.is_open → IsTrue bare.is_open)
    → new.in_transaction ≡ false → (HasCleanDisk new → HasCleanDisk last) → (HasCleanDisk new → IsTrue new.is_open → IsTrue last.is_open) → Survives old new (LeavesImported setup d old) → EndsImport setup d old new
import_ends setup d old bare last new begun was_open ended early still_open crash = record {
  ended = ended;
  was_open = λ clean now. rw begun at (was_open (early clean) (still_open clean now));
  crash = crash;
}

pub open_failed : (last new : Seen) (e : Error) → FailsToCommit last new e → IsTrue new.is_open → IsTrue last.is_open
open_failed last new e (inl fails) now = fails.3.was_open now
open_failed last new e (inr late) now = late.2.0.was_open

pub all_committed : (setup : List Constituency) (text : List ℕ) (s : State) (d : Delivery) (count : ImportCount) (last new : Seen) → IsImported setup text s d count last → Shows last new last.now last.now false
    → IsAllDone setup text s d count new
all_committed setup text s d count last new h shown = record { state = h.state; imported = h.imported; has = state_committed setup text h.state last new h.in_state shown }

pub tables_imported : (setup : List Constituency) (text : List ℕ) (s : State) (d : Delivery) (count : ImportCount) (last : Seen) → setup_of_text text ≡ Ok setup → IsImported setup text s d count last → AreTablesImported setup text s d last.now.trees
tables_imported setup text s d count last reads h = record { count = count; state = h.state; imported = h.imported; whole = whole_inside setup text h.state last reads h.in_state.inside h.in_state.tables }

import-lawful : (setup : List Constituency) (s t : State) (d : Delivery) (count : ImportCount) → IsSetup setup → IsLawfulState setup s → IsImportOf setup (Some s) d count (Some t) → IsLawfulState setup t
import-lawful setup s t d count limits lawful is =
    let event : Event = whole_import is.0 is.1 count in
    happen-lawful setup s t (event ∷ []) (All-from_recursion BringsCodes (event ∷ []) (tt, tt)) limits lawful (Some t, is.3, refl)

-- ---- what a store shows

-- the office that it shows while it is open
pub shows_office : (setup : List Constituency) (seen : Seen) → ViewsAreLawful → IsStored setup seen → HasCleanDisk seen → IfSome (content_of setup seen) (λ s. IsLawfulState setup s × IsOffice setup s seen)
shows_office setup seen views was clean = go seen.is_open refl
  where
    go : (b : Bool) → seen.is_open ≡ b → IfSome (content_of setup seen) (λ s. IsLawfulState setup s × IsOffice setup s seen)
    go true now =
        let office = was.office clean now in
        subst (λ o. IfSome o (λ s. IsLawfulState setup s × IsOffice setup s seen)) (sym (content_is setup office.0 seen views was.limits office.1 office.2 now)) (office.1, office.2)
    go false shut = subst (λ o. IfSome o (λ s. IsLawfulState setup s × IsOffice setup s seen)) (sym (content_shut setup seen shut)) tt

weaker : {X : Type 0} (P Q : X → Type 0) (o : Option X) → ((x : X) → P x → Q x) → IfSome o P → IfSome o Q
weaker P Q (Some x) f h = f x h
weaker P Q None f h = tt

pub shows_lawful : (setup : List Constituency) (seen : Seen) → ViewsAreLawful → IsStored setup seen → HasCleanDisk seen → IfSome (content_of setup seen) (IsLawfulState setup)
shows_lawful setup seen views was clean = weaker _ (IsLawfulState setup) (content_of setup seen) (λ s h. h.0) (shows_office setup seen views was clean)

pub shows_tables : (setup : List Constituency) (seen : Seen) → ViewsAreLawful → IsStored setup seen → HasCleanDisk seen → IfSome (content_of setup seen) (λ s. IsOffice setup s seen)
shows_tables setup seen views was clean = weaker _ (λ s. IsOffice setup s seen) (content_of setup seen) (λ s h. h.1) (shows_office setup seen views was clean)

-- what is known of a request on the connection of a store
pub record Served (setup : List Constituency) (old new : Seen) (ask : Ask) (r : Result Reply Refusal) : Type 0 where
  pub ended : new.in_transaction ≡ false
  pub codes : BringsCode ask
  pub clean : HasCleanDisk new → HasCleanDisk old
  pub done : Does setup ask old new r
  pub shut : HasCleanDisk new → new.is_open ≡ false → r ≡ Err refusal.Store
  pub was_open : HasCleanDisk new → IsTrue new.is_open → IsTrue old.is_open

module _ (setup : List Constituency) (old new : Seen) (ask : Ask) (r : Result Reply Refusal) where
  after : (s : State) → IsSetup setup → IsLawfulState setup s → (office : IsOffice setup s old) → Served setup old new ask r → IsDone setup office.text s ask r new → (t : State) × IsLawfulState setup t × IsOffice setup t new
  after s limits lawful office h done =
      (done.state, answered-lawful setup s done.state ask r h.codes limits lawful done.answered, record { text = office.text; reads = office.reads; has = done.has })

  pub stored_after : IsStored setup old → Served setup old new ask r → IsStored setup new
  stored_after was h = record {
    limits = was.limits;
    autocommit = h.ended;
    office = λ clean now.
        let before = was.office (h.clean clean) (h.was_open clean now) in
        after before.0 was.limits before.1 before.2 h (h.done clean now before.2.text before.0 before.1 before.2.has);
  }

  pub happens_after : ViewsAreLawful → IsStored setup old → Served setup old new ask r → HasCleanDisk new → Happens setup (content_of setup old) (request ask r) (content_of setup new)
  unfolding after
  happens_after views was h clean = go old.is_open new.is_open refl refl
    where
      go : (b d : Bool) → old.is_open ≡ b → new.is_open ≡ d → Happens setup (content_of setup old) (request ask r) (content_of setup new)
      go true true before now =
          let office = was.office (h.clean clean) before in
          let done = h.done clean now office.2.text office.0 office.1 office.2.has in
          let next = after office.0 was.limits office.1 office.2 h done in
          subst₂ (λ a b. Happens setup a (request ask r) b) (sym (content_is setup office.0 old views was.limits office.1 office.2 before)) (sym (content_is setup next.0 new views was.limits next.1 next.2 now)) done.answered
      go true false before shut =
          let office = was.office (h.clean clean) before in
          subst₂ (λ a b. Happens setup a (request ask r) b) (sym (content_is setup office.0 old views was.limits office.1 office.2 before)) (sym (content_shut setup new shut)) (h.shut clean shut)
      go false true before now = absurd (true≢false (sym (h.was_open clean now) ∙ before))
      go false false before shut = subst₂ (λ a b. Happens setup a (request ask r) b) (sym (content_shut setup old before)) (sym (content_shut setup new shut)) (inr (h.shut clean shut))

-- what is known of an import on the connection of a store
pub record Took (setup : List Constituency) (old new : Seen) (d : Delivery) (r : Result ImportCount ImportFault) : Type 0 where
  pub ended : new.in_transaction ≡ false
  pub clean : HasCleanDisk new → HasCleanDisk old
  pub done : DoesImport setup d old new r
  pub fault : IfErr r (IsImportFault d)
  pub shut : HasCleanDisk new → new.is_open ≡ false → r ≡ Err import_fault.Store
  pub was_open : HasCleanDisk new → IsTrue new.is_open → IsTrue old.is_open

module _ (setup : List Constituency) (old new : Seen) (d : Delivery) where
  after_all : (r : Result ImportCount ImportFault) (s : State) → IsSetup setup → IsLawfulState setup s → (office : IsOffice setup s old) → IsImportDone setup office.text s d r new → (t : State) × IsLawfulState setup t × IsOffice setup t new
  after_all (Ok count) s limits lawful office done =
      (done.state, import-lawful setup s done.state d count limits lawful done.imported, record { text = office.text; reads = office.reads; has = done.has })
  after_all (Err fault) s limits lawful office done = (s, lawful, record { text = office.text; reads = office.reads; has = done })

  pub stored_import : (r : Result ImportCount ImportFault) → IsStored setup old → Took setup old new d r → IsStored setup new
  stored_import r was h = record {
    limits = was.limits;
    autocommit = h.ended;
    office = λ clean now.
        let before = was.office (h.clean clean) (h.was_open clean now) in
        after_all r before.0 was.limits before.1 before.2 (h.done clean now before.2.text before.0 before.1 before.2.has);
  }

  pub imports_after : (r : Result ImportCount ImportFault) → ViewsAreLawful → IsStored setup old → Took setup old new d r → HasCleanDisk new → Imports setup (content_of setup old) d r (content_of setup new)
  unfolding after_all
  imports_after (Ok count) views was h clean = go old.is_open new.is_open refl refl
    where
      go : (a b : Bool) → old.is_open ≡ a → new.is_open ≡ b → IsImportOf setup (content_of setup old) d count (content_of setup new)
      go true true before now =
          let office = was.office (h.clean clean) before in
          let done = h.done clean now office.2.text office.0 office.1 office.2.has in
          let next = after_all (Ok count) office.0 was.limits office.1 office.2 done in
          subst₂ (λ a b. IsImportOf setup a d count b) (sym (content_is setup office.0 old views was.limits office.1 office.2 before)) (sym (content_is setup next.0 new views was.limits next.1 next.2 now)) done.imported
      go false true before now = absurd (true≢false (sym (h.was_open clean now) ∙ before))
      go true false before shut = absurd (let failed = h.shut clean shut in cc)
      go false false before shut = absurd (let failed = h.shut clean shut in cc)
  imports_after (Err fault) views was h clean = (h.fault, go old.is_open new.is_open refl refl)
    where
      go : (a b : Bool) → old.is_open ≡ a → new.is_open ≡ b → Happens setup (content_of setup old) (failed_import fault) (content_of setup new)
      go true true before now =
          let office = was.office (h.clean clean) before in
          let same = h.done clean now office.2.text office.0 office.1 office.2.has in
          let next : IsOffice setup office.0 new = record { text = office.2.text; reads = office.2.reads; has = same } in
          subst₂ (λ a b. Happens setup a (failed_import fault) b) (sym (content_is setup office.0 old views was.limits office.1 office.2 before)) (sym (content_is setup office.0 new views was.limits office.1 next now)) refl
      go true false before shut =
          let office = was.office (h.clean clean) before in
          subst₂ (λ a b. Happens setup a (failed_import fault) b) (sym (content_is setup office.0 old views was.limits office.1 office.2 before)) (sym (content_shut setup new shut)) (let failed = h.shut clean shut in let same : fault ≡ import_fault.Store = cc in same)
      go false true before now = absurd (true≢false (sym (h.was_open clean now) ∙ before))
      go false false before shut = subst₂ (λ a b. Happens setup a (failed_import fault) b) (sym (content_shut setup old before)) (sym (content_shut setup new shut)) tt

-- ---- what is known

pub nothing-known : (setup : List Constituency) (returns : Returns) (known : Known) → IsNothing known → AreKnown setup returns known
nothing-known setup returns known nothing con here = rw (nothing con.code) tt

-- an empty tree
pub empty-nothing : (t : BTreeMap (List ℕ) Statuses) → t.entries ≡ [] → IsNothing (known_of t)
empty-nothing t empty code = get-tree t code ∙ ap (lookup (is_at (code_cmp code))) empty

pub empty-known : (setup : List Constituency) (returns : Returns) (t : BTreeMap (List ℕ) Statuses) → t.entries ≡ [] → AreKnown setup returns (known_of t)
empty-known setup returns t empty = nothing-known setup returns (known_of t) (empty-nothing t empty)

-- what was counted at an opening is known
pub numbers-known : (setup : List Constituency) (s : State) (numbers : Known) → HasNumbers setup s numbers → AreKnown setup s.returns numbers
numbers-known setup s numbers has con there =
    subst (λ (o : Option Statuses). IfSome o (λ statuses. statuses ≡ statuses_of (view_of con s []))) (sym (has con there)) refl

-- a database is that of one lawful state
pub one_state : (setup : List Constituency) (s t : State) (text : List ℕ) (seen : Seen) → ViewsAreLawful → IsSetup setup → IsLawfulState setup s → HasState setup text s seen → IsLawfulState setup t → IsOffice setup t seen → IsTrue seen.is_open → t ≡ s
one_state setup s t text seen views limits lawful has lawful_too office now =
    let rows = sym office.has.tables.setup_is ∙ has.tables.setup_is in
    let same : office.text ≡ text = (let e = rows in cc) in
    let own : IsOffice setup s seen = record { text = text; reads = subst (λ x. setup_of_text x ≡ Ok setup) same office.reads; has = has } in
    let both : Some t ≡ Some s = sym (content_is setup t seen views limits lawful_too office now) ∙ content_is setup s seen views limits lawful own now in
    (let e = both in cc)

pub served_after : (setup : List Constituency) (old new : Seen) (ask : Ask) (r : Result Reply Refusal) (known : Known) → ViewsAreLawful → IsStored setup old → Served setup old new ask r → KnowsAfter setup ask old new r known → IsServed setup new known
served_after setup old new ask r known views was h knows = record {
  stored = stored_after setup old new ask r was h;
  true_is = λ clean now text s lawful has. go clean text s lawful has (knows clean);
}
  where
    go : HasCleanDisk new → (text : List ℕ) (s : State) → IsLawfulState setup s → HasState setup text s new
        → IsNothing known ⊎ (IsTrue new.is_open × ((text : List ℕ) (s t : State) → IsLawfulState setup s → HasState setup text s old → IsAnswered setup s ask r t → AreKnown setup t.returns known)) → AreKnown setup s.returns known
    go clean text s lawful has (inl nothing) = nothing-known setup s.returns known nothing
    go clean text s lawful has (inr ensured) =
        let office = was.office (h.clean clean) (h.was_open clean ensured.0) in
        let done = h.done clean ensured.0 office.2.text office.0 office.1 office.2.has in
        let next : IsOffice setup done.state new = record { text = office.2.text; reads = office.2.reads; has = done.has } in
        subst (λ (x : State). AreKnown setup x.returns known)
        (one_state setup s done.state text new views was.limits lawful has (answered-lawful setup office.0 done.state ask r h.codes was.limits office.1 done.answered) next ensured.0)
        (ensured.1 office.2.text office.0 done.state office.1 office.2.has done.answered)

pub all_known : (setup : List Constituency) (text : List ℕ) (s : State) (d : Delivery) (before after : Known) (count : ImportCount) (last new : Seen) → IsImportedKnown setup text s d before after count last → AreKnown setup s.returns before
    → Shows last new last.now last.now false → IsAllKnown setup text s d count new after
all_known setup text s d before after count last new h held shown =
    (record { state = h.0.state; imported = h.0.imported; has = state_committed setup text h.0.state last new h.0.in_state shown }, h.1 held)

pub served_import : (setup : List Constituency) (old new : Seen) (d : Delivery) (r : Result ImportCount ImportFault) (known : Known) → ViewsAreLawful → IsStored setup old → Took setup old new d r
    → KnowsImported setup d old new r known → IsServed setup new known
served_import setup old new d (Ok count) known views was h knows = record {
  stored = stored_import setup old new d (Ok count) was h;
  true_is = λ clean now text s lawful has.
      let ensured = knows clean in
      let office = was.office (h.clean clean) (h.was_open clean ensured.0) in
      let all = ensured.1 office.2.text office.0 office.1 office.2.has in
      let next : IsOffice setup all.0.state new = record { text = office.2.text; reads = office.2.reads; has = all.0.has } in
      subst (λ (x : State). AreKnown setup x.returns known)
      (one_state setup s all.0.state text new views was.limits lawful has (import-lawful setup office.0 all.0.state d count was.limits office.1 all.0.imported) next ensured.0)
      all.1;
}
served_import setup old new d (Err fault) known views was h knows = record {
  stored = stored_import setup old new d (Err fault) was h;
  true_is = λ clean now text s lawful has. nothing-known setup s.returns known knows;
}

-- ---- the text of the setup

pub keeps_text : (setup : List Constituency) (old new : Seen) (ask : Ask) (r : Result Reply Refusal) → Does setup ask old new r → HasCleanDisk new → IsTrue new.is_open → KeepsText setup old new
keeps_text setup old new ask r does clean now text s lawful h =
    let done = does clean now text s lawful h in
    (done.state, done.has)

text_imported : (setup : List Constituency) (text : List ℕ) (s : State) (d : Delivery) (r : Result ImportCount ImportFault) (new : Seen) → IsImportDone setup text s d r new → (t : State) × HasState setup text t new
text_imported setup text s d (Ok count) new done = (done.state, done.has)
text_imported setup text s d (Err fault) new done = (s, done)

pub keeps_text_imported : (setup : List Constituency) (old new : Seen) (d : Delivery) (r : Result ImportCount ImportFault) → DoesImport setup d old new r → HasCleanDisk new → IsTrue new.is_open → KeepsText setup old new
keeps_text_imported setup old new d r does clean now text s lawful h = text_imported setup text s d r new (does clean now text s lawful h)
