use Rattle.std.proofs.Common.{◌≡◌, ◌∙◌, ℕ, List, IsTrue, ap, refl, rules, subst, sym, true, true≢false}
use Rattle.sqlite.proofs.Callers.{survives_begin}
use Rattle.sqlite.proofs.StateLemmas.{survives_then}
use Rattle.sqlite.specs.State.{HasCleanDisk, IsUnchanged}
use Rattle.sqlite.specs.Held.{state}
use Rattle.tally_returns.specs.State.{State}
use Rattle.tally_machine_law.specs.LawfulState.{IsLawfulState}
use Rattle.tally_store_schema.specs.Office.{IsInside}
use Rattle.tally_store_rows.specs.TablesOfState.{AreTables}
use Rattle.tally_returns_rows.specs.Delivery.{delivery}
use Rattle.tally_keeper.proofs.TakenLemmas.{own-last}
use Rattle.tally_store_commands.specs.internal.Known.{known_of}
use Rattle.tally_store.specs.Crash.{LeavesImported}
use Rattle.tally_store_open.specs.Office.{HasState}
use Rattle.tally_store.proofs.RequestLemmas.{all_committed, all_known, empty-nothing, import_ends, open_failed, state_back, survives_commit, tables_imported, unwritten_commit}
use Rattle.tally_store_schema.proofs.StaysLemmas.{clean_first}
use Rattle.tally_store_open.proofs.EndingLemmas.{Began, failed, rolled_back}
use Rattle.tally_store.proofs.requests.take_committed.Goals as goal

pub returns-in-Ok-commit : goal.returns-in-Ok-commit
returns-in-Ok-commit g c =
    let setup = c.args.setup.now in
    let came = delivery g.R.RowSource c.args.source.now c.take_open.new.source in
    let old = state g.S.Store c.args.conn.now in
    let bare = state g.S.Store c.transaction-tx.result.conn.now in
    let last = state g.S.Store c.take_open.new.tx.conn.now in
    let new = state g.S.Store c.commit.new.self.0 in
    let begun = c.transaction-tx.ensures.begun in
    let same : c.conn-1.given.0 ≡ c.commit.new.self.0 = search rules in
    let inside = survives_begin g.S.Store c.args.conn.now last _ (rw begun at c.take_open.ensures.stays.survives) in
    let early : HasCleanDisk new → HasCleanDisk last = clean_first c.commit.ensures.survives in
    let here : (text : List ℕ) (s : State) → HasState setup text s old → IsInside bare = λ text s has. rw begun (record { schema = has.schema; sound = has.sound; distinct = has.distinct; inside = refl }) in
    let held : (text : List ℕ) (s : State) → HasState setup text s old → AreTables setup text s bare.now.trees = λ text s has. rw begun has.tables in
    let left : HasCleanDisk last → LeavesImported setup came old last.now.trees = λ clean.
    let was_open : IsTrue old.is_open = rw begun at (c.in-Ok.ensures.was_open clean) in
    let office = c.requires.office (clean_first inside clean) was_open in
    let text = office.2.text in
    let has = office.2.has in
    record {
      was_open = was_open;
      text = text;
      state = office.0;
      lawful = office.1;
      has = has;
      after = tables_imported setup text office.0 came c.in-Ok.count last office.2.reads (c.in-Ok.ensures.lodges.imported clean (here text office.0 has) text office.0 office.1 (held text office.0 has)).0;
    } in
    let office = λ (clean : HasCleanDisk last). c.requires.office (clean_first inside clean) (rw begun at (c.in-Ok.ensures.was_open clean)) in
    rw same (record {
      ends = import_ends setup came old bare last new (ap (state g.S.Store) begun) c.take_open.ensures.stays.was_open c.commit.ensures.ended early (λ clean now. (c.in-Ok-commit.ensures.ok clean).1.was_open)
          (survives_commit old last new (LeavesImported setup came old) inside c.commit.ensures.survives left);
      done = λ clean now text s lawful has. all_committed setup text s came c.in-Ok.count last new (c.in-Ok.ensures.lodges.imported (early clean) (here text s has) text s lawful (held text s has)).0 (c.in-Ok-commit.ensures.ok clean).1;
      named = λ clean text s lawful has. c.in-Ok.ensures.named (early clean) (here text s has) text s lawful (held text s has);
      known = λ clean. (
        (c.in-Ok-commit.ensures.ok clean).1.is_open,
        λ text s lawful has.
            let true_is = c.requires.known (clean_first inside (early clean)) (rw begun at (c.in-Ok.ensures.was_open (early clean))) text s lawful has in
            all_known setup text s came (known_of c.args.known.now) (known_of c.take_open.new.known) c.in-Ok.count last new (c.in-Ok.ensures.lodges.imported (early clean) (here text s has) text s lawful (held text s has)) true_is (c.in-Ok-commit.ensures.ok clean).1,
      );
      fault = tt;
      shut = λ clean is. absurd (true≢false (sym (c.in-Ok-commit.ensures.ok clean).1.is_open ∙ is));
      forgets = c.in-Ok.ensures.lodges.forgets;
      unwritten = λ none.
          let still : HasCleanDisk last → IsUnchanged (record old { in_transaction = true }) last = λ clean.
          let has = (office clean).2.has in
          subst (λ b. IsUnchanged b last) (ap (state g.S.Store) begun) (c.in-Ok.ensures.lodges.unwritten clean (here (office clean).2.text (office clean).0 has, c.in-Ok.ensures.was_open clean) none) in
          unwritten_commit old last new (λ db now may. g.met.S.Store.settled c.args.conn.now.store db now may) inside c.commit.ensures.survives
          (λ clean. (office clean).2.has.settled) (λ clean. (still clean).0.now_is) (λ clean. (still clean).1.changes) (λ clean. (still clean).1.last_rowid)
          (λ clean. (c.in-Ok-commit.ensures.ok clean).1) (λ clean. (c.in-Ok-commit.ensures.ok clean).2);
    })

pub returns-in-Err-commit : goal.returns-in-Err-commit
returns-in-Err-commit g c =
    let setup = c.args.setup.now in
    let came = delivery g.R.RowSource c.args.source.now c.take_open.new.source in
    let old = state g.S.Store c.args.conn.now in
    let bare = state g.S.Store c.transaction-tx.result.conn.now in
    let last = state g.S.Store c.take_open.new.tx.conn.now in
    let new = state g.S.Store c.commit.new.self.0 in
    let begun = c.transaction-tx.ensures.begun in
    let same : c.conn-1.given.0 ≡ c.commit.new.self.0 = search rules in
    let inside = survives_begin g.S.Store c.args.conn.now last _ (rw begun at c.take_open.ensures.stays.survives) in
    let early : HasCleanDisk new → HasCleanDisk last = clean_first c.commit.ensures.survives in
    let here : (text : List ℕ) (s : State) → HasState setup text s old → IsInside bare = λ text s has. rw begun (record { schema = has.schema; sound = has.sound; distinct = has.distinct; inside = refl }) in
    let held : (text : List ℕ) (s : State) → HasState setup text s old → AreTables setup text s bare.now.trees = λ text s has. rw begun has.tables in
    let left : HasCleanDisk last → LeavesImported setup came old last.now.trees = λ clean.
    let was_open : IsTrue old.is_open = rw begun at (c.in-Ok.ensures.was_open clean) in
    let office = c.requires.office (clean_first inside clean) was_open in
    let text = office.2.text in
    let has = office.2.has in
    record {
      was_open = was_open;
      text = text;
      state = office.0;
      lawful = office.1;
      has = has;
      after = tables_imported setup text office.0 came c.in-Ok.count last office.2.reads (c.in-Ok.ensures.lodges.imported clean (here text office.0 has) text office.0 office.1 (held text office.0 has)).0;
    } in
    let began : HasCleanDisk last → (text : List ℕ) (s : State) → IsLawfulState setup s → HasState setup text s old → Began old last = λ clean text s lawful has.
    let kept = c.take_open.ensures.stays.kept clean (record { text = text; office = s; inside = here text s has; lawful = lawful; tables = held text s has }) in
    record { settled = λ _. sym has.settled; was_open = rw begun at kept.was_open; committed = rw begun at kept.committed } in
    rw same (record {
      ends = import_ends setup came old bare last new (ap (state g.S.Store) begun) c.take_open.ensures.stays.was_open c.commit.ensures.ended early (λ clean now. open_failed last new c.in-Err-commit.error (c.in-Err-commit.ensures.err clean) now)
          (survives_commit old last new (LeavesImported setup came old) inside c.commit.ensures.survives left);
      done = λ clean now text s lawful has.
          let all = (c.in-Ok.ensures.lodges.imported (early clean) (here text s has) text s lawful (held text s has)).0 in
          state_back setup text s old new has (failed old last new c.in-Err-commit.error (began (early clean) text s lawful has) all.in_state.inside.inside (c.in-Err-commit.ensures.err clean) now);
      named = λ _ _ _ _ _. tt;
      known = empty-nothing c.clear.new.self c.clear.ensures.empty;
      fault = own-last came c.import_fault_of.result c.in-Ok.ensures.lodges.gave c.import_fault_of.ensures.own;
      shut = λ _ _. refl;
      forgets = tt;
      unwritten = tt;
    })

pub returns-in-Err : goal.returns-in-Err
returns-in-Err g c =
    let setup = c.args.setup.now in
    let came = delivery g.R.RowSource c.args.source.now c.take_open.new.source in
    let old = state g.S.Store c.args.conn.now in
    let bare = state g.S.Store c.transaction-tx.result.conn.now in
    let last = state g.S.Store c.take_open.new.tx.conn.now in
    let new = state g.S.Store c.rollback.new.self.0 in
    let begun = c.transaction-tx.ensures.begun in
    let same : c.conn-in-Err-1.given.0 ≡ c.rollback.new.self.0 = search rules in
    let inside = survives_begin g.S.Store c.args.conn.now last _ (rw begun at c.take_open.ensures.stays.survives) in
    let early : HasCleanDisk new → HasCleanDisk last = clean_first c.rollback.ensures.survives in
    let here : (text : List ℕ) (s : State) → HasState setup text s old → IsInside bare = λ text s has. rw begun (record { schema = has.schema; sound = has.sound; distinct = has.distinct; inside = refl }) in
    let held : (text : List ℕ) (s : State) → HasState setup text s old → AreTables setup text s bare.now.trees = λ text s has. rw begun has.tables in
    let began : HasCleanDisk last → (text : List ℕ) (s : State) → IsLawfulState setup s → HasState setup text s old → Began old last = λ clean text s lawful has.
    let kept = c.take_open.ensures.stays.kept clean (record { text = text; office = s; inside = here text s has; lawful = lawful; tables = held text s has }) in
    record { settled = λ _. sym has.settled; was_open = rw begun at kept.was_open; committed = rw begun at kept.committed } in
    rw same (record {
      ends = import_ends setup came old bare last new (ap (state g.S.Store) begun) c.take_open.ensures.stays.was_open c.rollback.ensures.ended early (λ clean now. (c.rollback.ensures.undone clean).was_open now)
          (survives_then old last new _ _ (LeavesImported setup came old) (λ _ db none. absurd none) (λ _ db none. absurd none) inside c.rollback.ensures.survives);
      done = λ clean now text s lawful has. state_back setup text s old new has (rolled_back old last new (began (early clean) text s lawful has) (c.rollback.ensures.undone clean) now);
      named = λ _ _ _ _ _. tt;
      known = empty-nothing c.clear-in-Err.new.self c.clear-in-Err.ensures.empty;
      fault = c.in-Err.ensures.lodges.fault;
      shut = λ _ _. refl;
      forgets = tt;
      unwritten = tt;
    })
