use Rattle.std.proofs.Common.{◌≡◌, ◌∙◌, ℕ, List, Some, map, refl, rules, sym, ap, subst}
use Rattle.sqlite.proofs.Callers.{unchanged_then}
use Rattle.sqlite.specs.State.{HasCleanDisk}
use Rattle.sqlite.specs.Held.{state}
use Rattle.std.proofs.lemmas.List.{take_all}
use Rattle.tally_returns.specs.Progress.{progress_row}
use Rattle.tally_returns.specs.Return.{Returns}
use Rattle.tally_returns.specs.State.{State}
use Rattle.tally_machine_law.specs.LawfulState.{IsLawfulState}
use Rattle.tally_store_rows.specs.TablesOfState.{AreTables}
use Rattle.tally_setup.specs.Constituency.{Constituency}
use Rattle.tally_setup.specs.Setup.{constituency_with}
use Rattle.tally_store_entries.proofs.FindLemmas.{inside_still}
use Rattle.tally_store_schema.proofs.StaysLemmas.{clean_first}
use Rattle.tally_setup.proofs.NamedLemmas.{Has, con-only, has-at}
use Rattle.tally_store_schema.specs.internal.Inside.{IsOpenInside}
use Rattle.tally_store_schema.specs.Office.{IsInside}
use Rattle.tally_store_commands.specs.internal.Known.{AreKnown, known_of}
use Rattle.tally_store_commands.specs.internal.Counting.{statuses_of_row}
use Rattle.tally_store_commands.proofs.AnswerLemmas.{answers-failed, cons-still, progress-carried, row-found, rows-more, stays-on, still-state, still-unchanged}
use Rattle.tally_store_commands.proofs.KnownLemmas.{forgets-remembered, forgets-then, known-remembered, progress-returns}
use Rattle.tally_store_commands.proofs.constituencies.show_progress.Goals as goal

pub loop-con-init : goal.loop-con-init
loop-con-init g c =
    let ensured = c.in_ok-standing.ensures in
    record {
      stays = ensured.reads.stays;
      found = search rules;
      known = λ clean inside text s lawful held tables. held;
      forgets = λ code had. had;
      same = λ clean inside. ensured.reads.same clean inside;
      all = λ clean inside. (ensured.found clean inside).same;
      was_open = ensured.reads.answered_open;
    }

pub loop-con-preserved : goal.loop-con-preserved
loop-con-preserved g c =
    let setup = c.args.setup.now in
    let cons = c.cons-cons.result.now in
    let i = c.loop-con.con-index in
    let con = c.con-item.result in
    let row = c.in_ok-row.row in
    let rows = c.in_ok-standing.standing.items in
    let known = known_of c.loop-con.known in
    let own : c.con.inside.code ≡ con.code = ap (λ (x : Constituency). x.code) c.con.view_is in
    let old = state g.S.Store c.args.tx.now.conn.now in
    let mid = state g.S.Store c.loop-con.tx.conn.now in
    let new = state g.S.Store c.find_progress_row.new.tx.conn.now in
    let was = c.loop-con.invariant in
    let ensured = c.find_progress_row.ensures in
    let has : Has con setup = subst (Has con) c.cons-cons.ensures.cons (subst (λ (x : Constituency). Has x cons) (sym c.con-item.is) (has-at cons i con c.loop-con-test.true)) in
    let there : constituency_with con.code setup ≡ Some con = con-only setup con c.cons-cons.ensures.limits has in
    let before : HasCleanDisk new → HasCleanDisk mid = clean_first ensured.stays.survives in
    let at : HasCleanDisk mid → IsInside old → IsOpenInside mid = λ early inside. (inside_still old mid (was.same early inside) inside, (was.same early inside).0.is_open) in
    let row_is : HasCleanDisk new → IsInside old → (text : List ℕ) (s : State) → IsLawfulState setup s → AreKnown setup s.returns (known_of c.args.known.now) → AreTables setup text s old.now.trees → row ≡ progress_row s con = λ clean inside text s lawful held tables.
    let early = before clean in
    let same = was.same early inside in
    let here = still-state setup text s old mid (still-unchanged old mid same inside) tables in
    let found = (rw c.deref.ensures.value at c.in_ok-row.ensures.found) clean (at early inside) in
    row-found setup text s con known c.known_at.result c.con.inside.code mid rows row there lawful (was.known early inside text s lawful held tables) c.known_at.ensures own (cons-still old mid rows same (was.all early inside)) found here.tables in
    record {
      stays = stays-on g.S.Store c.args.tx.now c.loop-con.tx c.find_progress_row.new.tx was.same was.stays ensured.stays;
      found = λ clean inside text s lawful held tables.
          rows-more (progress_row s) cons i con c.loop-con.rows.items c.push.new.self.items row c.loop-con-test.true c.con-item.is (was.found (before clean) inside text s lawful held tables)
          (row_is clean inside text s lawful held tables) c.in_ok-push.ensures.items;
      known = λ clean inside text s lawful held tables.
          known-remembered setup s.returns known (known_of c.remember.new.known) con c.con.inside.code c.statuses_of_row.result there own (c.statuses_of_row.ensures ∙ ap statuses_of_row (row_is clean inside text s lawful held tables))
          (was.known (before clean) inside text s lawful held tables) c.in_ok-remember.ensures;
      forgets =
          let after = known_of c.remember.new.known in
          forgets-then (known_of c.args.known.now) known after was.forgets (forgets-remembered known after c.con.inside.code c.statuses_of_row.result c.in_ok-remember.ensures);
      same = λ clean inside.
          let early = before clean in
          unchanged_then old mid new (was.same early inside) (c.in_ok-row.ensures.same clean (at early inside));
      all = λ clean inside. was.all (before clean) inside;
      was_open = λ clean. was.was_open (before clean);
    }

pub returns-in_err-standing-clause-answers : goal.returns-in_err-standing-clause-answers
returns-in_err-standing-clause-answers g c = answers-failed _ c.from_residual.ensures.0

pub returns-in_err-row-clause-answers : goal.returns-in_err-row-clause-answers
returns-in_err-row-clause-answers g c = answers-failed _ c.from_residual-in_err-row.ensures.0

pub returns-in_err-remember-clause-answers : goal.returns-in_err-remember-clause-answers
returns-in_err-remember-clause-answers g c = answers-failed _ c.from_residual-in_err-remember.ensures.0

pub returns-in_err-push-clause-answers : goal.returns-in_err-push-clause-answers
returns-in_err-push-clause-answers g c = answers-failed _ c.from_residual-in_err-push.ensures.0

pub returns-in_err-row-clause-stays : goal.returns-in_err-row-clause-stays
returns-in_err-row-clause-stays g c =
    let was = c.loop-con.invariant in
    stays-on g.S.Store c.args.tx.now c.loop-con.tx c.find_progress_row.new.tx was.same was.stays c.find_progress_row.ensures.stays

pub returns-in_err-remember-clause-stays : goal.returns-in_err-remember-clause-stays
returns-in_err-remember-clause-stays g c =
    let was = c.loop-con.invariant in
    stays-on g.S.Store c.args.tx.now c.loop-con.tx c.find_progress_row.new.tx was.same was.stays c.find_progress_row.ensures.stays

pub returns-in_err-push-clause-stays : goal.returns-in_err-push-clause-stays
returns-in_err-push-clause-stays g c =
    let was = c.loop-con.invariant in
    stays-on g.S.Store c.args.tx.now c.loop-con.tx c.find_progress_row.new.tx was.same was.stays c.find_progress_row.ensures.stays

pub returns-clause-stays : goal.returns-clause-stays
returns-clause-stays g c = c.loop-con.invariant.stays

pub returns-clause-answers : goal.returns-clause-answers
returns-clause-answers g c =
    let setup = c.args.setup.now in
    let rows = c.loop-con.rows.items in
    let old = state g.S.Store c.args.tx.now.conn.now in
    let new = state g.S.Store c.loop-con.tx.conn.now in
    let was = c.loop-con.invariant in
    let all = take_all c.loop-con.con-index c.cons-cons.result.now c.loop-con-test.false in
    record {
      kind = search rules;
      step = λ clean inside text s lawful held tables.
          progress-carried setup text s rows _ new refl (was.found clean inside text s lawful held tables ∙ ap (map (progress_row s)) (all ∙ c.cons-cons.ensures.cons))
          (still-state setup text s old new (still-unchanged old new (was.same clean inside) inside) tables);
      known = λ clean inside text s t lawful held tables answered.
          subst (λ (m : Returns). AreKnown setup m (known_of c.loop-con.known)) (sym (progress-returns setup s t _ answered)) (was.known clean inside text s lawful held tables);
      forgets = was.forgets;
      unwritten = λ clean at acts. was.same clean at.0;
      answered_open = was.was_open;
    }
