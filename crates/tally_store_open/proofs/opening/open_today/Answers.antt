use Rattle.std.proofs.Common.{◌≡◌, List, ap, rules, subst, sym, true}
use Rattle.std.specs.Prelude.{IfOk, IfErr}
use Rattle.sqlite.specs.Effect.{Database}
use Rattle.sqlite.specs.State.{HasCleanDisk, KeepsCounts}
use Rattle.sqlite.specs.Held.{state}
use Rattle.tally_setup.specs.Constituency.{Constituency}
use Rattle.tally_store_schema.specs.Office.{HasTables}
use Rattle.tally_store_rows.specs.TablesOfState.{version}
use Rattle.tally_store_open.specs.internal.Opening.{CountsTables, HasSetupRow, IsJudged, IsTodayFault}
use Rattle.tally_store_open.specs.internal.Ending.{EndsUnchanged}
use Rattle.tally_store_schema.proofs.StaysLemmas.{clean_first}
use Rattle.tally_store_open.proofs.StoredLemmas.{ok_answered, today_answered}
use Rattle.tally_store_open.proofs.UnwrittenLemmas.{begun_tables, counts_undone, ends_undone}
use Rattle.tally_store_open.proofs.opening.open_today.Given.{Over}
use Rattle.tally_store_open.proofs.opening.open_today.Goals as goal

module _ (g : Over) (c : goal.After-answer_of g) where
  begun : state g.S.Store c.transaction-tx.result.conn.now ≡ record (state g.S.Store c.args.conn.now) { in_transaction = true }
  begun = ap (state g.S.Store) c.transaction-tx.ensures.begun

  has : HasTables (state g.S.Store c.transaction-tx.result.conn.now)
  has = begun_tables (state g.S.Store c.args.conn.now) (state g.S.Store c.transaction-tx.result.conn.now) begun c.requires.schema c.requires.sound

  ends : c.rollback.new.self.0 ≡ c.conn-1.given.0
  ends = search rules

  clean_end : HasCleanDisk (state g.S.Store c.conn-1.given.0) → HasCleanDisk (state g.S.Store c.rollback.new.self.0)
  clean_end clean = subst (λ (h : _). HasCleanDisk (state g.S.Store h)) (sym ends) clean

  early : HasCleanDisk (state g.S.Store c.conn-1.given.0) → HasCleanDisk (state g.S.Store c.judge_stored-judged.new.tx.conn.now)
  early clean = clean_first c.rollback.ensures.survives (clean_end clean)

  so : (Is : List Constituency → Database → Type 0) → IfOk c.judge_stored-judged.result (λ answer. IfOk answer (λ setup. Is setup (state g.S.Store c.transaction-tx.result.conn.now).now))
      → IfOk c.answer_of.result (λ setup. Is setup (state g.S.Store c.args.conn.now).now)
  so Is was =
      subst (λ (d : Database). IfOk c.answer_of.result (λ setup. Is setup d)) (ap (λ (s : _). s.now) begun)
      (ok_answered c.judge_stored-judged.result c.answer_of.result (λ setup. Is setup (state g.S.Store c.transaction-tx.result.conn.now).now) c.answer_of.ensures was)

pub returns-clause-judged : goal.returns-clause-judged
returns-clause-judged g c clean = so g c IsJudged (c.judge_stored-judged.ensures.judged (early g c clean) (has g c))

pub returns-clause-numbers : goal.returns-clause-numbers
returns-clause-numbers g c clean = so g c (CountsTables c.judge_stored-judged.new.known) (c.judge_stored-judged.ensures.numbers (early g c clean) (has g c))

pub returns-clause-stored : goal.returns-clause-stored
returns-clause-stored g c clean = so g c (HasSetupRow version) (c.judge_stored-judged.ensures.stored (early g c clean) (has g c))

pub returns-clause-fault : goal.returns-clause-fault
returns-clause-fault g c clean =
    let bare = state g.S.Store c.transaction-tx.result.conn.now in
    subst (λ (d : Database). IfErr c.answer_of.result (IsTodayFault d)) (ap (λ (s : _). s.now) (begun g c))
    (today_answered bare.now c.judge_stored-judged.result c.answer_of.result c.answer_of.ensures (c.judge_stored-judged.ensures.fault (early g c clean) (has g c)))

pub returns-clause-counts : goal.returns-clause-counts
returns-clause-counts g c clean =
    let old = state g.S.Store c.args.conn.now in
    let bare = state g.S.Store c.transaction-tx.result.conn.now in
    let last = state g.S.Store c.judge_stored-judged.new.tx.conn.now in
    let end = state g.S.Store c.rollback.new.self.0 in
    subst (λ (h : _). IfOk c.answer_of.result (λ _. KeepsCounts old (state g.S.Store h))) (ends g c)
    (ok_answered c.judge_stored-judged.result c.answer_of.result (λ _. KeepsCounts old end) c.answer_of.ensures
    (counts_undone c.judge_stored-judged.result old bare last end (begun g c) (c.judge_stored-judged.ensures.reads.same (early g c clean) (has g c)) (c.rollback.ensures.undone (clean_end g c clean))))

pub returns-clause-ends : goal.returns-clause-ends
returns-clause-ends g c =
    let old = state g.S.Store c.args.conn.now in
    let bare = state g.S.Store c.transaction-tx.result.conn.now in
    let last = state g.S.Store c.judge_stored-judged.new.tx.conn.now in
    let stays = c.judge_stored-judged.ensures.reads.stays in
    subst (λ (h : _). EndsUnchanged old (state g.S.Store h)) (ends g c)
    (ends_undone old bare last (state g.S.Store c.rollback.new.self.0) (begun g c) c.requires.settled (λ early. stays.kept early (has g c)) stays.survives c.rollback.ensures.ended c.rollback.ensures.undone c.rollback.ensures.survives)
