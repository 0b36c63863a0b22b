use Rattle.std.proofs.Common.{sym, subst}
use Rattle.std.specs.Prelude.{IfOk}
use Rattle.std.proofs.lemmas.Result.{IfErr-weaker, IfOk-weaker}
use Rattle.sqlite.specs.Held.{state}
use Rattle.sqlite.specs.Effect.{Database}
use Rattle.sqlite.specs.State.{IsUnchanged}
use Rattle.tally_store_open.specs.internal.Opening.{AreOfNoStored, CountsTables, HasSetupRow, HasStoredRow, IsJudged}
use Rattle.tally_store_open.proofs.JudgingLemmas.{look_as, look_then, tables_still, unlawful_stored}
use Rattle.tally_store_schema.proofs.StaysLemmas.{clean_first}
use Rattle.tally_store_open.proofs.StoredLemmas.{fault_as}
use Rattle.tally_store_open.proofs.opening.judge_stored.Goals as goal

pub returns-in-Ok-clause-reads : goal.returns-in-Ok-clause-reads
returns-in-Ok-clause-reads g c =
    look_then g.S.Store c.args.tx.now c.read_stored.new.tx c.judge_office.new.tx _ _ c.in_ok-setup.ensures.reads c.judge_office.ensures.reads

pub returns-in-Err-clause-reads : goal.returns-in-Err-clause-reads
returns-in-Err-clause-reads g c = look_as g.S.Store c.args.tx.now c.read_stored.new.tx _ _ c.in_ok-setup.ensures.reads

pub returns-in-Ok-clause-stored : goal.returns-in-Ok-clause-stored
returns-in-Ok-clause-stored g c clean has =
    let old = state g.S.Store c.args.tx.now.conn.now in
    let early = clean_first c.judge_office.ensures.reads.stays.survives clean in
    let stored : HasSetupRow c.args.number c.in-Ok.setup old.now = rw c.in-Ok.is at (c.in_ok-setup.ensures.stored early has) in
    IfOk-weaker c.judge_office.result _ _ (λ answer. IfOk-weaker answer _ _ (λ again is. subst (λ s. HasSetupRow c.args.number s old.now) (sym is) stored)) c.judge_office.ensures.setup

pub returns-in-Ok-clause-judged : goal.returns-in-Ok-clause-judged
returns-in-Ok-clause-judged g c clean has =
    let old = state g.S.Store c.args.tx.now.conn.now in
    let mid = state g.S.Store c.read_stored.new.tx.conn.now in
    let same : IsUnchanged old mid = c.in_ok-setup.ensures.reads.same (clean_first c.judge_office.ensures.reads.stays.survives clean) has in
    subst (λ (db : Database). IfOk c.judge_office.result (λ answer. IfOk answer (λ setup. IsJudged setup db))) same.0.now_is (c.judge_office.ensures.judged clean (tables_still old mid has same))

pub returns-in-Ok-clause-numbers : goal.returns-in-Ok-clause-numbers
returns-in-Ok-clause-numbers g c clean has =
    let old = state g.S.Store c.args.tx.now.conn.now in
    let mid = state g.S.Store c.read_stored.new.tx.conn.now in
    let same : IsUnchanged old mid = c.in_ok-setup.ensures.reads.same (clean_first c.judge_office.ensures.reads.stays.survives clean) has in
    subst (λ (db : Database). IfOk c.judge_office.result (λ answer. IfOk answer (λ setup. CountsTables c.judge_office.new.known setup db))) same.0.now_is
    (c.judge_office.ensures.numbers clean (tables_still old mid has same))

pub returns-in-Ok-clause-fault : goal.returns-in-Ok-clause-fault
returns-in-Ok-clause-fault g c clean has =
    let old = state g.S.Store c.args.tx.now.conn.now in
    let mid = state g.S.Store c.read_stored.new.tx.conn.now in
    let early = clean_first c.judge_office.ensures.reads.stays.survives clean in
    let same : IsUnchanged old mid = c.in_ok-setup.ensures.reads.same early has in
    let stored : HasSetupRow c.args.number c.in-Ok.setup old.now = rw c.in-Ok.is at (c.in_ok-setup.ensures.stored early has) in
    IfOk-weaker c.judge_office.result _ _ (λ answer. IfErr-weaker answer _ _ (λ fault why. unlawful_stored c.args.number c.in-Ok.setup old.now mid.now fault same.0.now_is stored why))
    (c.judge_office.ensures.refused clean (tables_still old mid has same))

pub returns-in-Err-clause-fault : goal.returns-in-Err-clause-fault
returns-in-Err-clause-fault g c clean has =
    let db = (state g.S.Store c.args.tx.now.conn.now).now in
    fault_as c.args.number (HasStoredRow db) (HasStoredRow db) ⊥ (AreOfNoStored c.args.number db) c.in-Err.fault (λ _ _ row. row) (λ _ row. row) (λ _ row. row) (λ none. absurd none) (rw c.in-Err.is at (c.in_ok-setup.ensures.fault clean has))
