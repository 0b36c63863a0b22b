use Rattle.std.proofs.Common.{◌∙◌, sym}
use Rattle.std.specs.Prelude.{⊤}
use Rattle.sqlite.specs.State.{HasCleanDisk}
use Rattle.sqlite.specs.Held.{state}
use Rattle.tally_store_schema.specs.Made.{HasFirstTables}
use Rattle.tally_store_schema.proofs.StaysLemmas.{clean_first, stays-then}
use Rattle.tally_store_open.proofs.TakeoverLemmas.{ok_none, taken_each}
use Rattle.tally_store_open.proofs.former.take_over.Goals as goal

pub returns-clause-taken : goal.returns-clause-taken
returns-clause-taken g c clean has =
    let old = state g.S.Store c.args.tx.now.conn.now in
    let mid = state g.S.Store c.judge_with_past.new.tx.conn.now in
    let early : HasCleanDisk mid = clean_first c.update_version.ensures.stays.survives clean in
    taken_each c.in_ok-judged.judged old mid (state g.S.Store c.update_version.new.tx.conn.now) has (c.in_ok-judged.ensures.ready early has) (c.in_ok-update_version.ensures.updated clean)

pub returns-clause-fault : goal.returns-clause-fault
returns-clause-fault g c clean has = c.in_ok-judged.ensures.fault (clean_first c.update_version.ensures.stays.survives clean) has

pub returns-clause-numbers : goal.returns-clause-numbers
returns-clause-numbers g c clean has = c.in_ok-judged.ensures.numbers (clean_first c.update_version.ensures.stays.survives clean) has

pub returns-clause-stays : goal.returns-clause-stays
returns-clause-stays g c =
    stays-then (HasFirstTables 8) (λ _. ⊤) g.S.Store c.args.tx.now c.judge_with_past.new.tx c.update_version.new.tx (λ _ _. tt) c.judge_with_past.ensures.stays c.update_version.ensures.stays

pub returns-in_err-update_version-clause-stays : goal.returns-in_err-update_version-clause-stays
returns-in_err-update_version-clause-stays g c =
    stays-then (HasFirstTables 8) (λ _. ⊤) g.S.Store c.args.tx.now c.judge_with_past.new.tx c.update_version.new.tx (λ _ _. tt) c.judge_with_past.ensures.stays c.update_version.ensures.stays

pub returns-then-is_err-clause-taken : goal.returns-then-is_err-clause-taken
returns-then-is_err-clause-taken g c clean has = ok_none c.in_ok-judged.judged _ (sym c.is_err.ensures.value ∙ c.if-is_err.true)

pub returns-then-is_err-clause-fault : goal.returns-then-is_err-clause-fault
returns-then-is_err-clause-fault g c clean has = c.in_ok-judged.ensures.fault clean has

pub returns-then-is_err-clause-numbers : goal.returns-then-is_err-clause-numbers
returns-then-is_err-clause-numbers g c clean has = c.in_ok-judged.ensures.numbers clean has
