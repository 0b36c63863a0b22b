use Rattle.std.proofs.lemmas.Result.{on_ok_weaker}
use Rattle.sqlite.specs.State.{HasCleanDisk}
use Rattle.sqlite.specs.Held.{state}
use Rattle.tally_store_schema.proofs.StaysLemmas.{clean_first}
use Rattle.tally_store_open.proofs.TakeoverLemmas.{fault_each, numbers_each, past_added, ready_each}
use Rattle.tally_store_open.proofs.former.judge_with_past.Goals as goal

pub returns-clause-ready : goal.returns-clause-ready
returns-clause-ready g c clean first =
    let old = state g.S.Store c.args.tx.now.conn.now in
    let mid = state g.S.Store c.create_past.new.tx.conn.now in
    let new = state g.S.Store c.judge_stored.new.tx.conn.now in
    let early : HasCleanDisk mid = clean_first c.judge_stored.ensures.reads.stays.survives clean in
    let past = past_added old mid (c.in_ok-create_past.ensures.past early first.first) in
    let ensured = c.judge_stored.ensures in
    let was_open = on_ok_weaker c.judge_stored.result (c.create_past.ensures.stays.was_open early) (ensured.reads.answered_open clean) in
    ready_each c.judge_stored.result old mid new was_open past (ensured.reads.same clean past.has) (ensured.stored clean past.has) (ensured.judged clean past.has)

pub returns-clause-fault : goal.returns-clause-fault
returns-clause-fault g c clean first =
    let old = state g.S.Store c.args.tx.now.conn.now in
    let mid = state g.S.Store c.create_past.new.tx.conn.now in
    let early : HasCleanDisk mid = clean_first c.judge_stored.ensures.reads.stays.survives clean in
    let past = past_added old mid (c.in_ok-create_past.ensures.past early first.first) in
    fault_each c.judge_stored.result old mid past (c.judge_stored.ensures.fault clean past.has)

pub returns-clause-numbers : goal.returns-clause-numbers
returns-clause-numbers g c clean first =
    let old = state g.S.Store c.args.tx.now.conn.now in
    let mid = state g.S.Store c.create_past.new.tx.conn.now in
    let early : HasCleanDisk mid = clean_first c.judge_stored.ensures.reads.stays.survives clean in
    let past = past_added old mid (c.in_ok-create_past.ensures.past early first.first) in
    numbers_each c.judge_stored.result old mid c.judge_stored.new.known past (c.judge_stored.ensures.numbers clean past.has)
