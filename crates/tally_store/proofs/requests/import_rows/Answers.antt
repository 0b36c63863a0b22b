use Rattle.std.proofs.Common.{ap, Err, sym, true≢false}
use Rattle.sqlite.specs.Held.{state}
use Rattle.tally_returns_rows.specs.Delivery.{delivery}
use Rattle.tally_store.proofs.TrialLemmas.{fault_or_failed, import_then, still_there}
use Rattle.tally_store.proofs.requests.import_rows.Goals as goal

pub returns-in-Ok-clause-shut : goal.returns-in-Ok-clause-shut
returns-in-Ok-clause-shut g c clean is = absurd (true≢false (sym (c.in-Ok.ensures.shut clean is)))

pub returns-in-Err-clause-ends : goal.returns-in-Err-clause-ends
returns-in-Err-clause-ends g c =
    let came = delivery g.R.RowSource c.args.source.now c.take_committed.new.source in
    import_then c.args.setup.now came (state g.S.Store c.args.conn.now) (state g.S.Store c.take_committed.new.conn) (state g.S.Store c.unless_shut.new.conn) c.unless_shut.ensures.ends c.in-Err.ensures.ends

pub returns-in-Err-clause-done : goal.returns-in-Err-clause-done
returns-in-Err-clause-done g c =
    let came = delivery g.R.RowSource c.args.source.now c.take_committed.new.source in
    still_there c.args.setup.now came (state g.S.Store c.args.conn.now) (state g.S.Store c.take_committed.new.conn) (state g.S.Store c.unless_shut.new.conn) c.unless_shut.ensures.ends c.in-Err.fault c.unless_shut.result
    c.in-Err.ensures.done

pub returns-in-Err-clause-fault : goal.returns-in-Err-clause-fault
returns-in-Err-clause-fault g c =
    fault_or_failed (delivery g.R.RowSource c.args.source.now c.take_committed.new.source) c.in-Err.fault c.unless_shut.result c.in-Err.ensures.fault c.unless_shut.ensures.one

pub returns-in-Err-clause-shut : goal.returns-in-Err-clause-shut
returns-in-Err-clause-shut g c clean is = ap Err (c.unless_shut.ensures.shut clean is)
