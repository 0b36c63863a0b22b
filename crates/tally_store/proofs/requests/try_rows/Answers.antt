use Rattle.sqlite.specs.Held.{state}
use Rattle.tally_returns_rows.specs.Delivery.{delivery}
use Rattle.tally_store_schema.proofs.StaysLemmas.{clean_first}
use Rattle.tally_store.proofs.TrialLemmas.{ends_then, fault_of_trial, named_or_failed, tried_or_failed, unwritten_ends}
use Rattle.tally_store.proofs.requests.try_rows.Goals as goal

pub returns-clause-ends : goal.returns-clause-ends
returns-clause-ends g c =
    ends_then (state g.S.Store c.args.conn.now) (state g.S.Store c.take_undone-taken.new.conn) (state g.S.Store c.unless_shut.new.conn) c.take_undone-taken.ensures.ends c.unless_shut.ensures.ends

pub returns-clause-tried : goal.returns-clause-tried
returns-clause-tried g c =
    let came = delivery g.R.RowSource c.args.source.now c.take_undone-taken.new.source in
    tried_or_failed c.args.setup.now came (state g.S.Store c.args.conn.now) (state g.S.Store c.take_undone-taken.new.conn) (state g.S.Store c.unless_shut.new.conn) c.take_undone-taken.result c.unless_shut.result
    (clean_first c.unless_shut.ensures.ends.survives) c.take_undone-taken.ensures.tried c.unless_shut.ensures.one

pub returns-clause-named : goal.returns-clause-named
returns-clause-named g c =
    let came = delivery g.R.RowSource c.args.source.now c.take_undone-taken.new.source in
    named_or_failed c.args.setup.now came (state g.S.Store c.args.conn.now) (state g.S.Store c.take_undone-taken.new.conn) (state g.S.Store c.unless_shut.new.conn) c.take_undone-taken.result c.unless_shut.result
    (clean_first c.unless_shut.ensures.ends.survives) c.args.named.now.items c.take_undone-taken.new.named.items c.take_undone-taken.ensures.named c.unless_shut.ensures.one

pub returns-clause-fault : goal.returns-clause-fault
returns-clause-fault g c =
    fault_of_trial (delivery g.R.RowSource c.args.source.now c.take_undone-taken.new.source) c.take_undone-taken.result c.unless_shut.result c.take_undone-taken.ensures.fault c.take_undone-taken.ensures.gave c.unless_shut.ensures.one

pub returns-clause-unwritten : goal.returns-clause-unwritten
returns-clause-unwritten g c =
    unwritten_ends c.args.setup.now (state g.S.Store c.args.conn.now) (state g.S.Store c.unless_shut.new.conn) (λ db now may. g.met.S.Store.settled c.args.conn.now.store db now may) c.requires.office
    (ends_then (state g.S.Store c.args.conn.now) (state g.S.Store c.take_undone-taken.new.conn) (state g.S.Store c.unless_shut.new.conn) c.take_undone-taken.ensures.ends c.unless_shut.ensures.ends)
