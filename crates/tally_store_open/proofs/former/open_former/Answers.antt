use Rattle.std.proofs.Common.{◌≡◌, ap, rules, subst}
use Rattle.sqlite.specs.Held.{state}
use Rattle.tally_store_open.specs.internal.Opening.{EndsTakeover}
use Rattle.tally_store_open.proofs.TakeoverLemmas.{Takes, fault_taken, numbers_taken, opened_taken, whole_or_nothing}
use Rattle.tally_store_open.proofs.former.open_former.Given.{Over}
use Rattle.tally_store_open.proofs.former.open_former.Goals as goal

takes : (g : Over) (c : goal.After-conn-1 g)
    → Takes c.take_over-got.new.known (state g.S.Store c.args.conn.now) (state g.S.Store c.transaction-tx.result.conn.now) (state g.S.Store c.take_over-got.new.tx.conn.now) (state g.S.Store c.conn-1.given.0) c.take_over-got.result c.end_takeover.result
takes g c =
    let ensured = c.take_over-got.ensures in
    let same : c.end_takeover.new.tx.0 ≡ c.conn-1.given.0 = search rules in
    record {
      schema = c.requires.schema;
      rowids = c.requires.rowids;
      settled = c.requires.settled;
      begun = ap (state g.S.Store) c.transaction-tx.ensures.begun;
      kept = ensured.stays.kept;
      survives = ensured.stays.survives;
      taken = ensured.taken;
      faults = ensured.fault;
      numbers = ensured.numbers;
      ends = subst (λ (h : _). EndsTakeover c.take_over-got.result (state g.S.Store c.take_over-got.new.tx.conn.now) (state g.S.Store h) c.end_takeover.result) same c.end_takeover.ensures;
    }

pub returns-clause-ends : goal.returns-clause-ends
returns-clause-ends g c = whole_or_nothing (takes g c)

pub returns-clause-opened : goal.returns-clause-opened
returns-clause-opened g c = opened_taken (takes g c)

pub returns-clause-fault : goal.returns-clause-fault
returns-clause-fault g c = fault_taken (takes g c)

pub returns-clause-numbers : goal.returns-clause-numbers
returns-clause-numbers g c = numbers_taken (takes g c)
