use Rattle.std.proofs.Common.{arith, IsTrue}
use Rattle.tally_store_open.specs.internal.Found.{IsLawfulFound}
use Rattle.tally_store_open.proofs.AllLemmas.{all_more, all_end}
use Rattle.tally_store_open.proofs.cons.are_each_lawful.Goals as goal

pub loop-con-preserved : goal.loop-con-preserved
loop-con-preserved c =
    let passed : IsTrue c.in_ok-is_lawful.field-0 = c.if-not-branch.false in
    all_more (IsLawfulFound c.args.ledger.now) c.args.found.now c.loop-con.con-index c.con-item.result (omega (arith, c.loop-con-test.true)) c.con-item.is (c.in_ok-is_lawful.ensures.lawful passed) c.loop-con.invariant

pub returns-clause-lawful : goal.returns-clause-lawful
returns-clause-lawful c ensured = all_end (IsLawfulFound c.args.ledger.now) c.args.found.now c.loop-con.con-index (omega (arith, c.loop-con-test.false)) c.loop-con.invariant
