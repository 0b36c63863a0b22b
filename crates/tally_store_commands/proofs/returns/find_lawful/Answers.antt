use Rattle.std.proofs.Common.{◌≡◌, IsTrue, rules, subst}
use Rattle.sqlite.specs.Held.{state}
use Rattle.tally_store_entries.proofs.LookLemmas.{look_as, look_fails}
use Rattle.tally_store_entries.specs.internal.Entries.{FindsReturn}
use Rattle.tally_returns.specs.Decide.{limits_of}
use Rattle.tally_returns.specs.Lawful.{IsLawful}
use Rattle.tally_store_commands.proofs.returns.find_lawful.Goals as goal

pub returns-in_err-standing-clause-reads : goal.returns-in_err-standing-clause-reads
returns-in_err-standing-clause-reads g c = look_fails g.S.Store c.args.tx.now c.find_return.new.tx _ c.from_residual.ensures.0 c.find_return.ensures.reads.stays

pub returns-in_default-clause-reads : goal.returns-in_default-clause-reads
returns-in_default-clause-reads g c = look_as g.S.Store c.args.tx.now c.find_return.new.tx _ _ c.in_ok-standing.ensures.reads

pub returns-in_default-clause-found : goal.returns-in_default-clause-found
returns-in_default-clause-found g c clean inside = subst (FindsReturn c.args.setup.now c.args.station (state g.S.Store c.args.tx.now.conn.now)) c.in_default.is (c.in_ok-standing.ensures.found clean inside)

pub returns-clause-reads : goal.returns-clause-reads
returns-clause-reads g c = look_as g.S.Store c.args.tx.now c.find_return.new.tx _ _ c.in_ok-standing.ensures.reads

pub returns-clause-found : goal.returns-clause-found
returns-clause-found g c clean inside = subst (FindsReturn c.args.setup.now c.args.station (state g.S.Store c.args.tx.now.conn.now)) c.in-Some.is (c.in_ok-standing.ensures.found clean inside)

pub returns-clause-lawful : goal.returns-clause-lawful
returns-clause-lawful g c x some =
    let con = c.args.con.now in
    let place = c.args.place.now in
    let one : c.in-Some.standing ≡ x = cc in
    let test : IsTrue c.is_lawful.result = search rules in
    subst (IsLawful (limits_of con place)) one (c.is_lawful.ensures.lawful test)
