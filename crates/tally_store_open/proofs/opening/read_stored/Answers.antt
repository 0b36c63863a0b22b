use Rattle.std.proofs.Common.{◌≡◌, ◌^◌, nat_lt, rules, true}
use Rattle.std.proofs.lemmas.Result.{IfOk-weaker, IfErr-weaker}
use Rattle.sqlite.specs.Held.{state}
use Rattle.tally_store_open.proofs.StoredLemmas.{fault_shown, stored_shown}
use Rattle.tally_store_open.proofs.opening.read_stored.Goals as goal

pub returns-clause-stored : goal.returns-clause-stored
returns-clause-stored g c clean has =
    IfOk-weaker c.setup_of_version.result _ _ (λ setup is. stored_shown c.args.number setup (state g.S.Store c.args.tx.now.conn.now) c.in_ok-rows.rows.items (c.in_ok-rows.ensures.shown clean has) is)
    (rw c.deref.ensures.value at c.setup_of_version.ensures.setup)

pub returns-clause-fault : goal.returns-clause-fault
returns-clause-fault g c clean has =
    let fits : nat_lt c.args.number (2 ^ 32) ≡ true = search rules in
    IfErr-weaker c.setup_of_version.result _ _ (λ fault ensured. fault_shown c.args.number (state g.S.Store c.args.tx.now.conn.now) c.in_ok-rows.rows.items fault fits (c.in_ok-rows.ensures.shown clean has) ensured)
    (rw c.deref.ensures.value at c.setup_of_version.ensures.fault)
