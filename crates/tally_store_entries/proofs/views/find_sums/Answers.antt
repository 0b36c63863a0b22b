use Rattle.sqlite.specs.Held.{state}
use Rattle.tally_store_entries.proofs.LookLemmas.{look_as, look_fails}
use Rattle.tally_store_entries.proofs.ViewLemmas.{finds_sums}
use Rattle.tally_store_entries.proofs.views.find_sums.Goals as goal

pub returns-in_err-rows-clause-reads : goal.returns-in_err-rows-clause-reads
returns-in_err-rows-clause-reads g c = look_fails g.S.Store c.args.tx.now c.rows_of_key.new.tx _ c.from_residual.ensures.0 c.rows_of_key.ensures.reads.stays

pub returns-clause-reads : goal.returns-clause-reads
returns-clause-reads g c = look_as g.S.Store c.args.tx.now c.rows_of_key.new.tx _ _ c.in_ok-rows.ensures.reads

pub returns-clause-found : goal.returns-clause-found
returns-clause-found g c clean inside =
    let old = state g.S.Store c.args.tx.now.conn.now in
    finds_sums c.args.con.now old c.in_ok-rows.rows.items c.sums_of_rows.result (c.in_ok-rows.ensures.found clean inside) (rw c.deref.ensures.value at c.sums_of_rows.ensures)
