use Rattle.std.proofs.Common.{◌∙◌, Ok, ap, subst}
use Rattle.sqlite.specs.State.{HasCleanDisk, IsUnchanged}
use Rattle.sqlite.specs.Held.{state}
use Rattle.tally_setup.specs.Constituency.{Constituency}
use Rattle.tally_setup.specs.Limits.{IsConstituency}
use Rattle.tally_store_entries.specs.internal.Found.{AreRowsFound}
use Rattle.tally_store_entries.proofs.FindLemmas.{inside_still}
use Rattle.tally_store_schema.proofs.StaysLemmas.{clean_first}
use Rattle.tally_store_entries.proofs.LookLemmas.{look_as, look_fails, look_open}
use Rattle.tally_store_entries.proofs.StatusLemmas.{known_before}
use Rattle.tally_store_entries.proofs.WholeViewLemmas.{finds_view}
use Rattle.tally_store_entries.proofs.views.find_view.Goals as goal

pub returns-in_err-rows-clause-reads : goal.returns-in_err-rows-clause-reads
returns-in_err-rows-clause-reads g c = look_fails g.S.Store c.args.tx.now c.rows_of_con.new.tx _ c.from_residual.ensures.0 c.rows_of_con.ensures.reads.stays

pub returns-in_err-statuses-clause-reads : goal.returns-in_err-statuses-clause-reads
returns-in_err-statuses-clause-reads g c =
    let both = look_open g.S.Store c.args.tx.now c.rows_of_con.new.tx c.find_known.new.tx _ c.find_known.result c.in_ok-rows.ensures.reads c.find_known.ensures.stays c.find_known.ensures.same in
    look_fails g.S.Store c.args.tx.now c.find_known.new.tx _ c.from_residual-in_err-statuses.ensures.0 both.stays

pub returns-clause-reads : goal.returns-clause-reads
returns-clause-reads g c =
    let both = look_open g.S.Store c.args.tx.now c.rows_of_con.new.tx c.find_known.new.tx _ (Ok c.in_ok-statuses.statuses) c.in_ok-rows.ensures.reads c.find_known.ensures.stays c.in_ok-statuses.ensures.same in
    look_as g.S.Store c.args.tx.now c.find_known.new.tx _ _ both

pub returns-clause-found : goal.returns-clause-found
returns-clause-found g c clean inside =
    let con = c.args.con.now in
    let known = c.args.known in
    let old = state g.S.Store c.args.tx.now.conn.now in
    let mid = state g.S.Store c.rows_of_con.new.tx.conn.now in
    let early : HasCleanDisk mid = clean_first c.find_known.ensures.stays.survives clean in
    let same : IsUnchanged old mid = c.in_ok-rows.ensures.reads.same early inside in
    let limits : IsConstituency con = subst IsConstituency c.con.view_is c.con.invariant in
    let rows : AreRowsFound c.args.with_past con.code old c.in_ok-rows.rows = subst (λ k. AreRowsFound c.args.with_past k old c.in_ok-rows.rows) (c.as_str.ensures.text ∙ ap (λ (x : Constituency). x.code) c.con.view_is) (c.in_ok-rows.ensures.found early inside) in
    let counted = c.in_ok-statuses.ensures.found clean (inside_still old mid same inside, same.0.is_open) in
    finds_view c.args.setup.now con known c.args.with_past old c.in_ok-statuses.statuses c.in_ok-rows.rows c.fitting_view.result limits rows (known_before con known old mid c.in_ok-statuses.statuses same counted) c.fitting_view.ensures.read
