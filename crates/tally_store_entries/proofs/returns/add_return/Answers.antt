use Rattle.std.proofs.Common.{◌≡◌, map, ap, subst}
use Rattle.std.proofs.lemmas.Result.{IfOk-weaker}
use Rattle.sqlite.specs.State.{HasCleanDisk}
use Rattle.sqlite.specs.Held.{state}
use Rattle.tally_returns.specs.Return.{StationReturn}
use Rattle.tally_store_schema.specs.declared.table.KeyedTable.TheVariants.{Counts}
use Rattle.tally_store_rows.specs.Cells.{item_row, items_of}
use Rattle.tally_store_entries.specs.internal.Written.{Adds}
use Rattle.tally_store_entries.proofs.ReturnLemmas.{return_added}
use Rattle.tally_store_schema.proofs.StaysLemmas.{clean_first, stays-both}
use Rattle.tally_store_entries.proofs.returns.add_return.Goals as goal

pub returns-clause-stays : goal.returns-clause-stays
returns-clause-stays g c = stays-both g.S.Store c.args.tx.now c.insert_head.new.tx c.insert_counts.new.tx c.insert_head.ensures.stays c.insert_counts.ensures.stays

pub returns-clause-added : goal.returns-clause-added
returns-clause-added g c clean inside setup returns is none held =
    let old = state g.S.Store c.args.tx.now.conn.now in
    let mid = state g.S.Store c.insert_head.new.tx.conn.now in
    let new = state g.S.Store c.insert_counts.new.tx.conn.now in
    let early : HasCleanDisk mid = clean_first c.insert_counts.ensures.stays.survives clean in
    let head = c.in_ok-insert_head.ensures.inserted early inside in
    let same : c.standing.inside.counts ≡ c.args.standing.now.counts = ap (λ (r : StationReturn). r.counts) c.standing.view_is in
    IfOk-weaker c.insert_counts.result _ _
    (λ _ counts. return_added c.args.con.now c.args.station.now c.args.standing.now old mid new head (subst (λ v. Adds Counts (map (item_row c.args.station.now) (items_of v)) mid new) same counts) setup returns is none held)
    (c.insert_counts.ensures.added clean head.inside)
