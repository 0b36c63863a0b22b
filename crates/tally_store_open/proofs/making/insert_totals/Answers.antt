use Rattle.std.proofs.Common.{◌∷◌, ◌++◌, [], refl, subst, OnOk}
use Rattle.sqlite.specs.State.{HasCleanDisk}
use Rattle.sqlite.specs.Held.{state}
use Rattle.tally_store_schema.proofs.StaysLemmas.{clean_first, stays-both}
use Rattle.tally_store_rows.specs.Cells.{item_row, spoiled_item}
use Rattle.tally_store_open.specs.internal.Making.{AddsTotals, no_list_rows}
use Rattle.tally_store_open.proofs.AddLemmas.{totals_then, totals_last, no_votes_split}
use Rattle.tally_store_open.proofs.making.insert_totals.Goals as goal

pub returns-clause-added : goal.returns-clause-added
returns-clause-added g c clean inside =
    let old = state g.S.Store c.args.tx.now.conn.now in
    let mid = state g.S.Store c.insert_total.new.tx.conn.now in
    let last = state g.S.Store c.insert_list_totals.new.tx.conn.now in
    let new = state g.S.Store c.insert_total-2.new.tx.conn.now in
    let code = c.args.con.now in
    let first = item_row code (0, 0) ∷ [] in
    let rest = no_list_rows code c.args.lists in
    let clean_last : HasCleanDisk last = clean_first c.insert_total-2.ensures.stays.survives clean in
    let clean_mid : HasCleanDisk mid = clean_first c.insert_list_totals.ensures.stays.survives clean_last in
    let blank = c.in_ok-insert_total.ensures.inserted 0 refl clean_mid inside in
    let lists = c.in_ok-insert_list_totals.ensures.added clean_last blank.inside in
    subst (λ rows. OnOk c.insert_total-2.result (AddsTotals rows old new)) (no_votes_split code c.args.lists)
    (totals_last (first ++ rest) (item_row code (spoiled_item, 0)) old last new c.insert_total-2.result (totals_then first rest old mid last blank lists) (c.insert_total-2.ensures.inserted 0 refl clean lists.inside))

pub returns-clause-stays : goal.returns-clause-stays
returns-clause-stays g c =
    let two = stays-both g.S.Store c.args.tx.now c.insert_total.new.tx c.insert_list_totals.new.tx c.insert_total.ensures.stays c.insert_list_totals.ensures.stays in
    stays-both g.S.Store c.args.tx.now c.insert_list_totals.new.tx c.insert_total-2.new.tx two c.insert_total-2.ensures.stays
