use Rattle.std.proofs.Common.{◌≡◌, length, ap, sym, subst, ◌∙◌}
use Rattle.std.proofs.lemmas.Result.{IfOk-weaker}
use Rattle.sqlite.specs.State.{HasCleanDisk}
use Rattle.sqlite.specs.Held.{state}
use Rattle.tally_store_schema.specs.Rows.{has_key, others}
use Rattle.tally_returns.specs.Return.{StationReturn}
use Rattle.tally_store_schema.specs.declared.table.KeyedTable.TheVariants.{Returns, Counts}
use Rattle.tally_store_schema.specs.Office.{rows_in}
use Rattle.tally_store_rows.specs.Cells.{constituency_of}
use Rattle.tally_store_entries.specs.internal.Entries.{stored_in}
use Rattle.tally_store_entries.specs.internal.Written.{HasCounts}
use Rattle.tally_store_entries.proofs.CountLemmas.{counts_before, none_left, return_corrected}
use Rattle.tally_store_entries.proofs.ReturnLemmas.{only_head}
use Rattle.tally_store_schema.proofs.StaysLemmas.{clean_first, stays-both}
use Rattle.tally_store_entries.proofs.returns.correct_return.Goals as goal

pub returns-clause-stays : goal.returns-clause-stays
returns-clause-stays g c = stays-both g.S.Store c.args.tx.now c.update_head.new.tx c.update_counts.new.tx c.update_head.ensures.stays c.update_counts.ensures.stays

pub returns-clause-corrected : goal.returns-clause-corrected
returns-clause-corrected g c clean inside setup returns before is lists held =
    let old = state g.S.Store c.args.tx.now.conn.now in
    let mid = state g.S.Store c.update_head.new.tx.conn.now in
    let new = state g.S.Store c.update_counts.new.tx.conn.now in
    let station = c.args.station.now in
    let early : HasCleanDisk mid = clean_first c.update_counts.ensures.stays.survives clean in
    let same : c.standing.inside.counts ≡ c.args.standing.now.counts = ap (λ (r : StationReturn). r.counts) c.standing.view_is in
    let head = c.in_ok-update_head.ensures.updated (constituency_of setup station) before early inside (only_head setup returns station before (stored_in Returns old) is held.heads) in
    let rest = others station (rows_in Counts mid) in
    IfOk-weaker c.update_counts.result _ _ (λ _ counts. return_corrected setup returns station before c.args.standing.now old mid new is held head (subst (λ v. HasCounts station v rest mid new) same counts))
    (c.update_counts.ensures.set clean head.inside before.counts rest (lists ∙ ap length (ap (λ v. v.votes) (sym same))) (none_left (has_key station) (rows_in Counts mid)) (counts_before setup returns station before old mid _ is held head))
