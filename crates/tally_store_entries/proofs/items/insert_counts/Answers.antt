use Rattle.std.proofs.Common.{◌≡◌, map, length, ap, subst, arith}
use Rattle.std.proofs.lemmas.Result.{IfOk-weaker}
use Rattle.sqlite.specs.State.{HasCleanDisk}
use Rattle.sqlite.specs.Held.{state}
use Rattle.tally_store_schema.specs.declared.table.KeyedTable.TheVariants.{Counts}
use Rattle.tally_returns.specs.Counts.{VoteCounts}
use Rattle.tally_store_rows.specs.Cells.{item_row, items_of}
use Rattle.tally_store_schema.proofs.StaysLemmas.{clean_first, stays-both}
use Rattle.tally_store_entries.specs.internal.Written.{Adds}
use Rattle.tally_store_entries.proofs.RowLemmas.{adds_counts, numbers_are}
use Rattle.tally_store_entries.proofs.items.insert_counts.Goals as goal

pub insert_numbers-requires-2 : goal.insert_numbers-requires-2
insert_numbers-requires-2 g c =
    let votes : length c.counts.inside.votes.items ≡ length c.args.counts.now.votes = ap (λ (v : VoteCounts). length v.votes) c.counts.view_is in
    record { low = omega (arith, ap length c.as_slice.ensures.value, votes, c.requires) }

pub returns-in_err-insert_numbers-2-clause-stays : goal.returns-in_err-insert_numbers-2-clause-stays
returns-in_err-insert_numbers-2-clause-stays g c = stays-both g.S.Store c.args.tx.now c.insert_numbers.new.tx c.insert_numbers-2.new.tx c.insert_numbers.ensures.stays c.insert_numbers-2.ensures.stays

pub returns-clause-stays : goal.returns-clause-stays
returns-clause-stays g c =
    let two = stays-both g.S.Store c.args.tx.now c.insert_numbers.new.tx c.insert_numbers-2.new.tx c.insert_numbers.ensures.stays c.insert_numbers-2.ensures.stays in
    stays-both g.S.Store c.args.tx.now c.insert_numbers-2.new.tx c.insert_numbers-3.new.tx two c.insert_numbers-3.ensures.stays

pub returns-clause-added : goal.returns-clause-added
returns-clause-added g c clean inside =
    let old = state g.S.Store c.args.tx.now.conn.now in
    let a = state g.S.Store c.insert_numbers.new.tx.conn.now in
    let b = state g.S.Store c.insert_numbers-2.new.tx.conn.now in
    let new = state g.S.Store c.insert_numbers-3.new.tx.conn.now in
    let clean_b : HasCleanDisk b = clean_first c.insert_numbers-3.ensures.stays.survives clean in
    let clean_a : HasCleanDisk a = clean_first c.insert_numbers-2.ensures.stays.survives clean_b in
    let blank = c.in_ok-insert_numbers.ensures.inserted clean_a inside in
    let votes = c.in_ok-insert_numbers-2.ensures.inserted clean_b blank.inside in
    let shown : VoteCounts = record { votes = c.counts.inside.votes.items; blank = c.counts.inside.blank; spoiled = c.counts.inside.spoiled } in
    IfOk-weaker c.insert_numbers-3.result _ _
    (λ _ spoiled. subst (λ v. Adds Counts (map (item_row c.args.station.now) (items_of v)) old new) c.counts.view_is (adds_counts Counts c.args.station.now shown old a b new blank (rw (c.as_slice.ensures.value, numbers_are c.args.station.now 1 shown.votes) at votes) spoiled))
    (c.insert_numbers-3.ensures.inserted clean votes.inside)
