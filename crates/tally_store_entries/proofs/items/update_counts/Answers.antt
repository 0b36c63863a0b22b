use Rattle.std.proofs.Common.{◌≡◌, length, subst, arith, ap, sym, ◌∙◌}
use Rattle.std.proofs.lemmas.Result.{IfOk-weaker}
use Rattle.sqlite.specs.State.{HasCleanDisk}
use Rattle.sqlite.specs.Held.{state}
use Rattle.tally_returns.specs.Counts.{VoteCounts}
use Rattle.tally_store_schema.specs.declared.table.KeyedTable.TheVariants.{Counts}
use Rattle.tally_store_entries.specs.internal.Written.{HasCounts}
use Rattle.tally_store_schema.proofs.StaysLemmas.{clean_first, stays-both}
use Rattle.tally_store_entries.proofs.CountLemmas.{blank_set, spoiled_after, counts_then}
use Rattle.tally_store_entries.proofs.items.update_counts.Goals as goal

pub returns-in_err-update_votes-clause-stays : goal.returns-in_err-update_votes-clause-stays
returns-in_err-update_votes-clause-stays g c = stays-both g.S.Store c.args.tx.now c.update_count.new.tx c.update_votes.new.tx c.update_count.ensures.stays c.update_votes.ensures.stays

pub returns-clause-stays : goal.returns-clause-stays
returns-clause-stays g c =
    let two = stays-both g.S.Store c.args.tx.now c.update_count.new.tx c.update_votes.new.tx c.update_count.ensures.stays c.update_votes.ensures.stays in
    stays-both g.S.Store c.args.tx.now c.update_votes.new.tx c.update_count-2.new.tx two c.update_count-2.ensures.stays

pub returns-clause-set : goal.returns-clause-set
returns-clause-set g c clean inside v rest same none held =
    let old = state g.S.Store c.args.tx.now.conn.now in
    let a = state g.S.Store c.update_count.new.tx.conn.now in
    let b = state g.S.Store c.update_votes.new.tx.conn.now in
    let new = state g.S.Store c.update_count-2.new.tx.conn.now in
    let station = c.args.station.now in
    let clean_b : HasCleanDisk b = clean_first c.update_count-2.ensures.stays.survives clean in
    let clean_a : HasCleanDisk a = clean_first c.update_votes.ensures.stays.survives clean_b in
    let shown : VoteCounts = record { votes = c.counts.inside.votes.items; blank = c.counts.inside.blank; spoiled = c.counts.inside.spoiled } in
    let as_many : length v.votes ≡ length shown.votes = same ∙ ap (λ (w : VoteCounts). length w.votes) (sym c.counts.view_is) in
    let blank : HasCounts station (record v { blank = shown.blank }) rest old a = blank_set Counts station v shown.blank rest old a inside none held (c.in_ok-update_count.ensures.updated clean_a inside v.blank) in
    let votes : HasCounts station (record { votes = shown.votes; blank = shown.blank; spoiled = v.spoiled }) rest a b =
    (rw c.as_slice.ensures.value at c.in_ok-update_votes.ensures.set) clean_b blank.inside (record v { blank = shown.blank }) rest as_many none blank.rows in
    IfOk-weaker c.update_count-2.result _ _ (λ _ done. subst (λ w. HasCounts station w rest old new) c.counts.view_is done)
    (spoiled_after Counts station (record { votes = shown.votes; blank = shown.blank; spoiled = v.spoiled }) shown.spoiled rest old b new c.update_count-2.result (omega (arith, as_many, same, c.requires)) none (counts_then Counts station _ _ rest old a b blank votes) (c.update_count-2.ensures.updated clean votes.inside v.spoiled))
