use Rattle.std.proofs.Common.{◌≡◌, length, subst, arith, ap, sym}
use Rattle.std.proofs.lemmas.Result.{IfOk-weaker}
use Rattle.sqlite.specs.State.{HasCleanDisk}
use Rattle.sqlite.specs.Held.{state}
use Rattle.tally_store_schema.specs.Rows.{has_key, others}
use Rattle.tally_returns.specs.Counts.{VoteCounts}
use Rattle.tally_store_schema.specs.declared.table.KeyedTable.TheVariants.{Totals}
use Rattle.tally_store_schema.specs.Office.{rows_in}
use Rattle.tally_store_entries.specs.internal.Constituencies.{DifferBy}
use Rattle.tally_store_entries.specs.internal.Entries.{stored_in}
use Rattle.tally_store_entries.specs.internal.Written.{HasItems}
use Rattle.tally_store_schema.proofs.StaysLemmas.{clean_first, stays-both}
use Rattle.tally_store_entries.proofs.ConLemmas.{sums_before, sums_changed}
use Rattle.tally_store_entries.proofs.CountLemmas.{blank_set, counts_then, none_left, spoiled_after}
use Rattle.tally_store_entries.proofs.constituencies.put_sums.Goals as goal

pub move_list_sums-requires : goal.move_list_sums-requires
move_list_sums-requires g c =
    let by : length c.by.inside.votes.items ≡ length c.args.by.now.votes = ap (λ (w : VoteCounts). length w.votes) c.by.view_is in
    let sums : length c.sums.inside.votes.items ≡ length c.args.sums.now.votes = ap (λ (w : VoteCounts). length w.votes) c.sums.view_is in
    let first = ap length c.as_slice.ensures.value in
    let second = ap length c.as_slice-2.ensures.value in
    record { few = omega (arith, second, sums, c.requires.few); lists = omega (arith, first, second, by, sums, c.requires.lists) }

pub returns-in_err-move_list_sums-clause-stays : goal.returns-in_err-move_list_sums-clause-stays
returns-in_err-move_list_sums-clause-stays g c = stays-both g.S.Store c.args.tx.now c.move_sum.new.tx c.move_list_sums.new.tx c.move_sum.ensures.stays c.move_list_sums.ensures.stays

pub returns-clause-stays : goal.returns-clause-stays
returns-clause-stays g c =
    let two = stays-both g.S.Store c.args.tx.now c.move_sum.new.tx c.move_list_sums.new.tx c.move_sum.ensures.stays c.move_list_sums.ensures.stays in
    stays-both g.S.Store c.args.tx.now c.move_list_sums.new.tx c.move_sum-2.new.tx two c.move_sum-2.ensures.stays

pub returns-clause-written : goal.returns-clause-written
returns-clause-written g c clean inside cons before standing some differ is same held =
    let old = state g.S.Store c.args.tx.now.conn.now in
    let a = state g.S.Store c.move_sum.new.tx.conn.now in
    let b = state g.S.Store c.move_list_sums.new.tx.conn.now in
    let new = state g.S.Store c.move_sum-2.new.tx.conn.now in
    let con = c.args.con.now in
    let v = before con in
    let rest = others con (rows_in Totals old) in
    let none = none_left (has_key con) (rows_in Totals old) in
    let there = sums_before cons con before (stored_in Totals old) some held in
    let clean_b : HasCleanDisk b = clean_first c.move_sum-2.ensures.stays.survives clean in
    let clean_a : HasCleanDisk a = clean_first c.move_list_sums.ensures.stays.survives clean_b in
    let by : VoteCounts = record { votes = c.by.inside.votes.items; blank = c.by.inside.blank; spoiled = c.by.inside.spoiled } in
    let shown : VoteCounts = record { votes = c.sums.inside.votes.items; blank = c.sums.inside.blank; spoiled = c.sums.inside.spoiled } in
    let so : DifferBy by v shown = subst (λ k. DifferBy k v shown) (sym c.by.view_is) (subst (λ k. DifferBy c.args.by.now v k) (sym c.sums.view_is) differ) in
    let few : length shown.votes ≡ length c.args.sums.now.votes = ap (λ (w : VoteCounts). length w.votes) c.sums.view_is in
    let blank : HasItems Totals con (record v { blank = shown.blank }) rest old a = blank_set Totals con v shown.blank rest old a inside none there (λ more. c.in_ok-move_sum.ensures.moved clean_a inside v.blank more so.blank) in
    let votes : HasItems Totals con (record { votes = shown.votes; blank = shown.blank; spoiled = v.spoiled }) rest a b =
    (rw (c.as_slice.ensures.value, c.as_slice-2.ensures.value) at c.in_ok-move_list_sums.ensures.moved) clean_b blank.inside (record v { blank = shown.blank }) rest so.lists so.votes none blank.rows in
    IfOk-weaker c.move_sum-2.result _ _ (λ _ done. sums_changed con c.args.sums.now cons before standing old new some is same held (subst (λ w. HasItems Totals con w rest old new) c.sums.view_is done))
    (spoiled_after Totals con (record { votes = shown.votes; blank = shown.blank; spoiled = v.spoiled }) shown.spoiled rest old b new c.move_sum-2.result (omega (arith, few, c.requires.few)) none (counts_then Totals con _ _ rest old a b blank votes)
    (λ more. c.move_sum-2.ensures.moved clean votes.inside v.spoiled more so.spoiled))
