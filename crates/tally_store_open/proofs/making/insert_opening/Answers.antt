use Rattle.std.proofs.Common.{◌≡◌, ◌∷◌, [], pos, length, ap, arith, subst, subst₂, ◌∙◌, OnOk}
use Rattle.sqlite.specs.State.{HasCleanDisk}
use Rattle.sqlite.specs.Held.{state}
use Rattle.sqlite_value.specs.declared.value.Value.TheVariants.{Int, Text}
use Rattle.tally_setup.specs.Constituency.{Constituency}
use Rattle.tally_store_schema.specs.declared.table.KeyedTable.TheVariants.{Cons}
use Rattle.tally_store_schema.specs.Office.{HasRows, rows_in}
use Rattle.tally_store_open.specs.internal.Making.{AddsTotals, no_vote_rows}
use Rattle.tally_store_open.proofs.AddLemmas.{opening_last}
use Rattle.tally_store_schema.proofs.StaysLemmas.{clean_first}
use Rattle.tally_store_open.proofs.making.insert_opening.Goals as goal

pub returns-clause-opened : goal.returns-clause-opened
returns-clause-opened g c clean inside =
    let old = state g.S.Store c.args.tx.now.conn.now in
    let mid = state g.S.Store c.insert_con.new.tx.conn.now in
    let new = state g.S.Store c.insert_totals.new.tx.conn.now in
    let con = c.args.con.now in
    let own : c.con.inside.code ≡ con.code = ap (λ (x : Constituency). x.code) c.con.view_is in
    let seen : length c.con.inside.lists.items ≡ length con.lists = ap (λ (x : Constituency). length x.lists) c.con.view_is in
    let many : c.len.result ≡ length con.lists = omega (arith, c.len.ensures, c.con.inside.lists.ok.0, seen) in
    let clean_mid : HasCleanDisk mid = clean_first c.insert_totals.ensures.stays.survives clean in
    let row = c.in_ok-insert_con.ensures.inserted clean_mid inside in
    opening_last con old mid new c.insert_totals.result
    (subst (λ k. HasRows Cons ((Text k ∷ Int (pos 1) ∷ Int (pos 0) ∷ Text [] ∷ []) ∷ rows_in Cons old) old mid) (c.as_str.ensures.text ∙ own) row)
    (subst₂ (λ k n. OnOk c.insert_totals.result (AddsTotals (no_vote_rows k n) mid new)) (c.as_str-2.ensures.text ∙ own) many (c.insert_totals.ensures.added clean row.inside))
