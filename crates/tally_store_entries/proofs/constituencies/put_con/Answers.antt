use Rattle.std.proofs.Common.{pos}
use Rattle.std.proofs.lemmas.Result.{IfOk-weaker}
use Rattle.sqlite_value.specs.declared.value.Value.TheVariants.{Int, Text}
use Rattle.sqlite.specs.Held.{state}
use Rattle.tally_store_schema.specs.Cells.{flag}
use Rattle.tally_store_schema.specs.declared.table.KeyedTable.TheVariants.{Cons}
use Rattle.tally_store_entries.specs.internal.Entries.{stored_in}
use Rattle.tally_store_entries.proofs.ConLemmas.{only_con, con_changed}
use Rattle.tally_store_entries.proofs.constituencies.put_con.Goals as goal

pub returns-clause-written : goal.returns-clause-written
returns-clause-written g c clean inside cons before standing is becomes held =
    let old = state g.S.Store c.args.tx.now.conn.now in
    let new = state g.S.Store c.update_con.new.tx.conn.now in
    let con = c.args.con.now in
    IfOk-weaker c.update_con.result _ _ (λ _ put. con_changed con c.args.edition c.args.certified c.args.note.now cons before standing old new becomes held put)
    (c.update_con.ensures.updated (Int (pos before.edition)) (Int (pos (flag before.certified))) (Text before.note) clean inside (only_con cons con before (stored_in Cons old) is held))
