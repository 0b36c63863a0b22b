use Rattle.std.proofs.Common.{◌+◌, ◌++◌, sym, subst, arith}
use Rattle.std.proofs.lemmas.Result.{IfOk-weaker}
use Rattle.sqlite.specs.State.{HasCleanDisk}
use Rattle.sqlite.specs.Held.{state}
use Rattle.sqlite.specs.Values.{bound}
use Rattle.tally_store_schema.specs.Office.{HasRows, numbered_rows, rows_in}
use Rattle.tally_store_schema.specs.internal.Numbered.{keyed_table}
use Rattle.tally_store_schema.proofs.NumberedLemmas.{numbered_both}
use Rattle.tally_store_schema.proofs.numbered.+insert_rows.Goals as goal

pub returns-clause-inserted : goal.returns-clause-inserted
returns-clause-inserted g t c clean inside =
    let old = state g.S.Store c.args.tx.now.conn.now in
    let mid = state g.S.Store c.insert_few-2.new.tx.conn.now in
    let new = state g.S.Store c.insert_rows.new.tx.conn.now in
    let table = keyed_table c.args.table in
    let front = bound c.args.front.now in
    let clean_mid : HasCleanDisk mid = omega (arith, clean, c.insert_rows.ensures.stays.survives.clean) in
    let was = c.in_ok-insert_few.ensures.inserted clean_mid inside in
    IfOk-weaker c.insert_rows.result _ _
    (λ _ more. numbered_both table front c.args.first c.args.numbers.now c.split_at.result.0.now c.split_at.result.1.now old mid new c.split_at.ensures.by_index.0 was
    (subst (λ n. HasRows table (numbered_rows front (c.args.first + n) c.split_at.result.1.now ++ rows_in table mid) mid new) (sym c.split_at.ensures.front_len) more))
    (c.insert_rows.ensures.inserted clean was.inside)
