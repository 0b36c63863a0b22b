use Rattle.std.proofs.Common.{rules}
use Rattle.sqlite.specs.State.{HasCleanDisk, IsUnchanged}
use Rattle.sqlite.specs.Held.{state}
use Rattle.tally_store_open.proofs.JudgingLemmas.{look_as, look_then, shows_before, tables_still}
use Rattle.tally_store_schema.proofs.StaysLemmas.{clean_first}
use Rattle.tally_store_open.proofs.judging.read_two.Goals as goal

pub returns-clause-second : goal.returns-clause-second
returns-clause-second g c clean has =
    let old = state g.S.Store c.args.tx.now.conn.now in
    let mid = state g.S.Store c.all_rows.new.tx.conn.now in
    let early : HasCleanDisk mid = clean_first c.all_rows-2.ensures.reads.stays.survives clean in
    let same : IsUnchanged old mid = c.in_ok-rows.ensures.reads.same early has in
    shows_before c.args.second old mid _ same (c.in_ok-all_rows.ensures.shown clean (tables_still old mid has same))

pub returns-in_err-all_rows-clause-reads : goal.returns-in_err-all_rows-clause-reads
returns-in_err-all_rows-clause-reads g c =
    let failed = look_then g.S.Store c.args.tx.now c.all_rows.new.tx c.all_rows-2.new.tx _ _ c.in_ok-rows.ensures.reads c.in_err-all_rows.ensures.reads in
    search (rules, failed)

pub returns-clause-reads : goal.returns-clause-reads
returns-clause-reads g c =
    look_as g.S.Store c.args.tx.now c.all_rows-2.new.tx _ _ (look_then g.S.Store c.args.tx.now c.all_rows.new.tx c.all_rows-2.new.tx _ _ c.in_ok-rows.ensures.reads c.in_ok-all_rows.ensures.reads)

pub returns-clause-first : goal.returns-clause-first
returns-clause-first g c clean has = c.in_ok-rows.ensures.shown (clean_first c.all_rows-2.ensures.reads.stays.survives clean) has
