use Rattle.std.proofs.Common.{rules}
use Rattle.sqlite.specs.State.{HasCleanDisk, IsUnchanged}
use Rattle.sqlite.specs.Held.{state}
use Rattle.tally_store_schema.specs.Office.{HasTables}
use Rattle.tally_store_schema.specs.declared.table.KeyedTable.TheVariants.{Cons, Lots, Seats, Gone, Totals, Past}
use Rattle.tally_store_open.proofs.JudgingLemmas.{look_as, look_then, shows_before, tables_still}
use Rattle.tally_store_schema.proofs.StaysLemmas.{clean_first}
use Rattle.tally_store_open.proofs.judging.read_rows.Goals as goal

pub returns-in_err-cons-clause-reads : goal.returns-in_err-cons-clause-reads
returns-in_err-cons-clause-reads g c =
    let failed = look_then g.S.Store c.args.tx.now c.read_two.new.tx c.read_two-2.new.tx _ _ c.in_ok-returns.ensures.reads c.in_err-cons.ensures.reads in
    search (rules, failed)

pub returns-in_err-lots-clause-reads : goal.returns-in_err-lots-clause-reads
returns-in_err-lots-clause-reads g c =
    let two = look_then g.S.Store c.args.tx.now c.read_two.new.tx c.read_two-2.new.tx _ _ c.in_ok-returns.ensures.reads c.in_ok-cons.ensures.reads in
    let failed = look_then g.S.Store c.args.tx.now c.read_two-2.new.tx c.read_two-3.new.tx _ _ two c.in_err-lots.ensures.reads in
    search (rules, failed)

pub returns-in_err-gone-clause-reads : goal.returns-in_err-gone-clause-reads
returns-in_err-gone-clause-reads g c =
    let two = look_then g.S.Store c.args.tx.now c.read_two.new.tx c.read_two-2.new.tx _ _ c.in_ok-returns.ensures.reads c.in_ok-cons.ensures.reads in
    let three = look_then g.S.Store c.args.tx.now c.read_two-2.new.tx c.read_two-3.new.tx _ _ two c.in_ok-lots.ensures.reads in
    let failed = look_then g.S.Store c.args.tx.now c.read_two-3.new.tx c.read_two-4.new.tx _ _ three c.in_err-gone.ensures.reads in
    search (rules, failed)

pub returns-clause-reads : goal.returns-clause-reads
returns-clause-reads g c =
    let two = look_then g.S.Store c.args.tx.now c.read_two.new.tx c.read_two-2.new.tx _ _ c.in_ok-returns.ensures.reads c.in_ok-cons.ensures.reads in
    let three = look_then g.S.Store c.args.tx.now c.read_two-2.new.tx c.read_two-3.new.tx _ _ two c.in_ok-lots.ensures.reads in
    look_as g.S.Store c.args.tx.now c.read_two-4.new.tx _ _ (look_then g.S.Store c.args.tx.now c.read_two-3.new.tx c.read_two-4.new.tx _ _ three c.in_ok-gone.ensures.reads)

pub returns-clause-shown : goal.returns-clause-shown
returns-clause-shown g c clean has =
    let old = state g.S.Store c.args.tx.now.conn.now in
    let first = state g.S.Store c.read_two.new.tx.conn.now in
    let second = state g.S.Store c.read_two-2.new.tx.conn.now in
    let third = state g.S.Store c.read_two-3.new.tx.conn.now in
    let two = look_then g.S.Store c.args.tx.now c.read_two.new.tx c.read_two-2.new.tx _ _ c.in_ok-returns.ensures.reads c.in_ok-cons.ensures.reads in
    let three = look_then g.S.Store c.args.tx.now c.read_two-2.new.tx c.read_two-3.new.tx _ _ two c.in_ok-lots.ensures.reads in
    let early_third : HasCleanDisk third = clean_first c.read_two-4.ensures.reads.stays.survives clean in
    let early_second : HasCleanDisk second = clean_first c.read_two-3.ensures.reads.stays.survives early_third in
    let early_first : HasCleanDisk first = clean_first c.read_two-2.ensures.reads.stays.survives early_second in
    let same_first : IsUnchanged old first = c.in_ok-returns.ensures.reads.same early_first has in
    let same_second : IsUnchanged old second = two.same early_second has in
    let same_third : IsUnchanged old third = three.same early_third has in
    let has_first : HasTables first = tables_still old first has same_first in
    let has_second : HasTables second = tables_still old second has same_second in
    let has_third : HasTables third = tables_still old third has same_third in
    record {
      returns = c.in_ok-returns.ensures.first early_first has;
      counts = c.in_ok-returns.ensures.second early_first has;
      cons = shows_before Cons old first _ same_first (c.in_ok-cons.ensures.first early_second has_first);
      totals = shows_before Totals old first _ same_first (c.in_ok-cons.ensures.second early_second has_first);
      lots = shows_before Lots old second _ same_second (c.in_ok-lots.ensures.first early_third has_second);
      seats = shows_before Seats old second _ same_second (c.in_ok-lots.ensures.second early_third has_second);
      gone = shows_before Gone old third _ same_third (c.in_ok-gone.ensures.first clean has_third);
      past = shows_before Past old third _ same_third (c.in_ok-gone.ensures.second clean has_third);
    }
