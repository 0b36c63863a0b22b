use Rattle.std.proofs.Common.{Ok}
use Rattle.sqlite.specs.State.{HasCleanDisk, IsUnchanged}
use Rattle.sqlite.specs.Held.{state}
use Rattle.tally_store_schema.specs.declared.table.KeyedTable.TheVariants.{Seats, Gone, Totals, Past}
use Rattle.tally_store_entries.proofs.FindLemmas.{inside_still, found_before}
use Rattle.tally_store_schema.proofs.StaysLemmas.{clean_first}
use Rattle.tally_store_entries.proofs.LookLemmas.{found_if_before, look_as, look_fails, look_then}
use Rattle.tally_store_entries.proofs.views.rows_of_con.Goals as goal

pub returns-in_err-cons-clause-reads : goal.returns-in_err-cons-clause-reads
returns-in_err-cons-clause-reads g c = look_fails g.S.Store c.args.tx.now c.rows_of_two.new.tx _ c.from_residual.ensures.0 c.rows_of_two.ensures.reads.stays

pub returns-in_err-seats-clause-reads : goal.returns-in_err-seats-clause-reads
returns-in_err-seats-clause-reads g c =
    let two = look_then g.S.Store c.args.tx.now c.rows_of_two.new.tx c.rows_of_two-2.new.tx (c.in_ok-cons.cons, c.in_ok-cons.lots) c.rows_of_two-2.result c.in_ok-cons.ensures.reads c.rows_of_two-2.ensures.reads in
    look_fails g.S.Store c.args.tx.now c.rows_of_two-2.new.tx _ c.from_residual-in_err-seats.ensures.0 two.stays

pub returns-in_err-totals-clause-reads : goal.returns-in_err-totals-clause-reads
returns-in_err-totals-clause-reads g c =
    let two = look_then g.S.Store c.args.tx.now c.rows_of_two.new.tx c.rows_of_two-2.new.tx (c.in_ok-cons.cons, c.in_ok-cons.lots) (Ok (c.in_ok-seats.seats, c.in_ok-seats.gone)) c.in_ok-cons.ensures.reads c.in_ok-seats.ensures.reads in
    let all = look_then g.S.Store c.args.tx.now c.rows_of_two-2.new.tx c.rows_of_two-3.new.tx (c.in_ok-seats.seats, c.in_ok-seats.gone) c.rows_of_two-3.result two c.rows_of_two-3.ensures.reads in
    look_fails g.S.Store c.args.tx.now c.rows_of_two-3.new.tx _ c.from_residual-in_err-totals.ensures.0 all.stays

pub returns-clause-reads : goal.returns-clause-reads
returns-clause-reads g c =
    let two = look_then g.S.Store c.args.tx.now c.rows_of_two.new.tx c.rows_of_two-2.new.tx (c.in_ok-cons.cons, c.in_ok-cons.lots) (Ok (c.in_ok-seats.seats, c.in_ok-seats.gone)) c.in_ok-cons.ensures.reads c.in_ok-seats.ensures.reads in
    look_as g.S.Store c.args.tx.now c.rows_of_two-3.new.tx _ _ (look_then g.S.Store c.args.tx.now c.rows_of_two-2.new.tx c.rows_of_two-3.new.tx (c.in_ok-seats.seats, c.in_ok-seats.gone) (Ok (c.in_ok-totals.totals, c.in_ok-totals.past)) two c.in_ok-totals.ensures.reads)

pub returns-clause-found : goal.returns-clause-found
returns-clause-found g c clean inside =
    let con = c.args.con.now in
    let old = state g.S.Store c.args.tx.now.conn.now in
    let first = state g.S.Store c.rows_of_two.new.tx.conn.now in
    let second = state g.S.Store c.rows_of_two-2.new.tx.conn.now in
    let two = look_then g.S.Store c.args.tx.now c.rows_of_two.new.tx c.rows_of_two-2.new.tx (c.in_ok-cons.cons, c.in_ok-cons.lots) (Ok (c.in_ok-seats.seats, c.in_ok-seats.gone)) c.in_ok-cons.ensures.reads c.in_ok-seats.ensures.reads in
    let clean_second : HasCleanDisk second = clean_first c.rows_of_two-3.ensures.reads.stays.survives clean in
    let clean_at_first : HasCleanDisk first = clean_first c.rows_of_two-2.ensures.reads.stays.survives clean_second in
    let same_first : IsUnchanged old first = c.in_ok-cons.ensures.reads.same clean_at_first inside in
    let same_second : IsUnchanged old second = two.same clean_second inside in
    let seats = c.in_ok-seats.ensures.found clean_second (inside_still old first same_first inside) in
    let totals = c.in_ok-totals.ensures.found clean (inside_still old second same_second inside) in
    record {
      cons = (c.in_ok-cons.ensures.found clean_at_first inside).0;
      lots = (c.in_ok-cons.ensures.found clean_at_first inside).1;
      seats = found_before Seats con old first _ same_first seats.0;
      gone = found_before Gone con old first _ same_first seats.1;
      totals = found_before Totals con old second _ same_second totals.0;
      past = found_if_before c.args.with_past Past con old second _ same_second totals.1;
    }
