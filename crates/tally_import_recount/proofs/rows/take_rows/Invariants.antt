use Rattle.std.proofs.Common.{◌≡◌, ◌≤◌, List, length, None}
use Rattle.tally_frac.specs.Limits.{most_lists}
use Rattle.tally_returns_rows.specs.declared.import.Row.{Row}
use Rattle.tally_import.specs.ReturnRowsValue.{rows_to_come}
use Rattle.tally_import_recount.specs.internal.Register.{TakesRows}
use Rattle.tally_import_recount.proofs.RowsLemmas.{ComesInText}
use Rattle.tally_import_recount.proofs.rows.take_rows.Given as goal

abbrev pub invariant-loop-count : goal.invariant-loop-count
invariant-loop-count g l = record {
  con : l.rows.con ≡ l.fn.rows.con;
  sep : l.rows.sep ≡ l.fn.rows.sep;
  text : l.rows.text ≡ l.fn.rows.text;
  ended : l.rows.ended ≡ None;
  lists : l.register.lists ≤ most_lists;
  few : l.register.passed ≤ l.count;
  came : (before : List Row) × TakesRows l.fn.register before l.register × (length before ≡ l.count)
      × ComesInText l.fn.rows before (rows_to_come l.rows);
}
