use Rattle.std.proofs.Common.{◌≡◌, ◌++◌, drop, string_bytes}
use Rattle.std.specs.BTreeMap.{get}
use Rattle.tally_setup.specs.Code.{code_cmp}
use Rattle.tally_report_overview.specs.CountryText.{all_lists}
use Rattle.tally_report_overview.specs.internal.Totals.{lines_left}
use Rattle.tally_report_overview.proofs.country.push_constituencies.Given as goal

abbrev pub invariant-loop-con : goal.invariant-loop-con
invariant-loop-con l =
    string_bytes l.text ++ lines_left (get code_cmp l.totals) (all_lists (drop l.con-index l.cons))
    ≡ string_bytes l.fn.text ++ lines_left (get code_cmp l.fn.totals) (all_lists l.cons)
