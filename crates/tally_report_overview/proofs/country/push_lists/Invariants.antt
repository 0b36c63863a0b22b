use Rattle.std.proofs.Common.{◌≡◌, ◌++◌, List, drop, string_bytes}
use Rattle.std.specs.BTreeMap.{get}
use Rattle.tally_setup.specs.Code.{code_cmp}
use Rattle.tally_setup.specs.Constituency.{ListEntry}
use Rattle.tally_report_overview.specs.internal.Totals.{lines_left}
use Rattle.tally_report_overview.proofs.country.push_lists.Given as goal

abbrev pub invariant-loop-list : goal.invariant-loop-list
invariant-loop-list l =
    (rest : List ListEntry)
    → string_bytes l.text ++ lines_left (get code_cmp l.totals) (drop l.list-index l.lists ++ rest)
    ≡ string_bytes l.fn.text ++ lines_left (get code_cmp l.fn.totals) (l.lists ++ rest)
