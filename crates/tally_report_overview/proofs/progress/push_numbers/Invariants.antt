use Rattle.std.proofs.Common.{◌≡◌, ◌++◌, take, string_bytes}
use Rattle.std.specs.List.{flat_map}
use Rattle.tally_report_lines.specs.Columns.{number}
use Rattle.tally_report_overview.proofs.progress.push_numbers.Given as goal

abbrev pub invariant-loop-n : goal.invariant-loop-n
invariant-loop-n l = string_bytes l.text ≡ string_bytes l.fn.text ++ flat_map (number l.width) (take l.n-index l.numbers)
