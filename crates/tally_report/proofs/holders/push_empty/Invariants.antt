use Rattle.std.proofs.Common.{◌≡◌, ◌++◌, string_bytes}
use Rattle.std.specs.List.{repeat}
use Rattle.tally_report.specs.HoldersText.{empty_line}
use Rattle.tally_report.proofs.holders.push_empty.Given as goal

abbrev pub invariant-loop : goal.invariant-loop
invariant-loop l = string_bytes l.text ≡ string_bytes l.fn.text ++ repeat l.counter (empty_line l.list)
