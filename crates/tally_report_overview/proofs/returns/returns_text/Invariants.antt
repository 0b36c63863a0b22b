use Rattle.std.proofs.Common.{◌∷◌, take}
use Rattle.std.specs.List.{flat_map}
use Rattle.tally_report_overview.specs.ReturnsText.{returns_text}
use Rattle.tally_report_overview.specs.internal.Writing.{HasWritten}
use Rattle.tally_report_overview.proofs.returns.returns_text.Given as goal

abbrev pub invariant-loop-row : goal.invariant-loop-row
invariant-loop-row l = HasWritten l.writer (returns_text l.con (take l.row-index l.rows))
