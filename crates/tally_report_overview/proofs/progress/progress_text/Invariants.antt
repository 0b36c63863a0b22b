use Rattle.std.proofs.Common.{◌≡◌, take, string_bytes}
use Rattle.tally_report_overview.specs.ProgressText.{progress_text}
use Rattle.tally_report_overview.proofs.progress.progress_text.Given as goal

abbrev pub invariant-loop-row : goal.invariant-loop-row
invariant-loop-row l = string_bytes l.text ≡ progress_text (take l.row-index l.rows)
