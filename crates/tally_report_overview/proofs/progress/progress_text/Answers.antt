use Rattle.std.proofs.Common.{◌∙◌, [], string_bytes, ap}
use Rattle.std.proofs.lemmas.List.{take_all}
use Rattle.tally_report_overview.specs.ProgressText.{progress_line, progress_text}
use Rattle.tally_report.proofs.LineLemmas.{each_more}
use Rattle.tally_report_overview.proofs.progress.progress_text.Goals as goal

pub loop-row-preserved : goal.loop-row-preserved
loop-row-preserved c =
    each_more progress_line c.args.rows.now c.loop-row.row-index c.row-item.result [] (string_bytes c.loop-row.text) (string_bytes c.push_row.new.text)
    c.loop-row-test.true c.row-item.is c.loop-row.invariant c.in_ok-push_row.ensures

pub returns-clause-text : goal.returns-clause-text
returns-clause-text c = c.loop-row.invariant ∙ ap progress_text (take_all c.loop-row.row-index c.args.rows.now c.loop-row-test.false)
