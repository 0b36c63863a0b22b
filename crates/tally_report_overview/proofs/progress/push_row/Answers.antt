use Rattle.std.proofs.Common.{◌≡◌, ◌∙◌, ◌+◌, ◌-◌, ◌++◌, OnOk, string_bytes, ap, subst}
use Rattle.std.specs.Prelude.{codes, if◌then◌else◌}
use Rattle.tally_report_lines.specs.Columns.{code_width, left_cell, line_end, number}
use Rattle.tally_report_overview.proofs.ProgressLemmas.{columns_are}
use Rattle.tally_report_overview.proofs.progress.push_row.Goals as goal

pub returns : goal.returns
returns c =
    let old = string_bytes c.args.text.now in
    let row = c.args.row.now in
    let missing = row.stations - (row.received + row.queried + row.corrected + row.closed) in
    subst (λ t. OnOk c.push_state.result (string_bytes c.push_state.new.text ≡ t))
    (columns_are (number 7) old (left_cell code_width row.con) (codes " ") (if row.certified then codes "certified" else codes "open") line_end
    (string_bytes c.push_left.new.text) (string_bytes c.push_numbers.new.text) row.stations missing row.received row.queried row.corrected row.closed row.edition c.numbers_of.result
    (c.in_ok-push_left.ensures ∙ ap (λ code. old ++ left_cell code_width code) c.as_str.ensures.text) c.in_ok-push_numbers.ensures c.numbers_of.ensures)
    c.push_state.ensures
