use Rattle.std.proofs.Common.{◌∙◌, ap}
use Rattle.serde_json.specs.Written.{compact_text, has_float}
use Rattle.tally_report_result.specs.internal.Found.{data_of}
use Rattle.tally_report_result.proofs.NumberLemmas.{results_free}
use Rattle.tally_report_result.proofs.result.results_text.Goals as goal

pub returns-clause-text : goal.returns-clause-text
returns-clause-text c lawful =
    let values = data_of c.in_ok-values.values.items in
    let are = c.in_ok-values.ensures.values lawful in
    (values, are, c.in_ok-to_string.ensures.text (ap has_float c.from-all.ensures ∙ results_free c.args.cons.now c.args.views.now values are) ∙ ap compact_text c.from-all.ensures)
