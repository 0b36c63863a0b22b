use Rattle.std.proofs.Common.{◌∙◌, ap}
use Rattle.serde_json.specs.View.{view as data_value}
use Rattle.serde_json.specs.Written.{has_float}
use Rattle.tally_report_result.proofs.NumberLemmas.{result_free}
use Rattle.tally_report_result.proofs.result.result_text.Goals as goal

pub returns-clause-text : goal.returns-clause-text
returns-clause-text c lawful =
    let is = c.in_ok-value.ensures.value lawful in
    (data_value c.in_ok-value.value, is, c.in_ok-to_string.ensures.text (ap has_float is.2 ∙ result_free c.args.con.now c.args.view.now is.0))
