use Rattle.std.proofs.Common.{string_bytes}
use Rattle.tally_office_commands.proofs.ResultLemmas.{as-lines}
use Rattle.tally_office_commands.proofs.results.line_of_results.Goals as goal

pub returns-in-Ok-clause-text : goal.returns-in-Ok-clause-text
returns-in-Ok-clause-text c = as-lines c.args.setup.now c.args.views.now c.ended.result (string_bytes c.in-Ok.text) c.in-Ok.ensures.text c.ended.ensures.text
