use Rattle.std.proofs.Common.{sym, string_bytes}
use Rattle.tally_office_commands.proofs.ResultLemmas.{as-line}
use Rattle.tally_office_commands.proofs.results.line_of_result.Goals as goal

pub result_text-requires : goal.result_text-requires
result_text-requires c = c.requires c.in-Some.con.now (sym c.in-Some.ensures.found)

pub returns-in-Ok-clause-text : goal.returns-in-Ok-clause-text
returns-in-Ok-clause-text c = as-line c.args.setup.now c.args.code c.in-Some.con.now c.args.view.now c.ended.result (string_bytes c.in-Ok.text) (sym c.in-Some.ensures.found) c.in-Ok.ensures.text c.ended.ensures.text
