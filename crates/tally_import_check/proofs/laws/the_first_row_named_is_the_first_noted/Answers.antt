use Rattle.tally_import_check.proofs.NamedLemmas.{first-named}
use Rattle.tally_import_check.proofs.laws.the_first_row_named_is_the_first_noted.Goals as goal

pub returns : goal.returns
returns c stations held rows all = first-named stations held 1 rows all
