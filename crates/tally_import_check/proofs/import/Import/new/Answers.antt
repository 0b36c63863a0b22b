use Rattle.std.proofs.Common.{rules}
use Rattle.tally_import.proofs.TableLemmas.{Holds-empty}
use Rattle.tally_import_check.proofs.import.Import.new.Goals as goal

pub returns : goal.returns
returns c = record {
  few = c.requires;
  lists = search rules;
  table = Holds-empty c.new.result c.new.ensures.empty;
  count = c.new-2.ensures;
  totals = c.in_ok-no_totals.ensures;
  named = search rules;
}
