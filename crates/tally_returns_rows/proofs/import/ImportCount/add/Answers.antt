use Rattle.std.proofs.Common.{sym, subst}
use Rattle.tally_returns_rows.specs.Import.{IsBelow}
use Rattle.tally_returns_rows.proofs.ImportLemmas.{count_of-below, push_is}
use Rattle.tally_returns_rows.proofs.import.ImportCount.add.Goals as goal

pub add_row-requires : goal.add_row-requires
add_row-requires g c = record {
  below = subst (λ count. IsBelow count c.args.row) (sym c.requires.0) (count_of-below g.answered c.args.row c.requires.1);
}

pub returns : goal.returns
returns g c = push_is c.args.self.now c.add_row.new.self g.answered c.args.answer c.args.row c.requires.0 c.requires.1 c.add_row.ensures
