use Rattle.std.proofs.Common.{◌∙◌, sym, subst}
use Rattle.std.specs.FinMap.{empty, from_entries}
use Rattle.tally_keeper.specs.internal.Rows.{IsTallied, views_of}
use Rattle.tally_keeper.proofs.ChangeLemmas.{kept}
use Rattle.tally_keeper.proofs.OpeningLemmas.{opening-kept, opening-tallied}
use Rattle.tally_keeper.proofs.ledger.Ledger.new.Goals as goal

pub invariant_of-result : goal.invariant_of-result
invariant_of-result c =
    subst (λ es. IsTallied c.args.setup (from_entries es) (views_of c.in_ok-views.views)) (sym c.new.ensures.empty)
    (subst (IsTallied c.args.setup empty) (sym c.in_ok-views.ensures.views) (opening-tallied c.args.setup))

pub returns-clause-opening : goal.returns-clause-opening
returns-clause-opening c = (λ i. kept c.args.setup (from_entries (c.new.ensures.empty i)) (c.in_ok-views.ensures.views i)) ∙ opening-kept c.args.setup
