use Rattle.std.proofs.Common.{◌∙◌, sym, ap, subst}
use Rattle.std.specs.Prelude.{IsSome}
use Rattle.tally_setup.specs.Setup.{constituency_with}
use Rattle.tally_keeper.specs.Kept.{Kept, with_no_lot}
use Rattle.tally_keeper.specs.internal.Rows.{IsTallied, returns_of, views_of}
use Rattle.tally_keeper.proofs.ChangeLemmas.{kept, without-kept, without-seen, tallied-changed, without_lot}
use Rattle.tally_keeper.proofs.ledger.Ledger.drop_lot.Goals as goal

pub invariant_of-self : goal.invariant_of-self
invariant_of-self c =
    let setup = c.self.inside.setup in
    let returns = returns_of c.self.inside.returns in
    subst (IsTallied setup returns) (sym c.drop_lot.ensures)
    (tallied-changed setup returns (views_of c.self.inside.views) c.args.con without_lot c.self.invariant (λ view there. without-seen (returns_of c.self.inside.returns) view))

pub returns : goal.returns
returns c =
    let setup = c.self.inside.setup in
    let returns = returns_of c.self.inside.returns in
    let known = subst (λ (k : Kept). IsSome (constituency_with c.args.con k.setup)) (sym c.self.view_is) c.requires.known in
    ap (kept setup returns) c.drop_lot.ensures ∙ without-kept setup returns (views_of c.self.inside.views) c.args.con c.self.invariant known
    ∙ ap (λ (k : Kept). with_no_lot k c.args.con) c.self.view_is
