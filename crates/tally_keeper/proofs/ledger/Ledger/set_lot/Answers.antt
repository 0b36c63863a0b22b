use Rattle.std.proofs.Common.{◌<◌, ◌+◌, ◌^◌, ◌∙◌, sym, ap, subst}
use Rattle.std.specs.Prelude.{IsSome}
use Rattle.tally_setup.specs.Setup.{constituency_with}
use Rattle.tally_machine_law.specs.Step.{lot_set}
use Rattle.tally_returns.specs.State.{con_state}
use Rattle.tally_keeper.specs.Kept.{Kept, state_in, with_change}
use Rattle.tally_keeper.specs.internal.Rows.{IsTallied, returns_of, views_of}
use Rattle.tally_keeper.proofs.ChangeLemmas.{edition-room, kept, lot-kept, lot-seen, tallied-changed, with_lot}
use Rattle.tally_keeper.proofs.ledger.Ledger.set_lot.Goals as goal

pub set_lot-requires : goal.set_lot-requires
set_lot-requires c =
    edition-room (returns_of c.self.inside.returns) (views_of c.self.inside.views) c.args.con
    (subst (λ (k : Kept). (con_state (state_in k) c.args.con).edition + 1 < 2 ^ 32) (sym c.self.view_is) c.requires.edition)

pub invariant_of-self : goal.invariant_of-self
invariant_of-self c =
    let setup = c.self.inside.setup in
    let returns = returns_of c.self.inside.returns in
    subst (IsTallied setup returns) (sym c.set_lot.ensures)
    (tallied-changed setup returns (views_of c.self.inside.views) c.args.con (with_lot c.args.lot.items) c.self.invariant (λ view there. lot-seen (returns_of c.self.inside.returns) c.args.lot.items view))

pub returns : goal.returns
returns c =
    let setup = c.self.inside.setup in
    let returns = returns_of c.self.inside.returns in
    let known = subst (λ (k : Kept). IsSome (constituency_with c.args.con k.setup)) (sym c.self.view_is) c.requires.known in
    ap (kept setup returns) c.set_lot.ensures ∙ lot-kept setup returns (views_of c.self.inside.views) c.args.con c.args.lot.items c.self.invariant known
    ∙ ap (λ (k : Kept). with_change k c.args.con (lot_set c.args.lot.items)) c.self.view_is
