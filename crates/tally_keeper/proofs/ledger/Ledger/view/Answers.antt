use Rattle.std.proofs.Common.{◌∙◌, ap}
use Rattle.std.specs.Prelude.{option_map}
use Rattle.tally_setup.specs.Setup.{constituency_with}
use Rattle.tally_keeper.specs.Kept.{Kept, view_in}
use Rattle.tally_keeper.specs.internal.Rows.{returns_of, views_of}
use Rattle.tally_keeper.proofs.ChangeLemmas.{view-is}
use Rattle.tally_keeper.proofs.ledger.Ledger.view.Goals as goal

pub returns : goal.returns
returns c =
    c.view_at.ensures ∙ view-is c.self.inside.setup (returns_of c.self.inside.returns) (views_of c.self.inside.views) c.args.con c.self.invariant
    ∙ ap (λ (k : Kept). option_map (view_in k) (constituency_with c.args.con k.setup)) c.self.view_is
