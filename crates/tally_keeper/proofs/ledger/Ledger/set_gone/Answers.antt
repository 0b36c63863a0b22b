use Rattle.std.proofs.Common.{◌≡◌, ◌∙◌, None, Result, Ok, Err, sym, ap, subst}
use Rattle.std.specs.Prelude.{IsSome, OnErr, OnOk}
use Rattle.std.specs.FinMap.{get}
use Rattle.tally_setup.specs.Setup.{constituency_with}
use Rattle.tally_machine_law.specs.Step.{gone_for_good}
use Rattle.tally_returns.specs.State.{con_state}
use Rattle.tally_keeper.specs.Kept.{Kept, state_in, with_change}
use Rattle.tally_keeper.specs.internal.Rows.{IsTallied, returns_of, views_of}
use Rattle.tally_keeper.proofs.GoneLemmas.{key_of}
use Rattle.tally_keeper.proofs.ChangeLemmas.{gone-kept, gone-seen, kept, one_gone, tallied-changed, was-here}
use Rattle.tally_keeper.proofs.ledger.Ledger.set_gone.Goals as goal

by_result : {X E A B C : Type 0} (r : Result X E) → OnOk r A → OnErr r B → (A → C) → (B → C) → C
by_result (Ok x) ok err f g = f ok
by_result (Err e) ok err f g = g err

on_ok : {X E A B : Type 0} (r : Result X E) → OnOk r A → (A → B) → OnOk r B
on_ok (Ok x) ok f = f ok
on_ok (Err e) ok f = tt

pub invariant_of-self : goal.invariant_of-self
invariant_of-self c =
    let setup = c.self.inside.setup in
    let returns = returns_of c.self.inside.returns in
    let views = views_of c.self.inside.views in
    let new = subst (λ (k : Kept). get (con_state (state_in k) c.args.con).gone (key_of c.args.gone) ≡ None) (sym c.self.view_is) c.requires.new in
    by_result c.set_gone.result c.set_gone.ensures.put c.set_gone.ensures.kept
    (λ put. subst (IsTallied setup returns) (sym put)
    (tallied-changed setup returns views c.args.con (one_gone c.args.gone) c.self.invariant (λ view there. gone-seen returns c.args.gone view (was-here returns views c.args.con c.args.gone new view there))))
    (λ same. subst (IsTallied setup returns) (sym same) c.self.invariant)

pub returns-clause-gone : goal.returns-clause-gone
returns-clause-gone c =
    let setup = c.self.inside.setup in
    let returns = returns_of c.self.inside.returns in
    let new = subst (λ (k : Kept). get (con_state (state_in k) c.args.con).gone (key_of c.args.gone) ≡ None) (sym c.self.view_is) c.requires.new in
    let known = subst (λ (k : Kept). IsSome (constituency_with c.args.con k.setup)) (sym c.self.view_is) c.requires.known in
    on_ok c.set_gone.result c.set_gone.ensures.put
    (λ put. ap (kept setup returns) put ∙ gone-kept setup returns (views_of c.self.inside.views) c.args.con c.args.gone c.self.invariant known new
    ∙ ap (λ (k : Kept). with_change k c.args.con (gone_for_good c.args.gone None)) c.self.view_is)
