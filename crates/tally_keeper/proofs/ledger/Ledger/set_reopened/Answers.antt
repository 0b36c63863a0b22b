use Rattle.std.proofs.Common.{◌<◌, ◌+◌, ◌^◌, ◌∙◌, string_bytes, Result, Ok, Err, sym, ap, subst}
use Rattle.std.specs.Prelude.{IsSome, OnErr, OnOk}
use Rattle.tally_setup.specs.Setup.{constituency_with}
use Rattle.tally_machine_law.specs.Step.{open_again}
use Rattle.tally_returns.specs.State.{con_state}
use Rattle.tally_keeper.specs.Kept.{AreEarlier, Kept, state_in, with_change}
use Rattle.tally_keeper.specs.internal.Rows.{IsTallied, returns_of, views_of, with_reopening}
use Rattle.tally_keeper.proofs.ChangeLemmas.{edition-room, held-earlier, kept, reopening-kept, reopening-seen, tallied-changed}
use Rattle.tally_keeper.proofs.ledger.Ledger.set_reopened.Goals as goal

by_result : {X E A B C : Type 0} (r : Result X E) → OnOk r A → OnErr r B → (A → C) → (B → C) → C
by_result (Ok x) ok err f g = f ok
by_result (Err e) ok err f g = g err

on_ok : {X E A B : Type 0} (r : Result X E) → OnOk r A → (A → B) → OnOk r B
on_ok (Ok x) ok f = f ok
on_ok (Err e) ok f = tt

pub set_reopened-requires : goal.set_reopened-requires
set_reopened-requires c =
    edition-room (returns_of c.self.inside.returns) (views_of c.self.inside.views) c.args.con
    (subst (λ (k : Kept). (con_state (state_in k) c.args.con).edition + 1 < 2 ^ 32) (sym c.self.view_is) c.requires.edition)

pub invariant_of-self : goal.invariant_of-self
invariant_of-self c =
    let setup = c.self.inside.setup in
    let returns = returns_of c.self.inside.returns in
    let views = views_of c.self.inside.views in
    let later = subst (λ (k : Kept). AreEarlier (con_state (state_in k) c.args.con).past c.args.past.edition) (sym c.self.view_is) c.requires.later in
    by_result c.set_reopened.result c.set_reopened.ensures.reopened c.set_reopened.ensures.kept
    (λ reopened. subst (IsTallied setup returns) (sym reopened)
    (tallied-changed setup returns views c.args.con (with_reopening (string_bytes c.args.note) c.args.past) c.self.invariant
    (λ view there. reopening-seen returns (string_bytes c.args.note) c.args.past view (held-earlier setup returns views c.args.con c.args.past.edition c.self.invariant later view there))))
    (λ same. subst (IsTallied setup returns) (sym same) c.self.invariant)

pub returns-clause-reopened : goal.returns-clause-reopened
returns-clause-reopened c =
    let setup = c.self.inside.setup in
    let returns = returns_of c.self.inside.returns in
    let later = subst (λ (k : Kept). AreEarlier (con_state (state_in k) c.args.con).past c.args.past.edition) (sym c.self.view_is) c.requires.later in
    let known = subst (λ (k : Kept). IsSome (constituency_with c.args.con k.setup)) (sym c.self.view_is) c.requires.known in
    on_ok c.set_reopened.result c.set_reopened.ensures.reopened
    (λ reopened. ap (kept setup returns) reopened ∙ reopening-kept setup returns (views_of c.self.inside.views) c.args.con (string_bytes c.args.note) c.args.past c.self.invariant known later
    ∙ ap (λ (k : Kept). with_change k c.args.con (open_again (string_bytes c.args.note) c.args.past)) c.self.view_is)
