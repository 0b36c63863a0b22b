use Rattle.std.proofs.Common.{◌≡◌, ◌∙◌, OnOk, Some, sym, ap, subst}
use Rattle.tally_returns_rows.specs.Delivery.{delivery}
use Rattle.tally_keeper.specs.Keeper.{Tries}
use Rattle.tally_keeper.specs.Held.{Held}
use Rattle.tally_keeper.specs.Kept.{state_in}
use Rattle.tally_returns_rows.specs.NamedRows.{NamesRows}
use Rattle.tally_keeper.specs.internal.Held.{IsHeld, returns_without}
use Rattle.tally_keeper.proofs.TakenLemmas.{trial-tries, trial-undone}
use Rattle.tally_core.proofs.book.BookKeeper.trial_from.Goals as goal

pub invariant_of-self : goal.invariant_of-self
invariant_of-self g c =
    let old = c.self.inside.ledger in
    let mid = c.take_source-outcome.new.ledger in
    let lodged = c.deref.result.now in
    let undone : returns_without lodged mid.returns ≡ old.returns =
    ap (λ l. returns_without l mid.returns) c.deref.ensures.value ∙ c.take_source-outcome.ensures.undone ∙ ap (λ l. returns_without l old.returns) c.new-lodged.ensures.items in
    subst IsHeld (sym (trial-undone old mid c.take_out.new.ledger lodged c.take_source-outcome.ensures.kept undone c.take_out.ensures)) c.self.invariant

pub returns-clause-tried : goal.returns-clause-tried
returns-clause-tried g c sure =
    let old = c.self.inside.ledger in
    let mid = c.take_source-outcome.new.ledger in
    let new = c.take_out.new.ledger in
    let lodged = c.deref.result.now in
    let undone : returns_without lodged mid.returns ≡ old.returns =
    ap (λ l. returns_without l mid.returns) c.deref.ensures.value ∙ c.take_source-outcome.ensures.undone ∙ ap (λ l. returns_without l old.returns) c.new-lodged.ensures.items in
    let same : new ≡ old = trial-undone old mid new lodged c.take_source-outcome.ensures.kept undone c.take_out.ensures in
    let d = delivery g.R.RowSource c.args.rows.now c.take_source-outcome.new.source in
    let r = c.take_source-outcome.result in
    subst (λ (b : Held). Tries b.setup (Some b.state) d r (Some (state_in new))) c.self.view_is
    (subst (λ s. Tries old.setup (Some (state_in old)) d r (Some s)) (ap state_in (sym same))
    (trial-tries old.setup (state_in old) (state_in mid) d r c.take_source-outcome.ensures.imported c.take_source-outcome.ensures.fault))

pub returns-clause-named : goal.returns-clause-named
returns-clause-named g c sure =
    let d = delivery g.R.RowSource c.args.rows.now c.take_source-outcome.new.source in
    subst (λ (b : Held). OnOk c.take_source-outcome.result (NamesRows b.setup (Some b.state) d c.args.named.now.items c.take_source-outcome.new.named.items)) c.self.view_is
    c.take_source-outcome.ensures.named
