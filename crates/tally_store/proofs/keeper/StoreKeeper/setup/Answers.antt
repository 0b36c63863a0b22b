use Rattle.std.proofs.Common.{IfSome, subst}
use Rattle.sqlite.specs.State.{HasCleanDisk}
use Rattle.sqlite.specs.Held.{state}
use Rattle.tally_machine_law.specs.LawfulState.{IsLawfulState}
use Rattle.tally_store.specs.Content.{content_of}
use Rattle.tally_store.specs.Store.{Stored}
use Rattle.tally_store.proofs.RequestLemmas.{shows_lawful}
use Rattle.tally_store.proofs.keeper.StoreKeeper.setup.Goals as goal

pub returns-clause-lawful : goal.returns-clause-lawful
returns-clause-lawful g c =
    let setup = c.self.inside.setup in
    let seen = state g.S.Store c.self.inside.conn in
    subst (λ (h : Stored _). HasCleanDisk (state g.S.Store h.conn) → IfSome (content_of h.setup (state g.S.Store h.conn)) (IsLawfulState h.setup)) c.self.view_is
    (λ clean. shows_lawful setup seen c.a_constituency_has_a_view.ensures.lawful c.self.invariant.stored clean)
