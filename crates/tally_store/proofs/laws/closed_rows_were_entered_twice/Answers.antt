use Rattle.std.proofs.Common.{subst, Some}
use Rattle.sqlite.specs.Held.{state}
use Rattle.tally_returns.specs.State.{opening}
use Rattle.tally_keeper.specs.Keeper.{HappensInTurn}
use Rattle.tally_keeper.proofs.EnteredTwiceLemmas.{happen-closed_twice}
use Rattle.tally_store.proofs.ContentLemmas.{content_is}
use Rattle.tally_store.proofs.EnteredTwiceLemmas.{rows-twice}
use Rattle.tally_store.proofs.laws.closed_rows_were_entered_twice.Goals as goal

pub returns : goal.returns
returns g c clean now events is =
    let setup = c.args.store.now.setup in
    let seen = state g.S.Store c.args.store.now.conn in
    let kept = c.stored_setup.ensures.kept in
    let office = kept.office clean now in
    let shown = content_is setup office.0 seen c.a_constituency_has_a_view.ensures.lawful kept.limits office.1 office.2 now in
    rows-twice setup office.0 seen events kept.limits office.1 office.2
    (happen-closed_twice setup office.0 events (subst (λ content. HappensInTurn setup (Some (opening setup)) events content) shown is))
