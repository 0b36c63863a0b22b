use Rattle.sqlite.specs.Held.{state}
use Rattle.tally_store.proofs.CertifiedLemmas.{has-certificates}
use Rattle.tally_store.proofs.ContentLemmas.{content_is}
use Rattle.tally_store.proofs.laws.certified_seats_are_the_allotment.Goals as goal

pub returns : goal.returns
returns g c clean now =
    let setup = c.args.store.now.setup in
    let seen = state g.S.Store c.args.store.now.conn in
    let kept = c.stored_setup.ensures.kept in
    let office = kept.office clean now in
    has-certificates setup office.0 seen c.a_certificate_is_of_closed_votes.ensures.each kept.limits office.1 office.2
    (content_is setup office.0 seen c.a_constituency_has_a_view.ensures.lawful kept.limits office.1 office.2 now)
