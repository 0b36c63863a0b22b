use Rattle.std.proofs.Common.{ap, ◌∙◌}
use Rattle.sqlite.specs.Effect.{Database}
use Rattle.sqlite.specs.Held.{state}
use Rattle.tally_store.proofs.ContentLemmas.{content_is}
use Rattle.tally_store.proofs.laws.a_crash_between_calls_leaves_the_last_commit.Goals as goal

pub returns : goal.returns
returns g c clean now =
    let setup = c.args.store.now.setup in
    let kept = c.stored_setup.ensures.kept in
    let office = kept.office clean now in
    record {
      state = office.0;
      content = content_is setup office.0 (state g.S.Store c.args.store.now.conn) c.a_constituency_has_a_view.ensures.lawful kept.limits office.1 office.2 now;
      lawful = office.1;
      office = office.2;
      crash = λ db may. g.met.S.Store.settled c.args.store.now.conn.store db now may ∙ ap (λ (d : Database). d.trees) office.2.has.settled;
    }
