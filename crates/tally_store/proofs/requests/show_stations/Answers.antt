use Rattle.std.proofs.Common.{◌≡◌, OnOk, ap, inl, inr, rules, subst}
use Rattle.sqlite.specs.State.{IsUnchanged}
use Rattle.sqlite.specs.Held.{state}
use Rattle.tally_keeper.specs.Shown.{IsReturnsRefusal}
use Rattle.tally_store_commands.specs.internal.Known.{AreKnown, known_of}
use Rattle.tally_store.specs.internal.Requests.{EndsTransaction}
use Rattle.tally_store.proofs.EndLemmas.{Ended, ends_answered, failed_shut, known_still, refusal_is, refused, refused_or_unwritten}
use Rattle.tally_store.proofs.StationLemmas.{IsShownStill, ends_look, known_got, looks, refused_got, shows_stations, stations_got}
use Rattle.tally_store.proofs.requests.show_stations.Given.{Over}
use Rattle.tally_store.proofs.requests.show_stations.Goals as goal

ended : (g : Over) (c : goal.After-answer_after g)
    → Ended c.args.setup.now (IsShownStill c.args.setup.now c.args.con (state g.S.Store c.show_returns_in-rows.new.tx.conn.now)) (known_of c.args.known.now) (known_of c.args.known.now) (known_of c.end_request-ended.new.known)
    (state g.S.Store c.args.conn.now) (state g.S.Store c.transaction-tx.result.conn.now) (state g.S.Store c.show_returns_in-rows.new.tx.conn.now) (state g.S.Store c.answer_after.new.conn) c.show_returns_in-rows.result c.answer_after.result
ended g c =
    let setup = c.args.setup.now in
    let bare = state g.S.Store c.transaction-tx.result.conn.now in
    let last = state g.S.Store c.show_returns_in-rows.new.tx.conn.now in
    let ensured = c.show_returns_in-rows.ensures in
    let same : c.end_request-ended.new.tx.0 ≡ c.conn-1.given.0 = search rules in
    record {
      office = c.requires.office;
      known = c.requires.known;
      begun = ap (state g.S.Store) c.transaction-tx.ensures.begun;
      was_open = ensured.reads.stays.was_open;
      kept = ensured.reads.stays.kept;
      survives = ensured.reads.stays.survives;
      answered_open = ensured.reads.answered_open;
      so = λ clean inside. stations_got setup c.args.con (known_of c.args.known.now) bare last c.show_returns_in-rows.result (ensured.reads.same clean inside) inside (ensured.shown clean inside);
      inside = λ y text s so. so.1.inside.inside;
      ends = ends_answered g.S.Store c.show_returns_in-rows.result (known_of c.args.known.now) (known_of c.end_request-ended.new.known) last c.conn-1.given.0 c.answer_after.new.conn c.end_request-ended.result c.answer_after.result
          (subst (λ (h : _). EndsTransaction c.show_returns_in-rows.result (known_of c.args.known.now) (known_of c.end_request-ended.new.known) last (state g.S.Store h) c.end_request-ended.result) same c.end_request-ended.ensures) c.answer_after.ensures;
    }

pub returns-clause-ends : goal.returns-clause-ends
returns-clause-ends g c = ends_look c.args.con (ended g c) c.show_returns_in-rows.ensures.reads.same

pub returns-clause-refused : goal.returns-clause-refused
returns-clause-refused g c = refusal_is (ended g c) (IsReturnsRefusal c.args.setup.now c.args.con) (λ why own. inr own) (refused_got c.args.setup.now c.args.con c.show_returns_in-rows.result c.show_returns_in-rows.ensures.refused)

pub returns-clause-done : goal.returns-clause-done
returns-clause-done g c = shows_stations c.args.con (ended g c)

pub returns-clause-known : goal.returns-clause-known
returns-clause-known g c = known_still (ended g c) (λ known r text s. AreKnown c.args.setup.now s.returns known) (λ clean inside. known_got c.args.setup.now (known_of c.args.known.now) (state g.S.Store c.transaction-tx.result.conn.now) c.show_returns_in-rows.result)

pub returns-clause-shut : goal.returns-clause-shut
returns-clause-shut g c = failed_shut (ended g c)

pub returns-clause-forgets : goal.returns-clause-forgets
returns-clause-forgets g c = elim (ended g c).ends.how [
  | inl it ↦ inr it.known
  | inr up ↦ inl (refused (ended g c) up)
]

pub returns-clause-unwritten : goal.returns-clause-unwritten
returns-clause-unwritten g c =
    let bare = state g.S.Store c.transaction-tx.result.conn.now in
    let last = state g.S.Store c.show_returns_in-rows.new.tx.conn.now in
    looks (state g.S.Store c.args.conn.now) (state g.S.Store c.answer_after.new.conn) c.answer_after.result
    (refused_or_unwritten (ended g c) (λ db now may. g.met.S.Store.settled c.args.conn.now.store db now may) (λ is clean inside now.
    subst (λ r. OnOk r (IsUnchanged bare last)) is (c.show_returns_in-rows.ensures.reads.same clean inside)))
