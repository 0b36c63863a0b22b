use Rattle.std.proofs.Common.{◌≡◌, [], OnOk, Some, ap, refl, rules, subst}
use Rattle.sqlite.specs.State.{IsUnchanged}
use Rattle.sqlite.specs.Held.{state}
use Rattle.tally_keeper.specs.Shown.{con_with}
use Rattle.tally_store_commands.specs.internal.Known.{AreKnown, known_of}
use Rattle.tally_returns.specs.View.{FitsView}
use Rattle.tally_returns.specs.declared.ask.Ask.TheVariants.{ShowCon}
use Rattle.tally_setup.specs.Constituency.{Constituency}
use Rattle.tally_setup.specs.Setup.{constituency_with}
use Rattle.tally_store.specs.internal.Requests.{EndsTransaction}
use Rattle.tally_store.proofs.EndLemmas.{Asked, answer_is, done, ends_answered, ends_request, forgets, knows, shut, unwritten}
use Rattle.tally_store.proofs.ShownLemmas.{shown_got}
use Rattle.tally_store.proofs.requests.show_request.Given.{Over}
use Rattle.tally_store.proofs.requests.show_request.Goals as goal

asked : (g : Over) (c : goal.After-answer_after g)
    → Asked c.args.setup.now (ShowCon c.args.con) con_with (known_of c.args.known.now) (known_of c.show_con_in-shown.new.known) (known_of c.end_request-ended.new.known)
    (state g.S.Store c.args.conn.now) (state g.S.Store c.transaction-tx.result.conn.now) (state g.S.Store c.show_con_in-shown.new.tx.conn.now) (state g.S.Store c.answer_after.new.conn) c.show_con_in-shown.result c.answer_after.result
asked g c =
    let setup = c.args.setup.now in
    let bare = state g.S.Store c.transaction-tx.result.conn.now in
    let last = state g.S.Store c.show_con_in-shown.new.tx.conn.now in
    let ensured = c.show_con_in-shown.ensures in
    let same : c.end_request-ended.new.tx.0 ≡ c.conn-1.given.0 = search rules in
    record {
      office = c.requires.office;
      known = c.requires.known;
      begun = ap (state g.S.Store) c.transaction-tx.ensures.begun;
      was_open = ensured.reads.stays.was_open;
      kept = ensured.reads.stays.kept;
      survives = ensured.reads.stays.survives;
      answered_open = ensured.reads.answered_open;
      carried = λ clean inside. shown_got setup c.args.con (known_of c.args.known.now) bare last c.show_con_in-shown.result (ensured.reads.same clean inside) inside (ensured.shown clean inside);
      ends = ends_answered g.S.Store c.show_con_in-shown.result (known_of c.show_con_in-shown.new.known) (known_of c.end_request-ended.new.known) last c.conn-1.given.0 c.answer_after.new.conn c.end_request-ended.result c.answer_after.result
          (subst (λ (h : _). EndsTransaction c.show_con_in-shown.result (known_of c.show_con_in-shown.new.known) (known_of c.end_request-ended.new.known) last (state g.S.Store h) c.end_request-ended.result) same c.end_request-ended.ensures) c.answer_after.ensures;
    }

pub returns-clause-ends : goal.returns-clause-ends
returns-clause-ends g c = ends_request (asked g c)

pub returns-clause-fits : goal.returns-clause-fits
returns-clause-fits g c = answer_is (asked g c) (λ view. (found : Constituency) → constituency_with c.args.con c.args.setup.now ≡ Some found → FitsView found view) c.show_con_in-shown.ensures.fits

pub returns-clause-bare : goal.returns-clause-bare
returns-clause-bare g c = answer_is (asked g c) (λ view. view.past ≡ []) c.show_con_in-shown.ensures.bare

pub returns-clause-done : goal.returns-clause-done
returns-clause-done g c = done (asked g c) [] (λ e. refl)

pub returns-clause-known : goal.returns-clause-known
returns-clause-known g c = knows (asked g c) (λ known r text s. AreKnown c.args.setup.now s.returns known) c.show_con_in-shown.ensures.known

pub returns-clause-shut : goal.returns-clause-shut
returns-clause-shut g c = shut (asked g c)

pub returns-clause-forgets : goal.returns-clause-forgets
returns-clause-forgets g c = forgets (asked g c) [] (λ e. refl) c.show_con_in-shown.ensures.forgets

pub returns-clause-unwritten : goal.returns-clause-unwritten
returns-clause-unwritten g c =
    let bare = state g.S.Store c.transaction-tx.result.conn.now in
    let last = state g.S.Store c.show_con_in-shown.new.tx.conn.now in
    unwritten (asked g c) [] (λ e. refl) (λ db now may. g.met.S.Store.settled c.args.conn.now.store db now may) (λ is clean inside now.
    subst (λ r. OnOk r (IsUnchanged bare last)) is (c.show_con_in-shown.ensures.reads.same clean inside))
