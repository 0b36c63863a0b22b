use Rattle.std.proofs.Common.{◌≡◌, ap, false, inl, inr, refl, rules, subst}
use Rattle.std.proofs.lemmas.Result.{IfOk-at_ok, IfOk-weaker}
use Rattle.sqlite.specs.State.{IsUnchanged}
use Rattle.sqlite.specs.Held.{state}
use Rattle.tally_returns.specs.State.{State}
use Rattle.tally_store_commands.specs.internal.Known.{AreKnown, known_of}
use Rattle.tally_machine_law.specs.Kinds.{IsReplyTo}
use Rattle.tally_machine_law.specs.Runs.{is_act}
use Rattle.tally_machine_law.specs.Step.{IsAnswered}
use Rattle.tally_store.specs.internal.Requests.{EndsTransaction}
use Rattle.tally_store.proofs.EndLemmas.{Asked, answer_is, done, ends_answered, ends_request, forgets, knows, shut, unwritten}
use Rattle.tally_store.proofs.requests.answer_request.Given.{Over}
use Rattle.tally_store.proofs.requests.answer_request.Goals as goal

asked : (g : Over) (c : goal.After-answer_after g)
    → Asked {P = Unit {0}} c.args.setup.now c.args.ask.now (λ _ r. r) (known_of c.args.known.now) (known_of c.answer_in-got.new.known) (known_of c.end_request-ended.new.known)
    (state g.S.Store c.args.conn.now) (state g.S.Store c.transaction-tx.result.conn.now) (state g.S.Store c.answer_in-got.new.tx.conn.now) (state g.S.Store c.answer_after.new.conn) c.answer_in-got.result c.answer_after.result
asked g c =
    let ensured = c.answer_in-got.ensures in
    let same : c.end_request-ended.new.tx.0 ≡ c.conn-1.given.0 = search rules in
    record {
      office = c.requires.office;
      known = c.requires.known;
      begun = ap (state g.S.Store) c.transaction-tx.ensures.begun;
      was_open = ensured.stays.was_open;
      kept = ensured.stays.kept;
      survives = ensured.stays.survives;
      answered_open = ensured.answers.answered_open;
      carried = λ clean inside. IfOk-weaker c.answer_in-got.result _ _ (λ r carried text s lawful known tables. (tt, carried text s lawful known tables)) (ensured.answers.step clean inside);
      ends = ends_answered g.S.Store c.answer_in-got.result (known_of c.answer_in-got.new.known) (known_of c.end_request-ended.new.known) (state g.S.Store c.answer_in-got.new.tx.conn.now) c.conn-1.given.0 c.answer_after.new.conn c.end_request-ended.result c.answer_after.result
          (subst (λ (h : _). EndsTransaction c.answer_in-got.result (known_of c.answer_in-got.new.known) (known_of c.end_request-ended.new.known) (state g.S.Store c.answer_in-got.new.tx.conn.now) (state g.S.Store h) c.end_request-ended.result) same c.end_request-ended.ensures) c.answer_after.ensures;
    }

pub returns-clause-ends : goal.returns-clause-ends
returns-clause-ends g c = ends_request (asked g c)

pub returns-clause-kind : goal.returns-clause-kind
returns-clause-kind g c = answer_is (asked g c) (IsReplyTo c.args.setup.now c.args.ask.now) c.answer_in-got.ensures.answers.kind

pub returns-clause-done : goal.returns-clause-done
returns-clause-done g c clean now text s lawful has = (done (asked g c) tt (λ e. refl) clean now text s lawful has).1

pub returns-clause-known : goal.returns-clause-known
returns-clause-known g c clean =
    let setup = c.args.setup.now in
    let ask = c.args.ask.now in
    elim (knows (asked g c) (λ known r text s. (t : State) → IsAnswered setup s ask r t → AreKnown setup t.returns known) (λ clean inside.
    IfOk-weaker c.answer_in-got.result _ _ (λ r keeps text s lawful known tables t. keeps text s t lawful known tables) (c.answer_in-got.ensures.answers.known clean inside)) clean) [
      | inl nothing ↦ inl nothing
      | inr ensured ↦ inr (ensured.0, λ text s t lawful has. ensured.1 text s lawful has t)
    ]

pub returns-clause-shut : goal.returns-clause-shut
returns-clause-shut g c = shut (asked g c)

pub returns-clause-forgets : goal.returns-clause-forgets
returns-clause-forgets g c = forgets (asked g c) tt (λ e. refl) c.answer_in-got.ensures.answers.forgets

pub returns-clause-unwritten : goal.returns-clause-unwritten
returns-clause-unwritten g c acts =
    let bare = state g.S.Store c.transaction-tx.result.conn.now in
    let last = state g.S.Store c.answer_in-got.new.tx.conn.now in
    unwritten (asked g c) tt (λ e. refl) (λ db now may. g.met.S.Store.settled c.args.conn.now.store db now may) (λ is clean inside now.
    IfOk-at_ok (λ r. is_act r ≡ false → IsUnchanged bare last) is (c.answer_in-got.ensures.answers.unwritten clean (inside, now)) acts)
