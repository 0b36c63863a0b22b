use Rattle.std.proofs.Common.{subst}
use Rattle.sqlite.specs.Held.{state}
use Rattle.tally_keeper.specs.Keeper.{Happens, request}
use Rattle.tally_store_commands.specs.internal.Known.{known_of}
use Rattle.tally_store_schema.proofs.StaysLemmas.{clean_first}
use Rattle.tally_store.specs.Content.{content_of}
use Rattle.tally_store.specs.Crash.{LeavesAsBefore}
use Rattle.tally_store.specs.Store.{KeepsText, Stored}
use Rattle.tally_store.proofs.RequestLemmas.{Served, happens_after, keeps_text, served_after, shows_tables, stored_after}
use Rattle.tally_store.proofs.keeper.StoreKeeper.answer.Goals as goal

pub answer_request-requires-clause-known : goal.answer_request-requires-clause-known
answer_request-requires-clause-known g c = c.self.invariant.true_is

pub invariant_of-self : goal.invariant_of-self
invariant_of-self g c =
    let setup = c.self.inside.setup in
    let old = state g.S.Store c.self.inside.conn in
    let new = state g.S.Store c.answer_request.new.conn in
    let ensured = c.answer_request.ensures in
    let r = c.answer_request.result in
    let served : Served setup old new c.args.ask.now r = record { ended = ensured.ends.ended; codes = ensured.codes; clean = clean_first ensured.ends.crash; done = ensured.done; shut = ensured.shut; was_open = ensured.ends.was_open } in
    served_after setup old new c.args.ask.now r (known_of c.answer_request.new.known) c.a_constituency_has_a_view.ensures.lawful c.self.invariant.stored served ensured.known

pub returns-clause-step : goal.returns-clause-step
returns-clause-step g c clean =
    let setup = c.self.inside.setup in
    let old = state g.S.Store c.self.inside.conn in
    let new = state g.S.Store c.answer_request.new.conn in
    let ensured = c.answer_request.ensures in
    let r = c.answer_request.result in
    let served : Served setup old new c.args.ask.now r = record { ended = ensured.ends.ended; codes = ensured.codes; clean = clean_first ensured.ends.crash; done = ensured.done; shut = ensured.shut; was_open = ensured.ends.was_open } in
    subst (λ (h : Stored _). Happens h.setup (content_of h.setup (state g.S.Store h.conn)) (request c.args.ask.now r) (content_of setup new)) c.self.view_is
    (happens_after setup old new c.args.ask.now r c.a_constituency_has_a_view.ensures.lawful c.self.invariant.stored served clean)

pub returns-clause-tables : goal.returns-clause-tables
returns-clause-tables g c clean =
    let setup = c.self.inside.setup in
    let old = state g.S.Store c.self.inside.conn in
    let new = state g.S.Store c.answer_request.new.conn in
    let ensured = c.answer_request.ensures in
    let r = c.answer_request.result in
    let served : Served setup old new c.args.ask.now r = record { ended = ensured.ends.ended; codes = ensured.codes; clean = clean_first ensured.ends.crash; done = ensured.done; shut = ensured.shut; was_open = ensured.ends.was_open } in
    shows_tables setup new c.a_constituency_has_a_view.ensures.lawful (stored_after setup old new c.args.ask.now r c.self.invariant.stored served) clean

pub returns-clause-text : goal.returns-clause-text
returns-clause-text g c clean now =
    let setup = c.self.inside.setup in
    let old = state g.S.Store c.self.inside.conn in
    let new = state g.S.Store c.answer_request.new.conn in
    subst (λ (h : Stored _). KeepsText h.setup (state g.S.Store h.conn) new) c.self.view_is
    (keeps_text setup old new c.args.ask.now c.answer_request.result c.answer_request.ensures.done clean now)

pub returns-clause-unwritten : goal.returns-clause-unwritten
returns-clause-unwritten g c acts =
    subst (λ (h : Stored _). LeavesAsBefore (state g.S.Store h.conn) (state g.S.Store c.answer_request.new.conn) c.answer_request.result) c.self.view_is (c.answer_request.ensures.unwritten acts)
