use Rattle.std.proofs.Common.{[], subst}
use Rattle.sqlite.specs.Held.{state}
use Rattle.tally_keeper.specs.Shown.{AnswersShowCon, con_with}
use Rattle.tally_store_commands.specs.internal.Known.{known_of}
use Rattle.tally_store_schema.proofs.StaysLemmas.{clean_first}
use Rattle.tally_store.specs.Content.{content_of}
use Rattle.tally_store.specs.Crash.{LeavesAsBefore}
use Rattle.tally_store.specs.Store.{KeepsText, Stored}
use Rattle.tally_store.proofs.RequestLemmas.{shows_tables}
use Rattle.tally_store.proofs.ShownLemmas.{ServedView, keeps_text_shown, served_view, shows_after, stored_view}
use Rattle.tally_store.proofs.keeper.StoreKeeper.show_con.Goals as goal

pub show_request-requires-clause-known : goal.show_request-requires-clause-known
show_request-requires-clause-known g c = c.self.invariant.true_is

pub invariant_of-self : goal.invariant_of-self
invariant_of-self g c =
    let setup = c.self.inside.setup in
    let old = state g.S.Store c.self.inside.conn in
    let new = state g.S.Store c.show_request.new.conn in
    let ensured = c.show_request.ensures in
    let r = c.show_request.result in
    let served : ServedView setup old new c.args.con r = record { ended = ensured.ends.ended; clean = clean_first ensured.ends.crash; done = ensured.done; shut = ensured.shut; was_open = ensured.ends.was_open } in
    served_view setup old new c.args.con r (known_of c.show_request.new.known) c.a_constituency_has_a_view.ensures.lawful c.self.invariant.stored served ensured.known

pub returns-clause-shows : goal.returns-clause-shows
returns-clause-shows g c clean =
    let setup = c.self.inside.setup in
    let old = state g.S.Store c.self.inside.conn in
    let new = state g.S.Store c.show_request.new.conn in
    let ensured = c.show_request.ensures in
    let r = c.show_request.result in
    let served : ServedView setup old new c.args.con r = record { ended = ensured.ends.ended; clean = clean_first ensured.ends.crash; done = ensured.done; shut = ensured.shut; was_open = ensured.ends.was_open } in
    subst (λ (h : Stored _). AnswersShowCon h.setup (content_of h.setup (state g.S.Store h.conn)) c.args.con r (content_of setup new)) c.self.view_is
    (shows_after setup old new c.args.con r c.a_constituency_has_a_view.ensures.lawful c.self.invariant.stored served clean)

pub returns-clause-tables : goal.returns-clause-tables
returns-clause-tables g c clean =
    let setup = c.self.inside.setup in
    let old = state g.S.Store c.self.inside.conn in
    let new = state g.S.Store c.show_request.new.conn in
    let ensured = c.show_request.ensures in
    let r = c.show_request.result in
    let served : ServedView setup old new c.args.con r = record { ended = ensured.ends.ended; clean = clean_first ensured.ends.crash; done = ensured.done; shut = ensured.shut; was_open = ensured.ends.was_open } in
    shows_tables setup new c.a_constituency_has_a_view.ensures.lawful (stored_view setup old new c.args.con r c.self.invariant.stored served) clean

pub returns-clause-text : goal.returns-clause-text
returns-clause-text g c clean now =
    let setup = c.self.inside.setup in
    let old = state g.S.Store c.self.inside.conn in
    let new = state g.S.Store c.show_request.new.conn in
    subst (λ (h : Stored _). KeepsText h.setup (state g.S.Store h.conn) new) c.self.view_is
    (keeps_text_shown setup old new c.args.con c.show_request.result c.show_request.ensures.done clean now)

pub returns-clause-unwritten : goal.returns-clause-unwritten
returns-clause-unwritten g c =
    subst (λ (h : Stored _). LeavesAsBefore (state g.S.Store h.conn) (state g.S.Store c.show_request.new.conn) (con_with [] c.show_request.result)) c.self.view_is c.show_request.ensures.unwritten
