use Rattle.std.proofs.Common.{OnOk, subst}
use Rattle.sqlite.specs.Held.{state}
use Rattle.tally_returns_rows.specs.Delivery.{delivery}
use Rattle.tally_keeper.specs.Keeper.{Tries}
use Rattle.tally_returns_rows.specs.NamedRows.{NamesRows}
use Rattle.tally_store_open.specs.Crash.{IsUnwritten}
use Rattle.tally_store_commands.specs.internal.Known.{known_of}
use Rattle.tally_store_schema.proofs.StaysLemmas.{clean_first}
use Rattle.tally_store.specs.Content.{content_of}
use Rattle.tally_store.specs.Store.{KeepsText, Stored}
use Rattle.tally_store.proofs.RequestLemmas.{shows_tables}
use Rattle.tally_store.proofs.TrialLemmas.{Tried, keeps_text_still, named_after, served_still, stored_still, tries_after}
use Rattle.tally_store.proofs.keeper.StoreKeeper.trial_from.Goals as goal

pub invariant_of-self : goal.invariant_of-self
invariant_of-self g c =
    served_still c.self.inside.setup (state g.S.Store c.self.inside.conn) (state g.S.Store c.try_rows.new.conn) (known_of c.self.inside.known) c.self.invariant c.try_rows.ensures.ends

pub returns-clause-tried : goal.returns-clause-tried
returns-clause-tried g c clean =
    let setup = c.self.inside.setup in
    let old = state g.S.Store c.self.inside.conn in
    let new = state g.S.Store c.try_rows.new.conn in
    let came = delivery g.R.RowSource c.args.rows.now c.try_rows.new.source in
    let ensured = c.try_rows.ensures in
    let r = c.try_rows.result in
    let tried : Tried setup old new came r = record { ends = ensured.ends; done = ensured.tried; fault = ensured.fault; shut = ensured.shut } in
    subst (λ (h : Stored _). Tries h.setup (content_of h.setup (state g.S.Store h.conn)) came r (content_of setup new)) c.self.view_is
    (tries_after setup old new came r c.a_constituency_has_a_view.ensures.lawful c.self.invariant.stored tried clean)

pub returns-clause-named : goal.returns-clause-named
returns-clause-named g c clean =
    let setup = c.self.inside.setup in
    let old = state g.S.Store c.self.inside.conn in
    let new = state g.S.Store c.try_rows.new.conn in
    let came = delivery g.R.RowSource c.args.rows.now c.try_rows.new.source in
    let before = c.args.named.now.items in
    let after = c.try_rows.new.named.items in
    let ensured = c.try_rows.ensures in
    let r = c.try_rows.result in
    subst (λ (h : Stored _). OnOk r (NamesRows h.setup (content_of h.setup (state g.S.Store h.conn)) came before after)) c.self.view_is
    (named_after setup old new came r before after c.a_constituency_has_a_view.ensures.lawful c.self.invariant.stored (clean_first ensured.ends.survives) ensured.ends.was_open ensured.shut ensured.named clean)

pub returns-clause-tables : goal.returns-clause-tables
returns-clause-tables g c clean =
    let setup = c.self.inside.setup in
    let old = state g.S.Store c.self.inside.conn in
    let new = state g.S.Store c.try_rows.new.conn in
    shows_tables setup new c.a_constituency_has_a_view.ensures.lawful (stored_still setup old new c.self.invariant.stored c.try_rows.ensures.ends) clean

pub returns-clause-text : goal.returns-clause-text
returns-clause-text g c clean now =
    let setup = c.self.inside.setup in
    let old = state g.S.Store c.self.inside.conn in
    let new = state g.S.Store c.try_rows.new.conn in
    subst (λ (h : Stored _). KeepsText h.setup (state g.S.Store h.conn) new) c.self.view_is (keeps_text_still setup old new c.try_rows.ensures.ends clean now)

pub returns-clause-unwritten : goal.returns-clause-unwritten
returns-clause-unwritten g c =
    subst (λ (h : Stored _). IsUnwritten (state g.S.Store h.conn) (state g.S.Store c.try_rows.new.conn)) c.self.view_is c.try_rows.ensures.unwritten
