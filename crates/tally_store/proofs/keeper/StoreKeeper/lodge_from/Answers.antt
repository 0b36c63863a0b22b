use Rattle.std.proofs.Common.{OnOk, subst}
use Rattle.sqlite.specs.Held.{state}
use Rattle.tally_returns_rows.specs.Delivery.{delivery}
use Rattle.tally_keeper.specs.Keeper.{Imports}
use Rattle.tally_returns_rows.specs.NamedRows.{NamesRows}
use Rattle.tally_store_commands.specs.internal.Known.{known_of}
use Rattle.tally_store_schema.proofs.StaysLemmas.{clean_first}
use Rattle.tally_store.specs.Content.{content_of}
use Rattle.tally_store.specs.Store.{KeepsText, Stored}
use Rattle.tally_store.proofs.RequestLemmas.{Took, imports_after, keeps_text_imported, served_import, shows_tables, stored_import}
use Rattle.tally_store.proofs.TrialLemmas.{named_after}
use Rattle.tally_store.proofs.keeper.StoreKeeper.lodge_from.Goals as goal

pub import_rows-requires-clause-known : goal.import_rows-requires-clause-known
import_rows-requires-clause-known g c = c.self.invariant.true_is

pub invariant_of-self : goal.invariant_of-self
invariant_of-self g c =
    let setup = c.self.inside.setup in
    let old = state g.S.Store c.self.inside.conn in
    let new = state g.S.Store c.import_rows.new.conn in
    let came = delivery g.R.RowSource c.args.rows.now c.import_rows.new.source in
    let ensured = c.import_rows.ensures in
    let r = c.import_rows.result in
    let took : Took setup old new came r = record { ended = ensured.ends.ended; clean = clean_first ensured.ends.crash; done = ensured.done; fault = ensured.fault; shut = ensured.shut; was_open = ensured.ends.was_open } in
    served_import setup old new came r (known_of c.import_rows.new.known) c.a_constituency_has_a_view.ensures.lawful c.self.invariant.stored took ensured.known

pub returns-clause-imported : goal.returns-clause-imported
returns-clause-imported g c clean =
    let setup = c.self.inside.setup in
    let old = state g.S.Store c.self.inside.conn in
    let new = state g.S.Store c.import_rows.new.conn in
    let came = delivery g.R.RowSource c.args.rows.now c.import_rows.new.source in
    let ensured = c.import_rows.ensures in
    let r = c.import_rows.result in
    let took : Took setup old new came r = record { ended = ensured.ends.ended; clean = clean_first ensured.ends.crash; done = ensured.done; fault = ensured.fault; shut = ensured.shut; was_open = ensured.ends.was_open } in
    subst (λ (h : Stored _). Imports h.setup (content_of h.setup (state g.S.Store h.conn)) came r (content_of setup new)) c.self.view_is
    (imports_after setup old new came r c.a_constituency_has_a_view.ensures.lawful c.self.invariant.stored took clean)

pub returns-clause-named : goal.returns-clause-named
returns-clause-named g c clean =
    let setup = c.self.inside.setup in
    let old = state g.S.Store c.self.inside.conn in
    let new = state g.S.Store c.import_rows.new.conn in
    let came = delivery g.R.RowSource c.args.rows.now c.import_rows.new.source in
    let before = c.args.named.now.items in
    let after = c.import_rows.new.named.items in
    let ensured = c.import_rows.ensures in
    let r = c.import_rows.result in
    subst (λ (h : Stored _). OnOk r (NamesRows h.setup (content_of h.setup (state g.S.Store h.conn)) came before after)) c.self.view_is
    (named_after setup old new came r before after c.a_constituency_has_a_view.ensures.lawful c.self.invariant.stored (clean_first ensured.ends.crash) ensured.ends.was_open ensured.shut ensured.named clean)

pub returns-clause-tables : goal.returns-clause-tables
returns-clause-tables g c clean =
    let setup = c.self.inside.setup in
    let old = state g.S.Store c.self.inside.conn in
    let new = state g.S.Store c.import_rows.new.conn in
    let came = delivery g.R.RowSource c.args.rows.now c.import_rows.new.source in
    let ensured = c.import_rows.ensures in
    let r = c.import_rows.result in
    let took : Took setup old new came r = record { ended = ensured.ends.ended; clean = clean_first ensured.ends.crash; done = ensured.done; fault = ensured.fault; shut = ensured.shut; was_open = ensured.ends.was_open } in
    shows_tables setup new c.a_constituency_has_a_view.ensures.lawful (stored_import setup old new came r c.self.invariant.stored took) clean

pub returns-clause-text : goal.returns-clause-text
returns-clause-text g c clean now =
    let setup = c.self.inside.setup in
    let old = state g.S.Store c.self.inside.conn in
    let new = state g.S.Store c.import_rows.new.conn in
    subst (λ (h : Stored _). KeepsText h.setup (state g.S.Store h.conn) new) c.self.view_is
    (keeps_text_imported setup old new (delivery g.R.RowSource c.args.rows.now c.import_rows.new.source) c.import_rows.result c.import_rows.ensures.done clean now)
