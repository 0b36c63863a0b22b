use Rattle.std.proofs.Common.{subst}
use Rattle.sqlite.specs.Held.{state}
use Rattle.tally_keeper.specs.Shown.{ShowsReturns}
use Rattle.tally_store_commands.specs.internal.Known.{known_of}
use Rattle.tally_store_schema.proofs.StaysLemmas.{clean_first}
use Rattle.tally_store.specs.Content.{content_of}
use Rattle.tally_store.specs.Crash.{LooksWithoutWriting}
use Rattle.tally_store.specs.Store.{KeepsText, Stored}
use Rattle.tally_store.proofs.RequestLemmas.{shows_tables}
use Rattle.tally_store.proofs.StationLemmas.{ServedStations, keeps_text_looked, served_stations, stations_shown, stored_stations}
use Rattle.tally_store.proofs.keeper.StoreKeeper.show_returns.Goals as goal

pub show_stations-requires-clause-known : goal.show_stations-requires-clause-known
show_stations-requires-clause-known g c = c.self.invariant.true_is

pub invariant_of-self : goal.invariant_of-self
invariant_of-self g c =
    let setup = c.self.inside.setup in
    let old = state g.S.Store c.self.inside.conn in
    let new = state g.S.Store c.show_stations.new.conn in
    let ensured = c.show_stations.ensures in
    let r = c.show_stations.result in
    let served : ServedStations setup old new c.args.con r = record { ended = ensured.ends.ended; clean = clean_first ensured.ends.crash; done = ensured.done; shut = ensured.shut; was_open = ensured.ends.was_open } in
    served_stations setup old new c.args.con r (known_of c.show_stations.new.known) c.a_constituency_has_a_view.ensures.lawful c.self.invariant.stored served ensured.known

pub returns-clause-shows : goal.returns-clause-shows
returns-clause-shows g c clean =
    let setup = c.self.inside.setup in
    let old = state g.S.Store c.self.inside.conn in
    let new = state g.S.Store c.show_stations.new.conn in
    let ensured = c.show_stations.ensures in
    let r = c.show_stations.result in
    let served : ServedStations setup old new c.args.con r = record { ended = ensured.ends.ended; clean = clean_first ensured.ends.crash; done = ensured.done; shut = ensured.shut; was_open = ensured.ends.was_open } in
    subst (λ (h : Stored _). ShowsReturns h.setup (content_of h.setup (state g.S.Store h.conn)) c.args.con r (content_of setup new)) c.self.view_is
    (stations_shown setup old new c.args.con r c.a_constituency_has_a_view.ensures.lawful c.self.invariant.stored served clean)

pub returns-clause-tables : goal.returns-clause-tables
returns-clause-tables g c clean =
    let setup = c.self.inside.setup in
    let old = state g.S.Store c.self.inside.conn in
    let new = state g.S.Store c.show_stations.new.conn in
    let ensured = c.show_stations.ensures in
    let r = c.show_stations.result in
    let served : ServedStations setup old new c.args.con r = record { ended = ensured.ends.ended; clean = clean_first ensured.ends.crash; done = ensured.done; shut = ensured.shut; was_open = ensured.ends.was_open } in
    shows_tables setup new c.a_constituency_has_a_view.ensures.lawful (stored_stations setup old new c.args.con r c.self.invariant.stored served) clean

pub returns-clause-text : goal.returns-clause-text
returns-clause-text g c clean now =
    let setup = c.self.inside.setup in
    let old = state g.S.Store c.self.inside.conn in
    let new = state g.S.Store c.show_stations.new.conn in
    subst (λ (h : Stored _). KeepsText h.setup (state g.S.Store h.conn) new) c.self.view_is
    (keeps_text_looked setup old new c.args.con c.show_stations.result c.show_stations.ensures.done clean now)

pub returns-clause-unwritten : goal.returns-clause-unwritten
returns-clause-unwritten g c =
    subst (λ (h : Stored _). LooksWithoutWriting (state g.S.Store h.conn) (state g.S.Store c.show_stations.new.conn) c.show_stations.result) c.self.view_is c.show_stations.ensures.unwritten
