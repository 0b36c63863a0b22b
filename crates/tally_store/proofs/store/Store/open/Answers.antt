use Rattle.std.proofs.Common.{sym, subst, subst₂}
use Rattle.sqlite.specs.State.{HasCleanDisk, KeepsCounts}
use Rattle.sqlite.specs.Held.{state}
use Rattle.tally_store_open.specs.Crash.{CountsNothing, IsUnwritten}
use Rattle.tally_store_open.specs.Open.{CountsFound, IsOpened}
use Rattle.tally_store_commands.specs.internal.Known.{known_of}
use Rattle.tally_store.specs.Create.{ShowsFound}
use Rattle.tally_store.proofs.RequestLemmas.{numbers-known}
use Rattle.tally_store.proofs.store.Store.open.Goals as goal

pub store_over-requires-clause-office : goal.store_over-requires-clause-office
store_over-requires-clause-office g c clean now =
    let setup = c.in-Ok.setup in
    let opened : IsOpened setup (state g.S.Store c.args.conn) (state g.S.Store c.open_in-conn.result.0) = rw c.in-Ok.is at (c.open_in-conn.ensures.opened clean) in
    let found : CountsFound c.open_in-conn.new.known setup (state g.S.Store c.args.conn).now = rw c.in-Ok.is at (c.open_in-conn.ensures.numbers clean) in
    let numbers = found opened.text opened.state opened.found.lawful opened.found.found in
    (opened.state, opened.found.lawful, record { text = opened.text; reads = opened.found.found.0; has = opened.has now }, numbers-known setup opened.state (known_of c.open_in-conn.new.known) numbers)

pub returns-in-Ok-clause-opened : goal.returns-in-Ok-clause-opened
returns-in-Ok-clause-opened g c clean =
    let ensured = c.store_over.ensures in
    let early : HasCleanDisk (state g.S.Store c.open_in-conn.result.0) = subst (λ (h : _). HasCleanDisk (state g.S.Store h)) ensured.conn clean in
    let old = state g.S.Store c.args.conn in
    let new = state g.S.Store c.open_in-conn.result.0 in
    let opened : IsOpened c.in-Ok.setup old new = rw c.in-Ok.is at (c.open_in-conn.ensures.opened early) in
    subst₂ (λ s (h : _). ShowsFound s old (state g.S.Store h)) (sym ensured.setup) (sym ensured.conn)
    (record { opened = opened; content = λ now. ensured.content now opened.state opened.found.lawful (record { text = opened.text; reads = opened.found.found.0; has = opened.has now }) })

pub returns-in-Ok-clause-unwritten : goal.returns-in-Ok-clause-unwritten
returns-in-Ok-clause-unwritten g c past =
    subst (λ (h : _). IsUnwritten (state g.S.Store c.args.conn) (state g.S.Store h)) (sym c.store_over.ensures.conn) (c.open_in-conn.ensures.unwritten past)

pub returns-in-Ok-clause-counts : goal.returns-in-Ok-clause-counts
returns-in-Ok-clause-counts g c past clean =
    let ensured = c.store_over.ensures in
    let early : HasCleanDisk (state g.S.Store c.open_in-conn.result.0) = subst (λ (h : _). HasCleanDisk (state g.S.Store h)) ensured.conn clean in
    let moved : CountsNothing (state g.S.Store c.args.conn) (state g.S.Store c.open_in-conn.result.0) = rw c.in-Ok.is at c.open_in-conn.ensures.counts in
    subst (λ (h : _). KeepsCounts (state g.S.Store c.args.conn) (state g.S.Store h)) (sym ensured.conn) (moved past early)
