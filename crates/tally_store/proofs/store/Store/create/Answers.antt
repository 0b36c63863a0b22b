use Rattle.std.proofs.Common.{IsTrue, sym, subst, subst₂}
use Rattle.sqlite.specs.State.{HasCleanDisk}
use Rattle.sqlite.specs.Held.{state}
use Rattle.tally_returns.specs.State.{opening}
use Rattle.tally_machine_law.proofs.ReturnStepLemmas.{opening-lawful}
use Rattle.tally_store_open.specs.Office.{HasState}
use Rattle.tally_store.specs.Create.{HasOpeningTables}
use Rattle.tally_store.proofs.RequestLemmas.{empty-known}
use Rattle.tally_store.proofs.store.Store.create.Goals as goal

pub store_over-requires-clause-office : goal.store_over-requires-clause-office
store_over-requires-clause-office g c clean now =
    let ensured = c.in-Ok.ensures in
    let setup = c.in-Ok.setup in (
      opening setup,
      opening-lawful setup ensured.limits,
      record { text = c.args.text.now; reads = ensured.setup; has = ensured.made clean },
      empty-known setup (opening setup).returns c.new.result c.new.ensures.empty,
    )

pub returns-in-Ok-clause-made : goal.returns-in-Ok-clause-made
returns-in-Ok-clause-made g c clean =
    let ensured = c.store_over.ensures in
    let done = c.in-Ok.ensures in
    let setup = c.in-Ok.setup in
    let text = c.args.text.now in
    let new = state g.S.Store c.create_in.new.conn in
    let early : HasCleanDisk new = subst (λ (h : _). HasCleanDisk (state g.S.Store h)) ensured.conn clean in
    let now : IsTrue new.is_open = done.open early in
    let has : HasState setup text (opening setup) new = done.made early in
    subst₂ (λ s (h : _). HasOpeningTables s text (state g.S.Store h)) (sym ensured.setup) (sym ensured.conn)
    (record { is_open = now; has = has; content = ensured.content now (opening setup) (opening-lawful setup done.limits) (record { text = text; reads = done.setup; has = has }) })
