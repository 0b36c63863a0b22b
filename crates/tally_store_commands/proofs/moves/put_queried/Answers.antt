use Rattle.std.proofs.Common.{◌≡◌, ◌∙◌, [], ap, subst}
use Rattle.std.specs.Prelude.{⊤}
use Rattle.sqlite.specs.Held.{state}
use Rattle.sqlite.specs.State.{HasCleanDisk}
use Rattle.tally_setup.specs.Constituency.{Constituency}
use Rattle.tally_store_schema.specs.declared.table.KeyedTable.TheVariants.{Lots}
use Rattle.tally_store_rows.specs.Cells.{lot_rows}
use Rattle.tally_store_entries.specs.internal.Constituencies.{HasLot}
use Rattle.tally_store_entries.specs.internal.Entries.{ChangesReturn}
use Rattle.tally_store_commands.proofs.MovedLemmas.{queried_moved, queried_so}
use Rattle.tally_store_commands.proofs.WriteLemmas.{HasMoved}
use Rattle.tally_store_schema.specs.Office.{IsInside}
use Rattle.tally_store_schema.proofs.StaysLemmas.{clean_first, stays-then}
use Rattle.tally_store_commands.proofs.moves.put_queried.Goals as goal

pub returns-clause-put : goal.returns-clause-put
returns-clause-put g c clean inside setup place text s limits at lawful not_certified stood tables =
    let con = c.args.con.now in
    let station = c.args.station in
    let before = c.args.before.now in
    let standing = c.args.standing.now in
    let old = state g.S.Store c.args.tx.now.conn.now in
    let mid = state g.S.Store c.uncount.new.tx.conn.now in
    let bare = state g.S.Store c.put_lot.new.tx.conn.now in
    let new = state g.S.Store c.change_return.new.tx.conn.now in
    let later : HasCleanDisk bare = clean_first c.change_return.ensures.stays.survives clean in
    let early : HasCleanDisk mid = clean_first c.put_lot.ensures.stays.survives later in
    let key : c.as_str.result.now ≡ con.code = c.as_str.ensures.text ∙ ap (λ (x : Constituency). x.code) c.con.view_is in
    let sums = c.in_ok-uncount.ensures.uncounted early inside setup s station place standing limits at lawful stood (queried_so standing c.requires.queried) tables.totals in
    let lots : HasMoved Lots lot_rows con.code (HasLot []) mid bare = subst (λ k. HasMoved Lots lot_rows k (HasLot []) mid bare) key (c.in_ok-put_lot.ensures.lots later sums.0.inside) in
    queried_moved setup text s con place station before standing old mid bare new c.change_return.result clean limits at lawful not_certified stood c.requires.same_counts tables sums lots
    (subst (λ k. ChangesReturn k standing bare new c.change_return.result) c.as_str-2.ensures.text c.change_return.ensures.changed)

pub returns-in_err-put_lot-clause-stays : goal.returns-in_err-put_lot-clause-stays
returns-in_err-put_lot-clause-stays g c =
    stays-then IsInside (λ _. ⊤) g.S.Store c.args.tx.now c.uncount.new.tx c.put_lot.new.tx (λ _ _. tt) c.uncount.ensures.stays c.put_lot.ensures.stays

pub returns-clause-stays : goal.returns-clause-stays
returns-clause-stays g c =
    stays-then IsInside (λ _. ⊤) g.S.Store c.args.tx.now c.put_lot.new.tx c.change_return.new.tx (λ _ _. tt)
    (stays-then IsInside (λ _. ⊤) g.S.Store c.args.tx.now c.uncount.new.tx c.put_lot.new.tx (λ _ _. tt) c.uncount.ensures.stays c.put_lot.ensures.stays)
    c.change_return.ensures.stays
