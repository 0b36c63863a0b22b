use Rattle.std.proofs.Common.{subst, OnOk}
use Rattle.sqlite.specs.Effect.{IsDatabase}
use Rattle.sqlite.specs.State.{HasCleanDisk}
use Rattle.sqlite.specs.Held.{state}
use Rattle.tally_store_schema.proofs.StaysLemmas.{clean_first, stays-both}
use Rattle.tally_setup.specs.Limits.{IsSetup}
use Rattle.tally_store_open.specs.internal.Making.{AddsCons}
use Rattle.tally_store_open.proofs.EmptyLemmas.{empty_inside, setup_empty}
use Rattle.tally_store_open.proofs.OpeningLemmas.{office_last}
use Rattle.tally_store_open.proofs.making.make_office.Goals as goal

pub returns-clause-made : goal.returns-clause-made
returns-clause-made g c clean bare =
    let old = state g.S.Store c.create_tables.new.tx.conn.now in
    let set = state g.S.Store c.insert_setup.new.tx.conn.now in
    let made = state g.S.Store c.insert_openings.new.tx.conn.now in
    let clean_set : HasCleanDisk set = clean_first c.insert_openings.ensures.stays.survives clean in
    let clean_old : HasCleanDisk old = clean_first c.insert_setup.ensures.stays.survives clean_set in
    let empty = c.in_ok-create_tables.ensures.made clean_old bare in
    let sound : IsDatabase old.now = c.in_ok-create_tables.ensures.sound clean_old bare in
    let row = c.in_ok-insert_setup.ensures.inserted clean_set (empty_inside old empty sound) (setup_empty old empty) in
    let opened = c.insert_openings.ensures.opened clean row.inside in
    let limits : IsSetup c.args.setup.now = c.cons.ensures.limits in
    office_last c.args.setup.now c.args.text.now old set made c.insert_openings.result c.requires.reads limits empty row
    (subst (λ cons. OnOk c.insert_openings.result (AddsCons cons set made)) c.cons.ensures.cons opened)

pub returns-clause-stays : goal.returns-clause-stays
returns-clause-stays g c =
    let two = stays-both g.S.Store c.args.tx.now c.create_tables.new.tx c.insert_setup.new.tx c.create_tables.ensures.stays c.insert_setup.ensures.stays in
    stays-both g.S.Store c.args.tx.now c.insert_setup.new.tx c.insert_openings.new.tx two c.insert_openings.ensures.stays
