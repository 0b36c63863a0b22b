use Rattle.std.proofs.Common.{arith}
use Rattle.sqlite.specs.State.{HasCleanDisk}
use Rattle.sqlite.specs.Held.{state}
use Rattle.tally_store_schema.proofs.TextLemmas.{past_sound}
use Rattle.tally_store_schema.proofs.making.create_tables.Goals as goal

pub returns-clause-sound : goal.returns-clause-sound
returns-clause-sound g c clean bare =
    let mid = state g.S.Store c.create_former_tables.new.tx.conn.now in
    let new = state g.S.Store c.create_past.new.tx.conn.now in
    let early : HasCleanDisk mid = omega (arith, c.create_past.ensures.stays.survives.clean) in
    let former = c.in_ok-create_former_tables.ensures.made early bare in
    past_sound mid new c.create_past.result (c.create_past.ensures.past clean former.tables)
