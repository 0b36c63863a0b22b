use Rattle.std.proofs.Common.{take}
use Rattle.sqlite.specs.State.{HasCleanDisk, IsUnchanged}
use Rattle.sqlite.specs.Held.{state}
use Rattle.tally_store_entries.specs.internal.Found.{AreWithin, FindsStatuses}
use Rattle.tally_store_schema.specs.internal.Inside.{IsOpenInside, StaysFrom}
use Rattle.tally_store_entries.proofs.views.find_known.Given as goal

abbrev pub invariant-loop-station : goal.invariant-loop-station
invariant-loop-station g l =
    let old = state g.S.Store l.fn.tx.conn.now in
    let now = state g.S.Store l.tx.conn.now in
    record {
      stays : StaysFrom IsOpenInside g.S.Store l.fn.tx l.tx;
      within : AreWithin l.station-index l.found;
      same : HasCleanDisk now → IsOpenInside old → IsUnchanged old now;
      found : HasCleanDisk now → IsOpenInside old → FindsStatuses (take l.station-index l.stations) old l.found;
    }
