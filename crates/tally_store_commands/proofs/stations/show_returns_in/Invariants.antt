use Rattle.std.proofs.Common.{◌<◌, IsTrue, take}
use Rattle.sqlite.specs.State.{HasCleanDisk, IsUnchanged}
use Rattle.sqlite.specs.Held.{state}
use Rattle.tally_store_schema.specs.Office.{IsInside}
use Rattle.tally_store_schema.specs.internal.Inside.{IsOpenInside, StaysInside}
use Rattle.tally_store_commands.specs.internal.Stations.{FindsRows}
use Rattle.tally_store_commands.proofs.stations.show_returns_in.Given as goal

abbrev pub invariant-loop-station : goal.invariant-loop-station
invariant-loop-station g l =
    let old = state g.S.Store l.fn.tx.conn.now in
    let now = state g.S.Store l.tx.conn.now in
    record {
      stays : StaysInside g.S.Store l.fn.tx l.tx;
      inside : HasCleanDisk now → IsInside old → IsInside now;
      same : HasCleanDisk now → IsOpenInside old → IsUnchanged old now;
      found : HasCleanDisk now → IsOpenInside old → FindsRows l.setup (take l.station-index l.stations) old l.rows.items;
      was_open : 0 < l.station-index → HasCleanDisk now → IsTrue old.is_open;
    }
