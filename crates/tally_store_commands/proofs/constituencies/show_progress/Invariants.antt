use Rattle.std.proofs.Common.{◌≡◌, IsTrue, ℕ, List, map, take}
use Rattle.sqlite.specs.State.{HasCleanDisk, IsUnchanged}
use Rattle.sqlite.specs.Held.{state}
use Rattle.tally_returns.specs.Progress.{progress_row}
use Rattle.tally_returns.specs.State.{State}
use Rattle.tally_machine_law.specs.LawfulState.{IsLawfulState}
use Rattle.tally_store_schema.specs.Office.{IsInside}
use Rattle.tally_store_rows.specs.TablesOfState.{AreTables}
use Rattle.tally_store_schema.specs.internal.Inside.{StaysInside}
use Rattle.tally_store_entries.specs.internal.Constituencies.{AreCons}
use Rattle.tally_store_commands.specs.internal.Known.{AreKnown, ForgetsNone, known_of}
use Rattle.tally_store_commands.specs.internal.Shown.{FindsKnown}
use Rattle.tally_store_commands.proofs.constituencies.show_progress.Given as goal

-- the rows of the constituencies so far, of every lawful state whose tables there are
abbrev pub invariant-loop-con : goal.invariant-loop-con
invariant-loop-con g l =
    let old = state g.S.Store l.fn.tx.conn.now in
    let now = state g.S.Store l.tx.conn.now in
    record {
      stays : StaysInside g.S.Store l.fn.tx l.tx;
      found : HasCleanDisk now → IsInside old → (text : List ℕ) (s : State) → IsLawfulState l.setup s → AreKnown l.setup s.returns (known_of l.fn.known) → AreTables l.setup text s old.now.trees
          → l.rows.items ≡ map (progress_row s) (take l.con-index l.cons);
      known : HasCleanDisk now → IsInside old → FindsKnown l.setup (known_of l.fn.known) (known_of l.known) old;
      forgets : ForgetsNone (known_of l.fn.known) (known_of l.known);
      same : HasCleanDisk now → IsInside old → IsUnchanged old now;
      all : HasCleanDisk now → IsInside old → AreCons l.standing.items old;
      was_open : HasCleanDisk now → IsTrue old.is_open;
    }
