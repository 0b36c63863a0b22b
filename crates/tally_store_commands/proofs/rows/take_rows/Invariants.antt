use Rattle.std.proofs.Common.{◌≡◌, ℕ, List}
use Rattle.sqlite.specs.State.{HasCleanDisk, IsUnchanged}
use Rattle.sqlite.specs.Held.{state}
use Rattle.tally_returns.specs.State.{State}
use Rattle.tally_machine_law.specs.LawfulState.{IsLawfulState}
use Rattle.tally_returns_rows.specs.Delivery.{source_at}
use Rattle.tally_store_schema.specs.Office.{IsInside}
use Rattle.tally_store_schema.specs.internal.Inside.{IsOpenInside}
use Rattle.tally_store_rows.specs.TablesOfState.{AreTables}
use Rattle.tally_store_commands.specs.internal.Inside.{StaysInState}
use Rattle.tally_store_commands.specs.internal.Known.{ForgetsNone, known_of}
use Rattle.tally_store_commands.proofs.RowLemmas.{Came, Counted, RowsSoFar}
use Rattle.tally_store_commands.proofs.rows.take_rows.Given as goal

-- the rows that came, of any tables; and of those of a lawful state what was made of the rows, and
-- which of them were named
abbrev pub invariant-loop-before : goal.invariant-loop-before
invariant-loop-before g l =
    let left = source_at g.R.RowSource in
    let old = state g.S.Store l.fn.tx.conn.now in
    let now = state g.S.Store l.tx.conn.now in
    record {
      stays : StaysInState l.setup g.S.Store l.fn.tx l.tx;
      came : Came (left l.fn.source) (left l.source) l.before;
      counted : Counted l.count l.before;
      taken : HasCleanDisk now → IsInside old → (text : List ℕ) (s : State) → IsLawfulState l.setup s → AreTables l.setup text s old.now.trees
          → RowsSoFar l.setup text s (left l.fn.source) (left l.source) l.count l.before (known_of l.fn.known) (known_of l.known) l.fn.named.items l.named.items now;
      forgets : ForgetsNone (known_of l.fn.known) (known_of l.known);
      unwritten : HasCleanDisk now → IsOpenInside old → l.count.lodged ≡ 0 → IsUnchanged old now;
    }
