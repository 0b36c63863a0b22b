-- What a call that carries requests out on a lawful state keeps in a transaction.
use Rattle.std.specs.Prelude.{ℕ, List}
use Rattle.sqlite_trees.specs.declared.store.Store.{Ghosts}
use Rattle.sqlite.specs.declared.transaction.Transaction.{Transaction}
use Rattle.sqlite.specs.State.{State as Seen}
use Rattle.tally_setup.specs.Constituency.{Constituency}
use Rattle.tally_returns.specs.State.{State}
use Rattle.tally_machine_law.specs.LawfulState.{IsLawfulState}
use Rattle.tally_store_schema.specs.Office.{IsInside}
use Rattle.tally_store_rows.specs.TablesOfState.{AreTables}
use Rattle.tally_store_schema.specs.internal.Inside.{StaysFrom}

-- The office's tables are open in a transaction, and are those of a lawful state.
pub record IsLawfulInside (setup : List Constituency) (seen : Seen) : Type 0 where
  pub text : List ℕ
  pub office : State
  pub inside : IsInside seen
  pub lawful : IsLawfulState setup office
  pub tables : AreTables setup text office seen.now.trees

-- what a call keeps in a transaction in which they are those of a lawful state
abbrev pub StaysInState : List Constituency → {S : Type 0} (g : Ghosts S) → Transaction S
    → Transaction S → Type 0
StaysInState setup g old new = StaysFrom (IsLawfulInside setup) g old new
