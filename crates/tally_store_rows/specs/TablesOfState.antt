-- The tables of a state. Each row of a table has its rowid before it. Rows are in any order, and no
-- row occurs twice.
use Rattle.std.specs.Prelude.{◌≡◌, ◌∷◌, ℕ, List, [], Some}
use Rattle.sqlite_trees.specs.Tree.{Trees}
use Rattle.tally_store_schema.specs.Rows.{AreRowsOf}
use Rattle.tally_setup.specs.Constituency.{Constituency}
use Rattle.tally_setup.specs.Setup.{constituency_with}
use Rattle.tally_returns.specs.State.{State, con_state}
use Rattle.tally_returns.specs.View.{view_of}
use Rattle.tally_machine_law.specs.Outcome.{HasSeats}
use Rattle.tally_store_schema.specs.Cells.{setup_row}
use Rattle.tally_store_schema.specs.Tables.{setup_tree, returns_tree, counts_tree, cons_tree}
use Rattle.tally_store_schema.specs.Tables.{lots_tree}
use Rattle.tally_store_schema.specs.Tables.{seats_tree, gone_tree, totals_tree, past_tree}
use Rattle.tally_store_rows.specs.Cells.{return_rows, count_rows, con_rows, lot_rows, seat_rows}
use Rattle.tally_store_rows.specs.Cells.{gone_rows, total_rows, past_rows}

-- the version of the tables
abbrev pub version : ℕ
version = 2

-- These are the seats of each constituency, by its code: where it is certified, those of the one
-- allotment of its closed votes, and else none.
abbrev pub AreSeats : List Constituency → State → (List ℕ → List ℕ) → Type 0
AreSeats setup s seats =
    (code : List ℕ) (con : Constituency) → constituency_with code setup ≡ Some con
    → HasSeats con (view_of con s (seats con.code)) (con_state s con.code).certified

-- These are the tables of a state over a setup that has this text. `setup` has its one row.
-- `returns` has one row for each return, and `counts` one for each of its numbers. Of each
-- constituency `cons` has one row, `lots` one for each place of its lot, `seats` one for each list
-- where it is certified, `gone` one for each candidate who is gone, `totals` one for each sum of
-- its closed returns, and `past` one for each list of each certificate that was reopened.
pub record AreTables (setup : List Constituency) (text : List ℕ) (s : State) (db : Trees)
    : Type 0 where
  pub given : List ℕ → List ℕ
  pub allotted : AreSeats setup s given
  pub setup_is : db setup_tree ≡ setup_row version text ∷ []
  pub returns : AreRowsOf (return_rows setup) s.returns (db returns_tree)
  pub counts : AreRowsOf count_rows s.returns (db counts_tree)
  pub cons : AreRowsOf con_rows s.cons (db cons_tree)
  pub lots : AreRowsOf lot_rows s.cons (db lots_tree)
  pub seats : AreRowsOf (seat_rows given) s.cons (db seats_tree)
  pub gone : AreRowsOf gone_rows s.cons (db gone_tree)
  pub totals : AreRowsOf (total_rows setup s.returns) s.cons (db totals_tree)
  pub past : AreRowsOf past_rows s.cons (db past_tree)
