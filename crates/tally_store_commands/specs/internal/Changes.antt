-- How a change of a constituency is carried out, and what it writes.
use Rattle.std.specs.Prelude.{◌≡◌, ◌≢◌, ◌∷◌, ℕ, Bool, false, List, [], Some, Result, IfOk, Ok}
use Rattle.std.specs.FinMap.{FinMap, get}
use Rattle.std.specs.List.{AllByRecursion}
use Rattle.sqlite.specs.declared.error.Error.{Error}
use Rattle.sqlite.specs.State.{State as Seen, HasCleanDisk}
use Rattle.tally_store_schema.specs.Rows.{AreRowsOf}
use Rattle.tally_setup.specs.Code.{code_cmp}
use Rattle.tally_setup.specs.Constituency.{Constituency}
use Rattle.tally_returns.specs.State.{ConState, State}
use Rattle.tally_returns.specs.PastSeats.{PastSeats}
use Rattle.tally_returns.specs.View.{View}
use Rattle.tally_returns.specs.declared.reply.Reply.{Reply}
use Rattle.tally_machine_law.specs.LawfulState.{IsLawfulState}
use Rattle.tally_machine_law.specs.Step.{ConChange, IsView, after_change, answer_seen, con_answer}
use Rattle.tally_machine_law.specs.Step.{con_change}
use Rattle.tally_store_schema.specs.Tables.{setup_tree}
use Rattle.tally_store_schema.specs.declared.table.KeyedTable.{KeyedTable}
use Rattle.tally_store_schema.specs.declared.table.KeyedTable.TheVariants.{Cons, Lots, Seats, Past}
use Rattle.tally_store_schema.specs.Office.{IsInside, tree_of}
use Rattle.tally_store_rows.specs.Cells.{con_rows, lot_rows, past_rows}
use Rattle.tally_store_rows.specs.TablesOfState.{AreTables}
use Rattle.tally_store_entries.specs.internal.Entries.{stored_in}
use Rattle.tally_store_entries.specs.internal.Constituencies.{HasLot, HasRecord, HasEdition}
use Rattle.tally_store_entries.specs.internal.Constituencies.{MovesRows}
use Rattle.tally_store_entries.specs.internal.Constituencies.{MovesSeats}
use Rattle.tally_store_entries.specs.internal.Constituencies.{with_past_of}
use Rattle.tally_store_commands.specs.internal.Requests.{IsInState}
use Rattle.tally_returns.specs.declared.change.Change.{Change}

-- The office's tables are open in a transaction, and only these may have changed.
pub record ChangesAmong (tables : List KeyedTable) (old new : Seen) : Type 0 where
  pub inside : IsInside new
  pub others : (u : KeyedTable) → AllByRecursion (λ t. tree_of u ≢ tree_of t) tables →
      stored_in u new ≡ stored_in u old
  pub setup_is : new.now.trees setup_tree ≡ old.now.trees setup_tree

-- The rows of `cons` and of `lots` of a constituency are these.
pub record HasWrittenLot (code : List ℕ) (edition : ℕ) (certified : Bool) (note lot : List ℕ)
    (old new : Seen) : Type 0 where
  pub only : ChangesAmong (Cons ∷ Lots ∷ []) old new
  pub cons : MovesRows Cons con_rows code (HasEdition edition certified note) old new
  pub lots : MovesRows Lots lot_rows code (HasLot lot) old new

-- The rows of `cons` and of `seats` of a constituency are these.
pub record HasWrittenSeats (code : List ℕ) (edition : ℕ) (certified : Bool) (note given : List ℕ)
    (old new : Seen) : Type 0 where
  pub only : ChangesAmong (Cons ∷ Seats ∷ []) old new
  pub cons : MovesRows Cons con_rows code (HasEdition edition certified note) old new
  pub seats : MovesSeats code given old new

-- The rows of `cons` of a constituency are these. It has none in `seats`, and one certificate more
-- is on record.
pub record HasWrittenRecord (code : List ℕ) (edition : ℕ) (note : List ℕ) (standing : PastSeats)
    (old new : Seen) : Type 0 where
  pub only : ChangesAmong (Cons ∷ Seats ∷ Past ∷ []) old new
  pub cons : MovesRows Cons con_rows code (HasEdition edition false note) old new
  pub seats : MovesSeats code [] old new
  pub past : MovesRows Past past_rows code (HasRecord standing) old new

-- The rows of `cons` are those of constituencies of which this is one.
pub record HoldsCon (code : List ℕ) (s : Seen) : Type 0 where
  pub cons : FinMap code_cmp ConState
  pub before : ConState
  pub is : get cons code ≡ Some before
  pub rows : AreRowsOf con_rows cons (stored_in Cons s)

-- A change of a constituency was carried out as decided in this state. The reply is that of the
-- step, and the tables are those of the state after it.
pub record IsChangeCarriedOut (setup : List Constituency) (text : List ℕ) (s : State)
    (con : Constituency) (view : View) (decided : ConChange) (reply : Reply)
    (new : Seen) : Type 0 where
  pub answered : Ok (answer_seen reply) ≡ con_answer view (Ok decided)
  pub in_state : IsInState setup text (after_change s con.code (Ok decided)) new

-- What holds after a call that carries out what was decided, where the disk returned what was
-- written and this was seen, whatever was seen of the certificates on record.
abbrev pub CarriesDecided : List Constituency → Constituency → View → ConChange → Seen → Seen →
    Result Reply Error → Type 0
CarriesDecided setup con view decided old new result =
    HasCleanDisk new → IsInside old →
    IfOk result (λ reply. (text : List ℕ) (s : State) → IsLawfulState setup s →
    IsView con s (with_past_of con s view) → AreTables setup text s old.now.trees
    → IsChangeCarriedOut setup text s con (with_past_of con s view) decided reply new)

-- the same of what the machine decided
abbrev pub CarriesChange : List Constituency → Constituency → View → Change → Seen → Seen →
    Result Reply Error → Type 0
CarriesChange setup con view change old new result =
    HasCleanDisk new → IsInside old →
    IfOk result (λ reply. (text : List ℕ) (s : State) (decided : ConChange) →
    con_change change ≡ Some decided → IsLawfulState setup s →
    IsView con s (with_past_of con s view) → AreTables setup text s old.now.trees
    → IsChangeCarriedOut setup text s con (with_past_of con s view) decided reply new)
