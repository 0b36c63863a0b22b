-- Tables of a constituency that are written one after the other.
use Rattle.std.proofs.Common.{◌≡◌, ◌≢◌, ◌∙◌, ℕ, List, [], ◌∷◌, Bool, false, Some, refl, sym, subst}
use Rattle.std.specs.Prelude.{nat_eq}
use Rattle.std.specs.FinMap.{FinMap, get, insert}
use Rattle.std.proofs.lemmas.Bool.{eqb-false}
use Rattle.sqlite_value.specs.Order.{Row}
use Rattle.sqlite.specs.State.{State as Seen}
use Rattle.tally_store_schema.specs.Rows.{AreRowsOf}
use Rattle.tally_setup.specs.Code.{code_cmp}
use Rattle.tally_returns.specs.PastSeats.{PastSeats}
use Rattle.tally_returns.specs.State.{ConState}
use Rattle.tally_store_schema.specs.declared.table.KeyedTable.{KeyedTable}
use Rattle.tally_store_schema.specs.declared.table.KeyedTable.TheVariants.{Cons, Lots, Seats, Past}
use Rattle.tally_store_schema.specs.Office.{tree_of}
use Rattle.tally_store_rows.specs.Cells.{con_rows, lot_rows, past_rows, seat_rows}
use Rattle.tally_store_entries.specs.internal.Constituencies.{ChangesOnly, HasLot, HasRecord, HasEdition, MovesRows, MovesSeats}
use Rattle.tally_store_entries.specs.internal.Entries.{stored_in}
use Rattle.tally_store_commands.specs.internal.Changes.{ChangesAmong, HasWrittenLot, HoldsCon, HasWrittenRecord, HasWrittenSeats}

pub apart : (u t : KeyedTable) → nat_eq (tree_of u) (tree_of t) ≡ false → tree_of u ≢ tree_of t
apart u t is = eqb-false (tree_of u) (tree_of t) is

-- only one table changed, in which the rows of a constituency have moved so
abbrev pub HasMoved : KeyedTable → (List ℕ × ConState → List Row) → List ℕ → (ConState → ConState → Type 0) → Seen → Seen → Type 0
HasMoved t rows_of code Becomes old new = ChangesOnly t old new × MovesRows t rows_of code Becomes old new

abbrev pub HasMovedSeats : List ℕ → List ℕ → Seen → Seen → Type 0
HasMovedSeats code seats old new = ChangesOnly Seats old new × MovesSeats code seats old new

-- where `cons` had a constituency, a change of its row is a move of any rows like these
pub con_moved : (code : List ℕ) (edition : ℕ) (certified : Bool) (note : List ℕ) (old new : Seen) → HoldsCon code old
    → ((cons : FinMap code_cmp ConState) (before standing : ConState) → get cons code ≡ Some before → HasEdition edition certified note before standing → AreRowsOf con_rows cons (stored_in Cons old)
    → ChangesOnly Cons old new × AreRowsOf con_rows (insert cons code standing) (stored_in Cons new)) → HasMoved Cons con_rows code (HasEdition edition certified note) old new
con_moved code edition certified note old new holds changed = (
  (changed holds.cons holds.before (record holds.before { edition = edition; certified = certified; note = note }) holds.is (refl, refl, refl) holds.rows).0,
  λ cons before standing is becomes held. (changed cons before standing is becomes held).1,
)

only_two : (t u : KeyedTable) (old between new : Seen) → ChangesOnly t old between → ChangesOnly u between new → ChangesAmong (t ∷ u ∷ []) old new
only_two t u old between new first second = record {
  inside = second.inside;
  others = λ w differ. second.others w differ.1.0 ∙ first.others w differ.0;
  setup_is = second.setup_is ∙ first.setup_is;
}

-- a table moves before another is written, or after it
moved_before : (t : KeyedTable) (rows_of : List ℕ × ConState → List Row) (code : List ℕ) (Becomes : ConState → ConState → Type 0) (old between new : Seen) → stored_in t new ≡ stored_in t between
    → MovesRows t rows_of code Becomes old between → MovesRows t rows_of code Becomes old new
moved_before t rows_of code Becomes old between new stays moved cons before standing is becomes held =
    subst (AreRowsOf rows_of (insert cons code standing)) (sym stays) (moved cons before standing is becomes held)

moved_after : (t : KeyedTable) (rows_of : List ℕ × ConState → List Row) (code : List ℕ) (Becomes : ConState → ConState → Type 0) (old between new : Seen) → stored_in t between ≡ stored_in t old
    → MovesRows t rows_of code Becomes between new → MovesRows t rows_of code Becomes old new
moved_after t rows_of code Becomes old between new stays moved cons before standing is becomes held =
    moved cons before standing is becomes (subst (AreRowsOf rows_of cons) (sym stays) held)

pub lot_written : (code : List ℕ) (edition : ℕ) (certified : Bool) (note lot : List ℕ) (old between new : Seen) → HasMoved Cons con_rows code (HasEdition edition certified note) old between
    → HasMoved Lots lot_rows code (HasLot lot) between new → HasWrittenLot code edition certified note lot old new
lot_written code edition certified note lot old between new first second = record {
  only = only_two Cons Lots old between new first.0 second.0;
  cons = moved_before Cons con_rows code (HasEdition edition certified note) old between new (second.0.others Cons (apart Cons Lots refl)) first.1;
  lots = moved_after Lots lot_rows code (HasLot lot) old between new (first.0.others Lots (apart Lots Cons refl)) second.1;
}

pub seats_written : (code : List ℕ) (edition : ℕ) (certified : Bool) (note seats : List ℕ) (old between new : Seen) → HasMoved Cons con_rows code (HasEdition edition certified note) old between
    → HasMovedSeats code seats between new → HasWrittenSeats code edition certified note seats old new
seats_written code edition certified note seats old between new first second = record {
  only = only_two Cons Seats old between new first.0 second.0;
  cons = moved_before Cons con_rows code (HasEdition edition certified note) old between new (second.0.others Cons (apart Cons Seats refl)) first.1;
  seats = λ cons before standing known own others held.
      second.1 cons before standing known own others (subst (AreRowsOf (seat_rows before) cons) (sym (first.0.others Seats (apart Seats Cons refl))) held);
}

pub record_written : (code : List ℕ) (edition : ℕ) (note : List ℕ) (standing : PastSeats) (old between new : Seen) → HasWrittenSeats code edition false note [] old between
    → HasMoved Past past_rows code (HasRecord standing) between new → HasWrittenRecord code edition note standing old new
record_written code edition note standing old between new first second = record {
  only = record {
    inside = second.0.inside;
    others = λ u differ. second.0.others u differ.1.1.0 ∙ first.only.others u (differ.0, (differ.1.0, tt));
    setup_is = second.0.setup_is ∙ first.only.setup_is;
  };
  cons = moved_before Cons con_rows code (HasEdition edition false note) old between new (second.0.others Cons (apart Cons Past refl)) first.cons;
  seats = λ cons before after known own others held.
      subst (AreRowsOf (seat_rows after) cons) (sym (second.0.others Seats (apart Seats Past refl))) (first.seats cons before after known own others held);
  past = moved_after Past past_rows code (HasRecord standing) old between new (first.only.others Past (apart Past Cons refl, (apart Past Seats refl, tt))) second.1;
}
