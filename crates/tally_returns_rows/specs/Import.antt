-- An import: the Lodge commands of its rows one by one, bad rows passed over, and the count of what
-- they were answered.
use Rattle.std.specs.Prelude.{◌≡◌, if◌then◌else◌, ◌+◌, ◌<◌, not, ℕ, Bool, true, false, List, []}
use Rattle.std.specs.Prelude.{◌∷◌, Option, Some, None, Result, Ok, Err, count_by}
use Rattle.tally_setup.specs.Code.{is_code}
use Rattle.tally_returns.specs.Counts.{VoteCounts}
use Rattle.tally_returns.specs.Return.{Returns}
use Rattle.tally_returns.specs.Refusals.{refusal_number}
use Rattle.tally_returns.specs.Lodge.{Stations, lodge, lodge_answer}
use Rattle.tally_returns.specs.declared.ask.Ask.TheVariants.{Lodge}
use Rattle.tally_returns.specs.declared.refusal.Refusal.{Refusal}
use Rattle.tally_returns.specs.declared.refusal.Refusal.TheVariants.{Differs}
use Rattle.tally_returns.specs.declared.reply.LodgeReply.{LodgeReply}
use Rattle.tally_returns.specs.declared.reply.LodgeReply.TheVariants.{Lodged, Same}
use Rattle.tally_returns_rows.specs.declared.import.ImportCount.{ImportCount}
use Rattle.tally_returns_rows.specs.declared.import.FirstRow.{FirstRow}
use Rattle.tally_returns_rows.specs.declared.import.Row.{Row}
use Rattle.tally_returns_rows.specs.declared.import.Row.TheVariants as row
use Rattle.tally_returns_rows.specs.declared.source.ImportFault.{ImportFault}
use Rattle.tally_returns_rows.specs.declared.source.ImportFault.TheVariants as fault

-- what a row was answered: nothing where it is bad, or a command other than Lodge
abbrev pub RowAnswer : Type 0
RowAnswer = Option (Result LodgeReply Refusal)

-- The slip of a row is a code.
abbrev pub IsCodedRow : Row → Type 0
IsCodedRow (row.Lodge (Lodge station slip counts)) = is_code slip ≡ true
IsCodedRow other = Unit {0}

abbrev pub row_answer : Stations → Returns → Row → RowAnswer
row_answer stations returns (row.Lodge (Lodge station slip counts)) =
    Some (lodge_answer stations returns station slip counts)
row_answer stations returns other = None

-- the returns after a row
abbrev pub after_row : Stations → Returns → Row → Returns
after_row stations returns (row.Lodge (Lodge station slip counts)) =
    lodge stations returns station slip counts
after_row stations returns other = returns

-- what the rows are answered, in order
abbrev pub answers : Stations → Returns → List Row → List RowAnswer
answers stations returns [] = []
answers stations returns (r ∷ rows) =
    row_answer stations returns r ∷ answers stations (after_row stations returns r) rows

-- the returns after all rows
abbrev pub returns_after_import : Stations → Returns → List Row → Returns
returns_after_import stations returns [] = returns
returns_after_import stations returns (r ∷ rows) =
    returns_after_import stations (after_row stations returns r) rows

-- one thing of a row that was lodged, another of one that was there already, of a refused one, of a
-- bad one
abbrev pub by_answer : {X : Type 0} → X → X → (Refusal → X) → X → RowAnswer → X
by_answer lodged same refused bad (Some (Ok (Lodged rev))) = lodged
by_answer lodged same refused bad (Some (Ok (Same rev))) = same
by_answer lodged same refused bad (Some (Err refusal)) = refused refusal
by_answer lodged same refused bad None = bad

abbrev pub is_lodged : RowAnswer → Bool
is_lodged = by_answer true false (λ e. false) false

abbrev pub is_same : RowAnswer → Bool
is_same = by_answer false true (λ e. false) false

-- the refusal of a return that differs from the one that is recorded
abbrev pub says_differs : Refusal → Bool
says_differs (Differs rev) = true
says_differs other = false

-- another return of the station is recorded
abbrev pub is_differing : RowAnswer → Bool
is_differing = by_answer false false says_differs false

-- refused for another reason
abbrev pub is_refused : RowAnswer → Bool
is_refused = by_answer false false (λ e. not (says_differs e)) false

abbrev pub is_bad : RowAnswer → Bool
is_bad = by_answer false false (λ e. false) true

-- what is noted of a row that was neither lodged nor there already: its refusal's number, or 0 of a
-- bad one
abbrev pub note_number : RowAnswer → Option ℕ
note_number = by_answer None None (λ e. Some (refusal_number e)) (Some 0)

abbrev pub or_else : {X : Type 0} → Option X → Option X → Option X
or_else (Some x) later = Some x
or_else None later = later

-- the note of the row with this number
abbrev pub note_at : ℕ → Option ℕ → Option FirstRow
note_at at (Some n) = Some (record { row = at; number = n })
note_at at None = None

-- the first note, where the first row of the list has this number
abbrev pub first_note : ℕ → List RowAnswer → Option FirstRow
first_note at [] = None
first_note at (a ∷ rest) = or_else (note_at at (note_number a)) (first_note (at + 1) rest)

-- the count with one more refused row
abbrev pub with_refusal : ImportCount → ℕ → Refusal → ImportCount
with_refusal c row refusal = record c {
  differs = c.differs + (if says_differs refusal then 1 else 0);
  refused = c.refused + (if says_differs refusal then 0 else 1);
  first = or_else c.first (note_at row (Some (refusal_number refusal)));
}

-- the count with one more row
abbrev pub count_with_row : ImportCount → ℕ → RowAnswer → ImportCount
count_with_row c row a = record {
  lodged = c.lodged + (if is_lodged a then 1 else 0);
  same = c.same + (if is_same a then 1 else 0);
  differs = c.differs + (if is_differing a then 1 else 0);
  refused = c.refused + (if is_refused a then 1 else 0);
  bad = c.bad + (if is_bad a then 1 else 0);
  first = or_else c.first (note_at row (note_number a));
}

-- none of its numbers is as high as that of the row that comes
pub record IsBelow (c : ImportCount) (row : ℕ) : Type 0 where
  pub lodged : c.lodged < row
  pub same : c.same < row
  pub differs : c.differs < row
  pub refused : c.refused < row
  pub bad : c.bad < row

-- how many rows were answered what
abbrev pub count_of : List RowAnswer → ImportCount
count_of answered = record {
  lodged = count_by is_lodged answered;
  same = count_by is_same answered;
  differs = count_by is_differing answered;
  refused = count_by is_refused answered;
  bad = count_by is_bad answered;
  first = first_note 1 answered;
}

-- the counts of the returns that rows lodged, in order
abbrev pub lodged_counts : List Row → List RowAnswer → List VoteCounts
lodged_counts (row.Lodge (Lodge station slip counts) ∷ rows) (Some (Ok (Lodged rev)) ∷ answered) =
    counts ∷ lodged_counts rows answered
lodged_counts (r ∷ rows) (a ∷ answered) = lodged_counts rows answered
lodged_counts [] answered = []
lodged_counts (r ∷ rows) [] = []

-- the number of a fault
abbrev pub import_fault_number : ImportFault → ℕ
import_fault_number fault.BadHeader = 1
import_fault_number fault.TooLong = 2
import_fault_number fault.Read = 3
import_fault_number fault.Memory = 4
import_fault_number fault.Store = 5
