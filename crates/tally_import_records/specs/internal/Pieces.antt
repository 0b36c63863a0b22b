-- A text that is read by pieces.
use Rattle.std.specs.Prelude.{◌≡◌, ◌≤◌, ◌+◌, ◌-◌, ◌*◌, ◌==◌, ◌||◌, ◌++◌, if◌then◌else◌, ℕ, Bool}
use Rattle.std.specs.Prelude.{true, false, List, [], ◌∷◌, take, drop, length, Option, Some, None}
use Rattle.std.specs.Prelude.{IfSome, is_none}
use Rattle.std.specs.Io.KnownBytes.{Consumes}
use Rattle.csv.specs.Reading.{records, strip_bom}
use Rattle.csv.specs.Records.{fields_of}
use Rattle.tally_import_records.specs.Input.{Gave, size_limit}
use Rattle.tally_import_records.specs.internal.Reading.{IsReading, rows_left}
use Rattle.tally_import_records.specs.Separator.{separator, config}
use Rattle.tally_import_records.specs.internal.Text.{bytes_left}
use Rattle.tally_import_records.specs.declared.end.End.{End}
use Rattle.tally_import_records.specs.declared.end.Stop.{Stop}
use Rattle.tally_import_records.specs.declared.held.HeldText.{HeldText}
use Rattle.tally_import_records.specs.declared.text.Text.{Text}
use Rattle.tally_import_records.specs.declared.work.Work.{Work}
use Rattle.tally_import_records.specs.Given.{Came, GaveAllRecords, GivesRecord, HasGiven}
use Rattle.tally_import_records.specs.Given.{WatchAgrees}
use Rattle.tally_import_records.specs.RecordsValue.{Records}
use Rattle.tally_import_records.specs.declared.piece.Rest.{Rest}
use Rattle.tally_import_records.specs.declared.separator.Sep.{Sep}

-- a byte that ends a record, but within quotes
abbrev pub is_line_end : ℕ → Bool
is_line_end c = (c == 13) || (c == 10)

-- the last byte, where there is one, ends a line
abbrev pub ends_line : List ℕ → Bool
ends_line [] = true
ends_line (c ∷ []) = is_line_end c
ends_line (c ∷ d ∷ rest) = ends_line (d ∷ rest)

-- no longer front of these bytes ends a line
abbrev pub EndsNoLineAfter : ℕ → List ℕ → Type 0
EndsNoLineAfter most bytes =
    (size : ℕ) → size ≤ length bytes → ends_line (take size bytes) ≡ true → size ≤ most

-- ---- the input

-- What a read did: these bytes came, and are held after those that were. Of each, the bytes that
-- are held and how many the input gave.
abbrev pub Fills : Option (List ℕ) → Option (List ℕ) → List ℕ → ℕ → List ℕ → ℕ → Option End → Type 0
Fills old_left left old old_taken new new_taken end = (came : List ℕ) × (new ≡ old ++ came)
    × ((text : Option (List ℕ)) (bytes : List ℕ) → Consumes text old_left bytes →
    old_taken ≡ length bytes → Came text left (bytes ++ came) new_taken end)

-- the same of bytes that are held
abbrev pub FillsHeld : Option (List ℕ) → Option (List ℕ) → HeldText → HeldText → Option End → Type 0
FillsHeld old_left left old new end =
    Fills old_left left old.bytes.items old.taken new.bytes.items new.taken end

-- bytes came, and are held after those that were; none may have come
abbrev pub HoldsMore : Option (List ℕ) → Option (List ℕ) → HeldText → HeldText → Type 0
HoldsMore old_left left old new = (came : List ℕ) × (new.bytes.items ≡ old.bytes.items ++ came) ×
    (new.taken ≡ old.taken + length came)
    × ((text : Option (List ℕ)) (bytes : List ℕ) → Consumes text old_left bytes →
    Consumes text left (bytes ++ came))

-- the input ended with what came before, of itself or by a read that failed
abbrev pub Ends : Option (List ℕ) → Option (List ℕ) → Option Stop → Type 0
Ends old_left left stop = (text : Option (List ℕ)) (bytes : List ℕ) → Consumes text old_left bytes →
    length bytes ≤ size_limit → IfSome text (λ t. Gave t left bytes stop)

-- all that came is held, after what was held before
abbrev pub HoldsAllThatCame : HeldText → HeldText → Type 0
HoldsAllThatCame old new = new.taken + length old.bytes.items ≡ old.taken + length new.bytes.items

-- no more bytes are held than came and were held before
abbrev pub HoldsNoMore : HeldText → HeldText → Type 0
HoldsNoMore old new = old.taken + length new.bytes.items ≤ new.taken + length old.bytes.items

-- ---- the records of a piece

-- the input ended of itself
abbrev pub is_whole : Option End → Bool
is_whole None = false
is_whole (Some end) = is_none end.stop

-- the records of a text
abbrev pub text_rows : Sep → List ℕ → List (List (List ℕ))
text_rows sep text = records (config sep) (strip_bom text)

-- The text of a piece: after it a further field is begun, unless the input ended of itself there.
abbrev pub text_of_piece : Bool → Sep → List ℕ → List ℕ
text_of_piece whole sep piece = if whole then piece else piece ++ separator sep ∷ []

-- the records of a piece
abbrev pub piece_rows : Sep → Option End → List ℕ → List (List (List ℕ))
piece_rows sep end piece = text_rows sep (text_of_piece (is_whole end) sep piece)

-- the record that a separator begins after the end of a line
abbrev pub nothing : List (List ℕ)
nothing = [] ∷ [] ∷ []

-- After this many records of a piece, after which more may come, there is only the one that the
-- separator after it begins.
abbrev pub HasNothingAfter : Sep → ℕ → List ℕ → Type 0
HasNothingAfter sep given piece = drop given (piece_rows sep None piece) ≡ nothing ∷ []

-- all records of a piece were given, and it ends a line
abbrev pub IsGivenPiece : Sep → ℕ → List ℕ → Type 0
IsGivenPiece sep given piece = (ends_line piece ≡ true) × HasNothingAfter sep given piece

-- what is left of records: the one ahead, which is not known to be complete, and those after it
abbrev pub IsRest : Bool → List (List (List ℕ)) → Rest → Type 0
IsRest true rows rest = rows ≡ rows_left rest.reader.reader.value
IsRest false rows rest = rows ≡ fields_of rest.ahead ∷ rows_left rest.reader.reader.value

-- more may come after the piece, which ends with a line; or the input ended after it
abbrev pub IsPiece : Option End → List ℕ → ℕ → Type 0
IsPiece None bytes piece = ends_line (take piece bytes) ≡ true
IsPiece (Some end) bytes piece = take piece bytes ≡ bytes

-- the bytes that are held, or that were as the input ended
abbrev pub bytes_at : Option End → HeldText → Text → List ℕ
bytes_at None held last = held.bytes.items
bytes_at (Some end) held last = bytes_left last

abbrev pub bytes_of : Work → List ℕ
bytes_of r = bytes_at r.end r.held r.last.value

-- What a read did of bytes that were held: they are taken up with what came after them.
abbrev pub TakesUp : Option (List ℕ) → Option (List ℕ) → HeldText → Work → Type 0
TakesUp old_left left held r =
    Fills old_left left held.bytes.items held.taken (bytes_of r) r.held.taken r.end

-- the records of an input, at work
pub record IsWorking (r : Work) : Type 0 where
  pub reading : IsReading r.rest.reader.reader.value
  pub rest : IsRest (is_whole r.end)
      (drop r.given (piece_rows r.sep r.end (take r.piece (bytes_of r)))) r.rest
  pub piece : IsPiece r.end (bytes_of r) r.piece
  pub within : r.end ≡ None → r.piece ≤ length (bytes_of r)
  pub limit : r.end ≡ None → r.held.taken ≤ size_limit
  pub few : length (bytes_of r) ≤ r.held.taken + 1

-- What is left where the reader gives no more: the record ahead, or nothing where the input ended
-- of itself.
abbrev pub IsLast : Bool → List (List (List ℕ)) → Rest → Type 0
IsLast true rows rest = rows ≡ []
IsLast false rows rest = rows ≡ fields_of rest.ahead ∷ []

-- the records of an input, after all that their piece has
pub record IsSpent (r : Work) : Type 0 where
  pub last : IsLast (is_whole r.end)
      (drop r.given (piece_rows r.sep r.end (take r.piece (bytes_of r)))) r.rest
  pub piece : IsPiece r.end (bytes_of r) r.piece
  pub within : r.end ≡ None → r.piece ≤ length (bytes_of r)
  pub limit : r.end ≡ None → r.held.taken ≤ size_limit
  pub few : length (bytes_of r) ≤ r.held.taken + 1

-- These bytes are held since the last line after which nothing was given, and this many of their
-- records were given: another one is begun after those.
abbrev pub Begun : Sep → List ℕ → ℕ → Type 0
Begun sep bytes given = (piece : ℕ) × (last : List (List ℕ)) × (piece ≤ length bytes) ×
    (ends_line (take piece bytes) ≡ true)
    × (drop given (piece_rows sep None (take piece bytes)) ≡ last ∷ [])

-- The same of the first of these bytes: the others came after them.
abbrev pub IsBegunIn : Sep → List ℕ → ℕ → Type 0
IsBegunIn sep bytes given =
    (front : List ℕ) × (came : List ℕ) × (bytes ≡ front ++ came) × Begun sep front given

-- It falls with each piece, and is 0 at the end.
abbrev pub size_left : Option End → ℕ → ℕ → ℕ
size_left None taken held = 2 * (16777217 - taken) + held + 1
size_left (Some end) taken held = 0

abbrev pub left_size : Work → ℕ
left_size r = size_left r.end r.held.taken (length r.held.bytes.items)

-- ---- as contracts see them

-- the records, and whether more of them can be asked for
abbrev pub records_of_work : Work → Bool → Records
records_of_work work at_work = record {
  sep = work.sep;
  bytes = bytes_of work;
  given = work.given;
  taken = work.held.taken;
  end = work.end;
  at_work = at_work;
}

-- these are the records of this text that were given so far
abbrev pub HasGivenAt : Option (List ℕ) → Option (List ℕ) → List (List (List ℕ)) → Work → Type 0
HasGivenAt text left given work = HasGiven text left given (records_of_work work true)

-- one more record was given
abbrev pub GivesRecordAt : Option (List ℕ) → Option (List ℕ) → List (List ℕ) → Work → Work → Type 0
GivesRecordAt old_left left fields old new =
    GivesRecord old_left left fields (records_of_work old true) (records_of_work new true)

-- nothing is read, and one more record was given of what was read before
abbrev pub GivesOfPiece : List (List ℕ) → Work → Work → Type 0
GivesOfPiece fields old new = (left : Option (List ℕ)) → GivesRecordAt left left fields old new

-- the records that were given before are all
abbrev pub GaveAllAt : Option (List ℕ) → Option (List ℕ) → Work → Option Stop → Type 0
GaveAllAt old_left left old stop = GaveAllRecords old_left left (records_of_work old true) stop

-- the watch notes what it noted before, and a failed read where one stopped the input
abbrev pub WatchAgreesAt : Bool → Work → Bool → Type 0
WatchAgreesAt before work failed = WatchAgrees before (records_of_work work true) failed

-- the records that were given before are those given now
abbrev pub KeepsGiven : Option (List ℕ) → Option (List ℕ) → Work → Work → Type 0
KeepsGiven old_left left old new = (text : Option (List ℕ)) (given : List (List (List ℕ)))
    → HasGivenAt text old_left given old → HasGivenAt text left given new
