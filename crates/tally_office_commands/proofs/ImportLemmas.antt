-- Imports that were not begun, and what comes of a text of which nothing was read.
use Rattle.std.proofs.Common.{◌≡◌, ◌≤◌, ◌+◌, ℕ, Bool, true, false, List, [], length, Option, Some, None, Result, Ok, Err, IfErr, IfOk, OnOk, option_map, refl, sym, ap, ◌∙◌, arith, inl, inr}
use Rattle.std.specs.Prelude.{IsOk}
use Rattle.tally_setup.specs.Constituency.{Constituency}
use Rattle.tally_returns.specs.State.{State, stations_of}
use Rattle.tally_returns_rows.specs.Import.{answers}
use Rattle.tally_keeper.specs.Keeper.{Happens, Imports, IsImportFault, IsOwnFault, failed_import}
use Rattle.tally_returns_rows.specs.NamedRows.{NamesRows}
use Rattle.tally_returns_rows.specs.Source.{Delivery, SourceAt, row_limit}
use Rattle.tally_returns_rows.proofs.RowsLemmas.{length-named_rows}
use Rattle.tally_keeper.proofs.TakenLemmas.{own-first}
use Rattle.tally_import.specs.ReturnRows.{text_coming}
use Rattle.tally_import.specs.ReturnRowsValue.{ReturnRows, rows_to_come, unread_rows}
use Rattle.tally_import_records.specs.declared.separator.Sep.{Sep}
use Rattle.tally_office_commands.specs.Imported.{IsImportText, IsImportTrouble, IsTroubleIn, coming_of, import_text}
use Rattle.tally_office_commands.specs.internal.Found.{IsFindTrouble}
use Rattle.tally_office_commands.specs.internal.Room.{room_of_lines}
use Rattle.tally_office_trouble.specs.Trouble.{import_trouble}
use Rattle.tally_office_trouble.specs.declared.trouble.Trouble.{Trouble}
use Rattle.tally_office_trouble.specs.declared.trouble.Trouble.TheVariants as trouble
use Rattle.tally_returns_rows.specs.declared.import.ImportCount.{ImportCount}
use Rattle.tally_returns_rows.specs.declared.import.NamedRow.{NamedRow}
use Rattle.tally_returns_rows.specs.declared.source.ImportFault.{ImportFault}
use Rattle.tally_returns_rows.specs.declared.source.ImportFault.TheVariants.{BadHeader, TooLong, Read, Memory, Store}

-- an import that was not done, since it was out of memory
pub memory-import : (setup : List Constituency) (old : Option State) (at : SourceAt) → Imports setup old (record { start = at; finish = at }) (Err Memory) old
memory-import setup old at = (own-first at Memory (inl refl), go old)
  where
    go : (o : Option State) → Happens setup o (failed_import Memory) o
    go (Some s) = refl
    go None = tt

-- nothing was done where no constituency was found, or its copy ran out of memory
pub find-trouble : (found : Option Constituency) (sep : Sep) (bytes : Option (List ℕ)) (setup : List Constituency) (old : Option State) (t : Trouble)
    → IsFindTrouble found t → IsTroubleIn found sep bytes setup old t old
find-trouble None sep bytes setup old t is = (is, refl)
find-trouble (Some con) sep bytes setup old t is =
    let at : SourceAt = record { coming = coming_of con sep bytes; given = []; ended = None } in
    (record { start = at; finish = at }, refl, (Memory, memory-import setup old at, is))

-- the state of the rows of a text as a source
abbrev pub rows_at : ReturnRows → SourceAt
rows_at rows = record { coming = rows_to_come rows; given = rows.given; ended = rows.ended }

pub first-coming : (con : Constituency) (sep : Sep) (text : Option (List ℕ)) (rows : ReturnRows)
    → rows ≡ unread_rows con sep text → rows_to_come rows ≡ option_map (text_coming con sep) text
first-coming con sep text rows is = ap rows_to_come is ∙ go text
  where
    go : (o : Option (List ℕ)) → rows_to_come (unread_rows con sep o) ≡ option_map (text_coming con sep) o
    go None = refl
    go (Some t) = refl

-- ---- failed reads

own-no-read : IsOwnFault Read → ⊥
own-no-read (inl is) = cc
own-no-read (inr is) = cc

read-of-source : (d : Delivery) (fault : ImportFault) → IsImportFault d fault → import_trouble fault ≡ trouble.Read → d.finish.ended ≡ Some (Some Read)
read-of-source d BadHeader is ensured = cc
read-of-source d TooLong is ensured = cc
read-of-source d Read (rows, given, inl own) ensured = absurd (own-no-read own)
read-of-source d Read (rows, given, inr (inl source)) ensured = source.0
read-of-source d Read (rows, given, inr (inr many)) ensured = let is = many.0 in cc
read-of-source d Memory is ensured = cc
read-of-source d Store is ensured = cc

-- a failed read is reported only of a source that ended with one
pub read-ended : {S : Type 0} (setup : List Constituency) (old new : Option State) (d : Delivery) (r : Result S Trouble)
    → IfErr r (λ t. IsImportTrouble setup old d t new) → r ≡ Err trouble.Read → d.finish.ended ≡ Some (Some Read)
read-ended setup old new d (Ok text) ensured is = cc
read-ended setup old new d (Err t) (fault, imports, ensured) is =
    let same : t ≡ trouble.Read = cc in
    read-of-source d fault imports.0 (sym ensured ∙ same)

-- the rows of a source were imported only once it came to its end
pub end-then : {S : Type 0} (lines : Bool) (lists : List (List ℕ)) (setup : List Constituency) (old new : Option State) (d : Delivery) (bytes : S → List ℕ) (Then : Type 0) (r : Result S Trouble)
    → IfOk r (λ t. IsImportText lines lists setup old d (bytes t) new) → (d.finish.ended ≡ Some None → Then) → OnOk r Then
end-then lines lists setup old new d bytes Then (Ok text) (count, named, imports, names, is) then = then imports.2.2
end-then lines lists setup old new d bytes Then (Err t) imported then = tt

-- no read failed where no constituency was found, or its copy ran out of memory
pub find-no-read : (found : Option Constituency) (t : Trouble) → IsFindTrouble found t → t ≡ trouble.Read → ⊥
find-no-read None t is read = cc
find-no-read (Some con) t is read = cc

-- ---- the text

-- no more rows are named than an import has
named-few : (setup : List Constituency) (old : Option State) (d : Delivery) (named : List NamedRow) → NamesRows setup old d [] named → length named ≤ row_limit
named-few setup (Some s) d named (rows, given, is) = omega (arith, given.1, length-named_rows 1 rows (answers (stations_of setup) s.returns rows), ap length is)
named-few setup None d named is = absurd is

room-fits : (lines : Bool) (rows most room : ℕ) → rows ≤ most → 128 + room_of_lines lines most ≤ room → 128 + room_of_lines lines rows ≤ room
room-fits false rows most room few fits = fits
room-fits true rows most room few fits = omega (arith, few, fits)

-- the text of an import that was done
pub text-imported : {S : Type 0} (lines : Bool) (lists : List (List ℕ)) (setup : List Constituency) (old new : Option State) (d : Delivery) (bytes : S → List ℕ)
    (count : ImportCount) (named : List NamedRow) (r : Result S Trouble) → Imports setup old d (Ok count) new → NamesRows setup old d [] named
    → IfOk r (λ t. bytes t ≡ import_text lines lists count named) → IfOk r (λ t. IsImportText lines lists setup old d (bytes t) new)
text-imported lines lists setup old new d bytes count named (Ok text) imports names is = (count, named, imports, names, is)
text-imported lines lists setup old new d bytes count named (Err t) imports names is = tt

-- it is never out of memory, since its room was reserved
pub text-fits : {S : Type 0} (lines : Bool) (setup : List Constituency) (old new : Option State) (d : Delivery) (named : List NamedRow) (room : ℕ) (r : Result S Trouble)
    → NamesRows setup old d [] named → 128 + room_of_lines lines row_limit ≤ room → (128 + room_of_lines lines (length named) ≤ room → IsOk r)
    → IfErr r (λ t. IsImportTrouble setup old d t new)
text-fits lines setup old new d named room (Ok text) names fits ok = tt
text-fits lines setup old new d named room (Err t) names fits ok = let is = ok (room-fits lines (length named) row_limit room (named-few setup old d named names) fits) in cc
