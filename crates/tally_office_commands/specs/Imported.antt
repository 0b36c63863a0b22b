-- Imports of returns, and what they come to.
use Rattle.std.specs.Prelude.{◌≡◌, ◌++◌, ℕ, Bool, true, false, List, [], Option, Some, None}
use Rattle.std.specs.Prelude.{Ok, Err, option_map}
use Rattle.tally_setup.specs.Constituency.{Constituency, list_codes}
use Rattle.tally_setup.specs.Setup.{constituency_with}
use Rattle.tally_import_records.specs.declared.separator.Sep.{Sep}
use Rattle.tally_returns.specs.State.{State}
use Rattle.tally_keeper.specs.Keeper.{Imports}
use Rattle.tally_returns_rows.specs.NamedRows.{NamesRows}
use Rattle.tally_returns_rows.specs.Source.{Coming, Delivery}
use Rattle.tally_returns_rows.specs.declared.import.ImportCount.{ImportCount}
use Rattle.tally_returns_rows.specs.declared.import.NamedRow.{NamedRow}
use Rattle.tally_returns_rows.specs.declared.source.ImportFault.{ImportFault}
use Rattle.tally_import.specs.CountLines.{count_text}
use Rattle.tally_import.specs.ReturnRows.{text_coming}
use Rattle.tally_import.specs.RowLines.{row_lines}
use Rattle.tally_office_trouble.specs.Trouble.{import_trouble}
use Rattle.tally_office_trouble.specs.declared.trouble.Trouble.{Trouble}
use Rattle.tally_office_trouble.specs.declared.trouble.Trouble.TheVariants.{NoConstituency}

-- the text of an import: the six lines of its count, and where they are asked for the lines of the
-- rows that it names, under a header of these lists
abbrev pub import_text : Bool → List (List ℕ) → ImportCount → List NamedRow → List ℕ
import_text false lists count named = count_text count
import_text true lists count named = count_text count ++ row_lines lists named

-- the text of some import, with lines of rows or without
abbrev pub IsCountText : Bool → List ℕ → Type 0
IsCountText lines text = (lists : List (List ℕ)) × (count : ImportCount)
    × (named : List NamedRow) × (text ≡ import_text lines lists count named)

-- All rows that a source gave within a call were imported, and the text is that of their count, and
-- of those of them that are named.
abbrev pub IsImportText : Bool → List (List ℕ) → List Constituency → Option State → Delivery
    → List ℕ → Option State → Type 0
IsImportText lines lists setup old d text new = (count : ImportCount) × (named : List NamedRow)
    × Imports setup old d (Ok count) new × NamesRows setup old d [] named
    × (text ≡ import_text lines lists count named)

-- The import had a fault, and the trouble is that of this fault. It changed nothing, unless a disk
-- that failed has shut the keeper.
abbrev pub IsImportTrouble : List Constituency → Option State → Delivery → Trouble → Option State
    → Type 0
IsImportTrouble setup old d t new =
    (fault : ImportFault) × Imports setup old d (Err fault) new × (t ≡ import_trouble fault)

-- the same of a source of which this was known
abbrev pub IsImportedComing : Bool → List (List ℕ) → List Constituency → Option State
    → Option Coming → List ℕ → Option State → Type 0
IsImportedComing lines lists setup old known text new =
    (d : Delivery) × (d.start.coming ≡ known) × IsImportText lines lists setup old d text new

abbrev pub IsTroubleComing : List Constituency → Option State → Option Coming → Trouble
    → Option State → Type 0
IsTroubleComing setup old known t new =
    (d : Delivery) × (d.start.coming ≡ known) × IsImportTrouble setup old d t new

-- ---- texts of which the bytes may be known

-- what is to come of a text, for a constituency
abbrev pub coming_of : Constituency → Sep → Option (List ℕ) → Option Coming
coming_of con sep bytes = option_map (text_coming con sep) bytes

-- The rows of a text were imported into the constituency of this code, and this is the text of that
-- import, with lines of rows or without.
abbrev pub IsTextImported : List ℕ → Sep → Bool → Option (List ℕ) → List Constituency
    → Option State → List ℕ → Option State → Type 0
IsTextImported code sep lines bytes setup old text new =
    (con : Constituency) × (constituency_with code setup ≡ Some con)
    × IsImportedComing lines (list_codes con.lists) setup old (coming_of con sep bytes) text new

-- No constituency has the code, and nothing was done; or the import had a fault.
abbrev pub IsTroubleIn : Option Constituency → Sep → Option (List ℕ) → List Constituency
    → Option State → Trouble → Option State → Type 0
IsTroubleIn None sep bytes setup old t new = (t ≡ NoConstituency) × (new ≡ old)
IsTroubleIn (Some con) sep bytes setup old t new =
    IsTroubleComing setup old (coming_of con sep bytes) t new

-- Why the rows of a text were not imported into the constituency of this code.
abbrev pub IsTextTrouble : List ℕ → Sep → Option (List ℕ) → List Constituency → Option State
    → Trouble → Option State → Type 0
IsTextTrouble code sep bytes setup = IsTroubleIn (constituency_with code setup) sep bytes setup
