-- Why a command over an office was not done: by the office that was opened at its path, and by what
-- the file gave that it reads.
use Rattle.std.specs.Prelude.{◌≡◌, ◌⊎◌, ℕ, Bool, true, false, is_some, List, Option, Some, None}
use Rattle.std.specs.Prelude.{Err}
use Rattle.tally_setup.specs.Constituency.{Constituency}
use Rattle.tally_setup.specs.Setup.{constituency_with}
use Rattle.tally_returns.specs.State.{State}
use Rattle.tally_report_names.specs.declared.shown.Shown.{Shown}
use Rattle.tally_report_names.specs.declared.shown.Shown.TheVariants as shown
use Rattle.tally_import_records.specs.declared.separator.Sep.{Sep}
use Rattle.tally_office_commands.specs.Done.{IsFileImported, IsTextShown}
use Rattle.tally_office_commands.specs.Imported.{IsTextTrouble}
use Rattle.tally_office_commands.specs.Offices.{AtPath, Known}
use Rattle.tally_office_commands.specs.Results.{IsResultTrouble, IsResultsTrouble}
use Rattle.tally_office_commands.specs.Show.{IsCountryTrouble, IsProgressTrouble}
use Rattle.tally_office_commands.specs.Show.{IsReportTrouble, IsStationsTrouble}
use Rattle.tally_office_trouble.specs.declared.trouble.Trouble.{Trouble}
use Rattle.tally_office_trouble.specs.declared.trouble.Trouble.TheVariants.{NoConstituency, Store}
use Rattle.tally_office_trouble.specs.declared.trouble.Trouble.TheVariants.{Write}
use Rattle.tally_office_trouble.specs.Trouble.{IsTroubleOfOpening, IsTroubleOfReport}
use Rattle.tally_office_trouble.specs.Troubles.{IsTroubleOfFile, IsTroubleOfFileImport}

-- ---- over an office that is open

-- Why the report that is named is not shown.
abbrev pub IsShowTrouble : List Constituency → Option State → Shown → Option (List ℕ) → Trouble
    → Option State → Type 0
IsShowTrouble setup old shown.Progress code t new = IsProgressTrouble setup old t new
IsShowTrouble setup old shown.Country code t new = IsCountryTrouble setup old t new
IsShowTrouble setup old shown.Results code t new = IsResultsTrouble setup old t new
IsShowTrouble setup old shown.Result (Some code) t new = IsResultTrouble setup old code t new
IsShowTrouble setup old (shown.Stations which) (Some code) t new =
    IsStationsTrouble setup old code t new
IsShowTrouble setup old (shown.Report which) (Some code) t new =
    IsReportTrouble setup old code which t new
IsShowTrouble setup old shown.Result None t new = ⊥
IsShowTrouble setup old (shown.Stations which) None t new = ⊥
IsShowTrouble setup old (shown.Report which) None t new = ⊥

-- Why the rows of a file were not imported. There is no such constituency; or there is, and the
-- file cannot be opened, or it is out of memory: nothing was done. Or as of a text, the one that
-- the file gave.
abbrev pub IsFileTrouble : (Option (List ℕ) → Type 0) → List ℕ → Sep → List Constituency
    → Option State → Trouble → Option State → Type 0
IsFileTrouble Gives code sep setup old t new =
    ((is_some (constituency_with code setup) ≡ false) × (t ≡ NoConstituency) × (new ≡ old))
    ⊎ ((is_some (constituency_with code setup) ≡ true) × IsTroubleOfFile t × (new ≡ old))
    ⊎ ((bytes : Option (List ℕ)) × Gives bytes × IsTextTrouble code sep bytes setup old t new)

-- ---- at a path

-- Work was done over the office at a path, and the command has failed after it: not all of the
-- office is there, or its text was not written.
abbrev pub IsUnended : {K : Type 0} → Known K → List ℕ → K → Trouble → Type 0
IsUnended k db left t =
    ((t ≡ Store) × k.Closes db left false) ⊎ ((t ≡ Write) × k.Closes db left true)

-- Why a command over the office at a path was not done, or its text not written. `Fails` says for
-- which trouble its work fails over an office that is opened, and which office that leaves. `Does`
-- says which text its work comes to, and which office that leaves.
pub data IsFailure {K : Type 0} (k : Known K) (db : List ℕ) (Fails : K → Trouble → K → Type 0)
    (Does : K → List ℕ → K → Type 0) (t : Trouble) : Type 0 where
  -- the office could not be opened
  NotOpened : IsTroubleOfOpening t → k.Opens (AtPath db) (Err t) → IsFailure k db Fails Does t
  -- the work failed
  NotDone : (opened left : K) → k.Finds db opened → Fails opened t left
      → IsFailure k db Fails Does t
  -- the work was done, and the office was not closed whole or the text not written
  NotEnded : (opened left : K) (text : List ℕ) → k.Finds db opened → Does opened text left
      → IsUnended k db left t → IsFailure k db Fails Does t

-- Why the report that is named is not shown of the office that was opened at a path, where its disk
-- was clean.
abbrev pub IsShowFailure : {K : Type 0} → Known K → List ℕ → Shown → Option (List ℕ) → Trouble
    → Type 0
IsShowFailure k db report con = IsFailure k db
    (λ opened t left. IsTroubleOfReport t × (k.keeper.IsTrusted left →
    IsShowTrouble (k.keeper.constituencies opened) (k.keeper.content opened) report con t
    (k.keeper.content left)))
    (λ opened text left. k.keeper.IsTrusted left →
    IsTextShown (k.keeper.constituencies opened) (k.keeper.content opened) report con text
    (k.keeper.content left))

-- Why the rows of what a file gave were not imported into the office that was opened at a path, or
-- the text of the import not written, where its disk was clean.
abbrev pub IsImportFailure : {K : Type 0} → Known K → List ℕ → List ℕ → List ℕ → Sep → Bool
    → Trouble → Type 0
IsImportFailure k db con csv sep lines = IsFailure k db
    (λ opened t left. IsTroubleOfFileImport t × (k.keeper.IsTrusted left →
    IsFileTrouble (k.Gives csv) con sep (k.keeper.constituencies opened)
    (k.keeper.content opened) t (k.keeper.content left)))
    (λ opened text left. k.keeper.IsTrusted left →
    IsFileImported (k.Gives csv) con sep lines (k.keeper.constituencies opened)
    (k.keeper.content opened) text (k.keeper.content left))
