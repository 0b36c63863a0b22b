-- What a command over an office has done when it writes its text: by the office that was opened or
-- made at its path, and by what the file gave that it reads.
use Rattle.std.specs.Prelude.{◌≡◌, ℕ, Bool, true, List, Option, Some, None, Ok}
use Rattle.tally_import_records.specs.declared.separator.Sep.{Sep}
use Rattle.tally_report_names.specs.declared.shown.Shown.{Shown}
use Rattle.tally_report_names.specs.declared.shown.Shown.TheVariants as shown
use Rattle.tally_returns.specs.State.{State}
use Rattle.tally_rules.specs.Reading.{setup_of_text}
use Rattle.tally_setup.specs.Constituency.{Constituency}
use Rattle.tally_office_trouble.specs.SetupFile.{IsTextOf}
use Rattle.tally_office_commands.specs.Imported.{IsCountText, IsTextImported}
use Rattle.tally_office_commands.specs.Made.{constituencies_text}
use Rattle.tally_office_commands.specs.Offices.{Known}
use Rattle.tally_office_commands.specs.Results.{AreResultsShown, IsResultShown}
use Rattle.tally_office_commands.specs.Show.{AreStationsShown, IsCountryShown}
use Rattle.tally_office_commands.specs.Show.{IsProgressShown, IsReportShown}

-- ---- new

-- An office was made at a path, of the text that a file gave, which is that of its setup. The line
-- says how many constituencies it has, and all of the office is there.
pub record IsMadeAt {K : Type 0} (k : Known K) (db setup line : List ℕ) : Type 0 where
  pub text : List ℕ
  pub made : K
  pub gives : IsTextOf (k.Gives setup) text
  pub makes : k.Makes db text made
  pub is : setup_of_text text ≡ Ok (k.keeper.constituencies made)
  pub says : line ≡ constituencies_text (k.keeper.constituencies made)
  pub closed : k.Closes db made true

-- ---- import

-- The rows of what a file gave were imported into the constituency of this code, and this is the
-- text of that import, with lines of rows or without.
abbrev pub IsFileImported : (Option (List ℕ) → Type 0) → List ℕ → Sep → Bool → List Constituency
    → Option State → List ℕ → Option State → Type 0
IsFileImported Gives code sep lines setup old text new = (bytes : Option (List ℕ)) × Gives bytes
    × IsTextImported code sep lines bytes setup old text new

-- The rows of what a file gave were imported into the office that was opened at a path, where its
-- disk was clean, and this is the text of that import. All of the office that it left is there.
pub record IsImportedAt {K : Type 0} (k : Known K) (db con csv : List ℕ) (sep : Sep)
    (lines : Bool) (text : List ℕ) : Type 0 where
  pub opened : K
  pub left : K
  pub found : k.Finds db opened
  pub counts : IsCountText lines text
  pub imported : k.keeper.IsTrusted left →
      IsFileImported (k.Gives csv) con sep lines (k.keeper.constituencies opened)
      (k.keeper.content opened) text (k.keeper.content left)
  pub closed : k.Closes db left true

-- ---- show

-- The text is the report that is named, of the constituency of this code where it is of one.
abbrev pub IsTextShown : List Constituency → Option State → Shown → Option (List ℕ) → List ℕ
    → Option State → Type 0
IsTextShown setup old shown.Progress code text new = IsProgressShown setup old text new
IsTextShown setup old shown.Country code text new = IsCountryShown setup old text new
IsTextShown setup old shown.Results code text new = AreResultsShown setup old text new
IsTextShown setup old shown.Result (Some code) text new = IsResultShown setup old code text new
IsTextShown setup old (shown.Stations which) (Some code) text new =
    AreStationsShown setup old code which text new
IsTextShown setup old (shown.Report which) (Some code) text new =
    IsReportShown setup old code which text new
IsTextShown setup old shown.Result None text new = ⊥
IsTextShown setup old (shown.Stations which) None text new = ⊥
IsTextShown setup old (shown.Report which) None text new = ⊥

-- The text is that report of the office that was opened at a path, where its disk was clean. All of
-- the office is there.
pub record IsShownAt {K : Type 0} (k : Known K) (db : List ℕ) (report : Shown)
    (con : Option (List ℕ)) (text : List ℕ) : Type 0 where
  pub opened : K
  pub left : K
  pub found : k.Finds db opened
  pub shown : k.keeper.IsTrusted left → IsTextShown (k.keeper.constituencies opened)
      (k.keeper.content opened) report con text (k.keeper.content left)
  pub closed : k.Closes db left true
