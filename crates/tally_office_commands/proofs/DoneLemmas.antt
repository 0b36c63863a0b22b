-- What a command over an office has done, by what its parts came to.
use Rattle.std.proofs.Common.{◌≡◌, ℕ, Bool, true, List, Option, Result, Ok, Err, IfOk}
use Rattle.tally_import_records.specs.declared.separator.Sep.{Sep}
use Rattle.tally_report_names.specs.declared.shown.Shown.{Shown}
use Rattle.tally_office_trouble.specs.declared.trouble.Trouble.{Trouble}
use Rattle.tally_office_commands.specs.Done.{IsFileImported, IsImportedAt, IsShownAt, IsTextShown}
use Rattle.tally_office_commands.specs.Imported.{IsCountText}
use Rattle.tally_office_commands.specs.Offices.{Known}

pub shown-at : {K S : Type 0} (k : Known K) (db : List ℕ) (report : Shown) (con : Option (List ℕ)) (bytes : S → List ℕ) (opened left : K) (outcome : Result S Trouble)
    → k.Finds db opened
    → (k.keeper.IsTrusted left → IfOk outcome (λ text. IsTextShown (k.keeper.constituencies opened) (k.keeper.content opened) report con (bytes text) (k.keeper.content left)))
    → IfOk outcome (λ text. k.Closes db left true → IsShownAt k db report con (bytes text))
shown-at k db report con bytes opened left (Ok text) found shown =
    λ closed. record { opened = opened; left = left; found = found; shown = shown; closed = closed }
shown-at k db report con bytes opened left (Err t) found shown = tt

pub imported-at : {K S : Type 0} (k : Known K) (db con csv : List ℕ) (sep : Sep) (lines : Bool) (bytes : S → List ℕ) (opened left : K) (outcome : Result S Trouble)
    → k.Finds db opened → IfOk outcome (λ text. IsCountText lines (bytes text))
    → (k.keeper.IsTrusted left → IfOk outcome (λ text. IsFileImported (k.Gives csv) con sep lines (k.keeper.constituencies opened) (k.keeper.content opened) (bytes text) (k.keeper.content left)))
    → IfOk outcome (λ text. k.Closes db left true → IsImportedAt k db con csv sep lines (bytes text))
imported-at k db con csv sep lines bytes opened left (Ok text) found counts imported =
    λ closed. record { opened = opened; left = left; found = found; counts = counts; imported = imported; closed = closed }
imported-at k db con csv sep lines bytes opened left (Err t) found counts imported = tt
