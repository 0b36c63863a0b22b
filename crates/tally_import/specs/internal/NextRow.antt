-- What the parts of a call for the next row answer.
use Rattle.std.specs.Prelude.{ℕ, List, Option, Result}
use Rattle.tally_setup.specs.Constituency.{Constituency}
use Rattle.tally_returns_rows.specs.declared.import.Row.{Row}
use Rattle.tally_returns_rows.specs.declared.source.ImportFault.{ImportFault}
use Rattle.tally_import_records.specs.declared.separator.Sep.{Sep}
use Rattle.tally_import.specs.ReturnRows.{Advances, IsAtStage}
use Rattle.tally_import.specs.declared.return_rows.Stage.{Stage}

-- Of each text that may be at this stage: what a call gives from there to the next stage.
abbrev pub AdvancesAny : Option (List ℕ) → Stage
    → Result (Option Row) ImportFault → Option (List ℕ) → Stage → Type 0
AdvancesAny old_left old result left new = (text : Option (List ℕ)) (con : Constituency) (sep : Sep)
    → IsAtStage text old_left con sep old → Advances text con sep old_left old result left new
