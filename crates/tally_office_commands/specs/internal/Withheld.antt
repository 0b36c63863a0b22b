-- Why a report or the progress is not shown.
use Rattle.std.specs.Prelude.{◌≡◌, ℕ, List, Option, Some, None}
use Rattle.tally_setup.specs.Constituency.{Constituency}
use Rattle.tally_setup.specs.Setup.{constituency_with}
use Rattle.tally_returns.specs.declared.refusal.Refusal.{Refusal}
use Rattle.tally_returns.specs.declared.refusal.Refusal.TheVariants as refusal
use Rattle.tally_report.specs.declared.fault.ReportFault.{ReportFault}
use Rattle.tally_office_commands.specs.Show.{report_trouble}
use Rattle.tally_office_trouble.specs.declared.trouble.Trouble.{Trouble}
use Rattle.tally_office_trouble.specs.declared.trouble.Trouble.TheVariants as trouble

-- it holds of the constituency of this code, where there is one
abbrev pub OfCon : List Constituency → List ℕ → (Constituency → Type 0) → Type 0
OfCon setup code Holds = (con : Constituency) → constituency_with code setup ≡ Some con → Holds con

-- the trouble where a report has this fault, or none
abbrev pub IsWithheld : Option ReportFault → Trouble → Type 0
IsWithheld (Some why) t = t ≡ report_trouble why
IsWithheld None t = t ≡ trouble.Memory

-- the trouble where a request that shows something is refused: a keeper that is trusted refuses it
-- for nothing else
abbrev pub refusal_trouble : Refusal → Trouble
refusal_trouble refusal.Memory = trouble.Memory
refusal_trouble other = trouble.Store
