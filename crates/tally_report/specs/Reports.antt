-- The reports of a constituency: the text of each, and where it is not given.
use Rattle.std.specs.Prelude.{◌≡◌, ℕ, Bool, true, false, if◌then◌else◌, IsTrue, List, Option, Some}
use Rattle.std.specs.Prelude.{None, bytes_eq, codes}
use Rattle.tally_setup.specs.Constituency.{Constituency}
use Rattle.tally_returns.specs.View.{View}
use Rattle.tally_machine_law.specs.Outcome.{IsLawfulView}
use Rattle.tally_report.specs.AwardsText.{IsAwardsText}
use Rattle.tally_report.specs.Fault.{divisors_fault, quotas_fault, seats_fault}
use Rattle.tally_report.specs.HoldersText.{holders_text}
use Rattle.tally_report.specs.PastText.{past_text}
use Rattle.tally_report.specs.ProvisionalText.{IsProvisionalText}
use Rattle.tally_report.specs.QuotaText.{quota_text}
use Rattle.tally_report.specs.QuotientsText.{quotients_text}
use Rattle.tally_report.specs.SeatsText.{seats_text}
use Rattle.tally_report.specs.ShortText.{IsShortText}
use Rattle.tally_report.specs.TallyText.{tally_text}
use Rattle.tally_report.specs.declared.fault.ReportFault.{ReportFault}
use Rattle.tally_report_names.specs.declared.report.Report.{Report}
use Rattle.tally_report_names.specs.declared.report.Report.TheVariants as report

-- ---- texts

-- a text of a report
abbrev pub IsReport : Constituency → View → Report → List ℕ → Type 0
IsReport con view report.Tally text = text ≡ tally_text con view
IsReport con view report.Seats text = text ≡ seats_text con view
IsReport con view report.Quotients text = text ≡ quotients_text con view
IsReport con view report.Awards text = IsAwardsText con view text
IsReport con view report.Quota text = text ≡ quota_text con view
IsReport con view report.Short text = IsShortText con view text
IsReport con view report.Holders text = text ≡ holders_text con view
IsReport con view report.Past text = text ≡ past_text con view
IsReport con view report.Provisional text = IsProvisionalText con view text

-- whether the text of a report is exact only on a view that a lawful state has
abbrev pub needs_lawful : Report → Bool
needs_lawful report.Quotients = true
needs_lawful report.Awards = true
needs_lawful report.Short = true
needs_lawful report.Provisional = true
needs_lawful other = false

-- What has to be known of a view that fits its constituency, for the text of a report to be exact:
-- that a lawful state has it, if the report needs that, or else nothing.
abbrev pub IsEnoughFor : Report → Constituency → View → Type 0
IsEnoughFor which con view = IsTrue (needs_lawful which) → IsLawfulView con view

-- Why a report is not given: the constituency is not certified, or its seats are allotted by
-- another rule.
abbrev pub report_fault : Constituency → View → Report → Option ReportFault
report_fault con view report.Tally = None
report_fault con view report.Seats = seats_fault view
report_fault con view report.Quotients = divisors_fault con view
report_fault con view report.Awards = divisors_fault con view
report_fault con view report.Quota = quotas_fault con view
report_fault con view report.Short = divisors_fault con view
report_fault con view report.Holders = seats_fault view
report_fault con view report.Past = None
report_fault con view report.Provisional = None
