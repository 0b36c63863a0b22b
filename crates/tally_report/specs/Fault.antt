-- Why a report is not given.
use Rattle.std.specs.Prelude.{◌≡◌, ℕ, Bool, true, false, Option, Some, None, Result, Err, IfErr}
use Rattle.tally_returns.specs.View.{View}
use Rattle.tally_frac.specs.declared.divisors.DivisorRule.{DivisorRule}
use Rattle.tally_setup.specs.Constituency.{Constituency}
use Rattle.tally_setup.specs.Method.{divisor_rule_of}
use Rattle.tally_report.specs.declared.fault.ReportFault.{ReportFault}
use Rattle.tally_report.specs.declared.fault.ReportFault.TheVariants.{NotCertified, OtherMethod}
use Rattle.tally_report.specs.declared.fault.ReportFault.TheVariants.{Memory}

-- the fault of a report of a certified constituency's seats, where it is certified or not
abbrev pub unless_certified : Bool → Option ReportFault → Option ReportFault
unless_certified true otherwise = otherwise
unless_certified false otherwise = Some NotCertified

-- the fault of a report on divisors, and of one on quotas, by the divisor rule that there is
abbrev pub unless_by_divisors : Option DivisorRule → Option ReportFault
unless_by_divisors (Some rule) = None
unless_by_divisors None = Some OtherMethod

abbrev pub unless_by_quotas : Option DivisorRule → Option ReportFault
unless_by_quotas (Some rule) = Some OtherMethod
unless_by_quotas None = None

-- The fault of a report of seats, of divisors and of quotas. Whether it is certified is checked
-- first.
abbrev pub seats_fault : View → Option ReportFault
seats_fault view = unless_certified view.certified None

abbrev pub divisors_fault : Constituency → View → Option ReportFault
divisors_fault con view =
    unless_certified view.certified (unless_by_divisors (divisor_rule_of con.profile.method))

abbrev pub quotas_fault : Constituency → View → Option ReportFault
quotas_fault con view =
    unless_certified view.certified (unless_by_quotas (divisor_rule_of con.profile.method))

-- A report answers the fault that there is. Where there is none, the only fault that it answers is
-- Memory.
abbrev pub IsRefused : {T : Type 0} → Option ReportFault → Result T ReportFault → Type 0
IsRefused (Some fault) result = result ≡ Err fault
IsRefused None result = IfErr result (λ fault. fault ≡ Memory)

-- the number of a fault
abbrev pub report_fault_number : ReportFault → ℕ
report_fault_number NotCertified = 1
report_fault_number OtherMethod = 2
report_fault_number Memory = 3
