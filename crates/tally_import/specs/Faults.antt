-- The faults of a text of returns that is checked.
use Rattle.std.specs.Prelude.{ℕ}
use Rattle.tally_import_records.specs.declared.end.Stop.{Stop}
use Rattle.tally_import_records.specs.declared.end.Stop.TheVariants as stopped
use Rattle.tally_import.specs.declared.fault.CheckFault.{CheckFault}
use Rattle.tally_import.specs.declared.fault.CheckFault.TheVariants.{BadHeader, TooLong, Read}
use Rattle.tally_import.specs.declared.fault.CheckFault.TheVariants.{Memory, Write}

-- the fault of a check whose text was stopped
abbrev pub check_fault : Stop → CheckFault
check_fault stopped.TooLong = TooLong
check_fault stopped.Read = Read

-- the number of a fault
abbrev pub check_fault_number : CheckFault → ℕ
check_fault_number BadHeader = 1
check_fault_number TooLong = 2
check_fault_number Read = 3
check_fault_number Memory = 4
check_fault_number Write = 5
