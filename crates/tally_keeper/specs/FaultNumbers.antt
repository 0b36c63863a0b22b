-- The numbers of the faults of making an office and of opening one, which are part of the product.
use Rattle.std.specs.Prelude.{ℕ}
use Rattle.tally_keeper.specs.declared.fault.CreateFault.{CreateFault}
use Rattle.tally_keeper.specs.declared.fault.CreateFault.TheVariants as making
use Rattle.tally_keeper.specs.declared.fault.OpenFault.{OpenFault}
use Rattle.tally_keeper.specs.declared.fault.OpenFault.TheVariants as opening

abbrev pub create_fault_number : CreateFault → ℕ
create_fault_number (making.Setup fault) = 1
create_fault_number making.NotEmpty = 2
create_fault_number making.Memory = 3
create_fault_number making.Store = 4

abbrev pub open_fault_number : OpenFault → ℕ
open_fault_number opening.NoTables = 1
open_fault_number opening.BadTables = 2
open_fault_number (opening.Setup fault) = 3
open_fault_number opening.Memory = 4
open_fault_number opening.Store = 5
