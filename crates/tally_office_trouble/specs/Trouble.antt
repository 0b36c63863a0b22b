-- Why a command was not done: the line on standard error, the exit status, and the faults that
-- it comes of.
use Rattle.std.specs.Prelude.{◌≡◌, ◌≢◌, ◌⊎◌, ◌++◌, ℕ, List, Option, None, codes}
use Rattle.tally_rules.specs.declared.fault.SetupFault.{SetupFault}
use Rattle.tally_rules.specs.declared.fault.SetupFault.TheVariants as setup
use Rattle.tally_rules.specs.declared.place.Place.{Place}
use Rattle.tally_import.specs.declared.CheckFault.{CheckFault}
use Rattle.tally_import.specs.declared.CheckFault.TheVariants as check
use Rattle.tally_returns_rows.specs.declared.source.ImportFault.{ImportFault}
use Rattle.tally_returns_rows.specs.declared.source.ImportFault.TheVariants as lodging
use Rattle.tally_keeper.specs.declared.fault.CreateFault.{CreateFault}
use Rattle.tally_keeper.specs.declared.fault.CreateFault.TheVariants as create
use Rattle.tally_keeper.specs.declared.fault.OpenFault.{OpenFault}
use Rattle.tally_keeper.specs.declared.fault.OpenFault.TheVariants as opening
use Rattle.tally_office_trouble.specs.Place.{place_lines}
use Rattle.tally_office_trouble.specs.declared.trouble.Trouble.{Trouble}
use Rattle.tally_office_trouble.specs.declared.trouble.Trouble.TheVariants.{Setup, NotEmpty}
use Rattle.tally_office_trouble.specs.declared.trouble.Trouble.TheVariants.{NoTables}
use Rattle.tally_office_trouble.specs.declared.trouble.Trouble.TheVariants.{BadTables, BadSetup}
use Rattle.tally_office_trouble.specs.declared.trouble.Trouble.TheVariants.{NoConstituency}
use Rattle.tally_office_trouble.specs.declared.trouble.Trouble.TheVariants.{BadHeader}
use Rattle.tally_office_trouble.specs.declared.trouble.Trouble.TheVariants.{TooLong, NotCertified}
use Rattle.tally_office_trouble.specs.declared.trouble.Trouble.TheVariants.{OtherMethod, Memory}
use Rattle.tally_office_trouble.specs.declared.trouble.Trouble.TheVariants.{Store}
use Rattle.tally_office_trouble.specs.declared.trouble.Trouble.TheVariants.{File, Read, Write}
use Rattle.tally_office_trouble.specs.declared.trouble.Trouble.TheVariants.{Port}

-- ---- the line

-- of a text that is not a setup
abbrev pub setup_line : SetupFault → List ℕ
setup_line setup.NotToml = codes "refused: not_toml\n"
setup_line (setup.Missing key) = codes "refused: missing " ++ key.now ++ codes "\n"
setup_line (setup.BadValue key) = codes "refused: bad_value " ++ key.now ++ codes "\n"
setup_line (setup.OverLimit key) = codes "refused: over_limit " ++ key.now ++ codes "\n"
setup_line (setup.Duplicate code) = codes "refused: duplicate " ++ code ++ codes "\n"
setup_line setup.UnknownProfile = codes "refused: unknown_profile\n"
setup_line setup.Memory = codes "failed: memory\n"

abbrev pub trouble_line : Trouble → List ℕ
trouble_line (Setup fault place) = setup_line fault ++ place_lines place
trouble_line NotEmpty = codes "refused: not_empty\n"
trouble_line NoTables = codes "refused: no_tables\n"
trouble_line BadTables = codes "refused: bad_tables\n"
trouble_line BadSetup = codes "refused: bad_setup\n"
trouble_line NoConstituency = codes "refused: no_constituency\n"
trouble_line BadHeader = codes "refused: bad_header\n"
trouble_line TooLong = codes "refused: too_long\n"
trouble_line NotCertified = codes "refused: not_certified\n"
trouble_line OtherMethod = codes "refused: other_method\n"
trouble_line Memory = codes "failed: memory\n"
trouble_line Store = codes "failed: store\n"
trouble_line File = codes "failed: file\n"
trouble_line Read = codes "failed: read\n"
trouble_line Write = codes "failed: write\n"
trouble_line Port = codes "failed: port\n"

-- ---- the exit status: 1 where the line says `refused`, 3 where it says `failed`

abbrev pub setup_status : SetupFault → ℕ
setup_status setup.NotToml = 1
setup_status (setup.Missing key) = 1
setup_status (setup.BadValue key) = 1
setup_status (setup.OverLimit key) = 1
setup_status (setup.Duplicate code) = 1
setup_status setup.UnknownProfile = 1
setup_status setup.Memory = 3

abbrev pub trouble_status : Trouble → ℕ
trouble_status (Setup fault place) = setup_status fault
trouble_status NotEmpty = 1
trouble_status NoTables = 1
trouble_status BadTables = 1
trouble_status BadSetup = 1
trouble_status NoConstituency = 1
trouble_status BadHeader = 1
trouble_status TooLong = 1
trouble_status NotCertified = 1
trouble_status OtherMethod = 1
trouble_status Memory = 3
trouble_status Store = 3
trouble_status File = 3
trouble_status Read = 3
trouble_status Write = 3
trouble_status Port = 3

-- ---- faults

abbrev pub create_trouble : CreateFault → Trouble
create_trouble (create.Setup setup.Memory) = Memory
create_trouble (create.Setup fault) = Setup fault None
create_trouble create.NotEmpty = NotEmpty
create_trouble create.Memory = Memory
create_trouble create.Store = Store

abbrev pub open_trouble : OpenFault → Trouble
open_trouble opening.NoTables = NoTables
open_trouble opening.BadTables = BadTables
open_trouble (opening.Setup fault) = BadSetup
open_trouble opening.Memory = Memory
open_trouble opening.Store = Store

abbrev pub import_trouble : ImportFault → Trouble
import_trouble lodging.BadHeader = BadHeader
import_trouble lodging.TooLong = TooLong
import_trouble lodging.Read = Read
import_trouble lodging.Memory = Memory
import_trouble lodging.Store = Store

abbrev pub check_trouble : CheckFault → Trouble
check_trouble check.BadHeader = BadHeader
check_trouble check.TooLong = TooLong
check_trouble check.Read = Read
check_trouble check.Memory = Memory
check_trouble check.Write = Write

-- ---- which troubles there are

-- of a database that is open
abbrev pub IsTroubleOfDatabase : Trouble → Type 0
IsTroubleOfDatabase t = (t ≡ Memory) ⊎ (t ≡ Store)

-- of a text that is not a setup
abbrev pub IsTroubleOfSetup : Trouble → Type 0
IsTroubleOfSetup t =
    (fault : SetupFault) × (place : Option Place) × (t ≡ Setup fault place) × (fault ≢ setup.Memory)

-- of making an office
abbrev pub IsTroubleOfMaking : Trouble → Type 0
IsTroubleOfMaking t = IsTroubleOfSetup t ⊎ (t ≡ NotEmpty) ⊎ IsTroubleOfDatabase t

-- of opening one
abbrev pub IsTroubleOfOpening : Trouble → Type 0
IsTroubleOfOpening t = (t ≡ NoTables) ⊎ (t ≡ BadTables) ⊎ (t ≡ BadSetup) ⊎ IsTroubleOfDatabase t

-- of importing the rows of a text
abbrev pub IsTroubleOfRows : Trouble → Type 0
IsTroubleOfRows t = (t ≡ BadHeader) ⊎ (t ≡ TooLong) ⊎ (t ≡ Read) ⊎ IsTroubleOfDatabase t

-- of importing a text into the constituency of a code
abbrev pub IsTroubleOfText : Trouble → Type 0
IsTroubleOfText t = (t ≡ NoConstituency) ⊎ IsTroubleOfRows t

-- of showing a report
abbrev pub IsTroubleOfReport : Trouble → Type 0
IsTroubleOfReport t =
    (t ≡ NoConstituency) ⊎ (t ≡ NotCertified) ⊎ (t ≡ OtherMethod) ⊎ IsTroubleOfDatabase t

-- of showing the progress
abbrev pub IsTroubleOfProgress : Trouble → Type 0
IsTroubleOfProgress t = IsTroubleOfDatabase t
