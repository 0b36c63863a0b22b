-- Which troubles each command of the program can have, and each part of one.
use Rattle.std.specs.Prelude.{◌≡◌, ◌⊎◌, None, codes}
use Rattle.tally_rules.specs.declared.fault.SetupFault.TheVariants as setup
use Rattle.tally_office_trouble.specs.Trouble.{IsTroubleOfMaking, IsTroubleOfOpening}
use Rattle.tally_office_trouble.specs.Trouble.{IsTroubleOfReport, IsTroubleOfText}
use Rattle.tally_office_trouble.specs.declared.trouble.Trouble.{Trouble}
use Rattle.tally_office_trouble.specs.declared.trouble.Trouble.TheVariants.{Memory, Store, File}
use Rattle.tally_office_trouble.specs.declared.trouble.Trouble.TheVariants.{Read, Setup}
use Rattle.tally_office_trouble.specs.declared.trouble.Trouble.TheVariants.{Write, Port}

-- ---- parts

-- of opening a file that is read
abbrev pub IsTroubleOfFile : Trouble → Type 0
IsTroubleOfFile t = (t ≡ Memory) ⊎ (t ≡ File)

-- of a text of a setup that is over its limit
abbrev pub IsOverLimit : Trouble → Type 0
IsOverLimit (Setup (setup.OverLimit key) place) = (key.now ≡ codes "text") × (place ≡ None)
IsOverLimit other = ⊥

-- of reading the text of a setup
abbrev pub IsTroubleOfSetupText : Trouble → Type 0
IsTroubleOfSetupText t = IsOverLimit t ⊎ (t ≡ Memory) ⊎ (t ≡ Read)

-- of reading a setup
abbrev pub IsTroubleOfReading : Trouble → Type 0
IsTroubleOfReading t = IsTroubleOfFile t ⊎ IsTroubleOfSetupText t

-- of importing a file into the constituency of a code
abbrev pub IsTroubleOfFileImport : Trouble → Type 0
IsTroubleOfFileImport t = IsTroubleOfFile t ⊎ IsTroubleOfText t

-- of a server that does not listen yet, its office being open
abbrev pub IsTroubleBeforeServing : Trouble → Type 0
IsTroubleBeforeServing t = (t ≡ Memory) ⊎ (t ≡ Port)

-- of closing an office and writing what a command came to: never out of memory
abbrev pub IsTroubleOfEnding : Trouble → Type 0
IsTroubleOfEnding t = (t ≡ Store) ⊎ (t ≡ Write)

-- ---- commands

abbrev pub IsTroubleOfNew : Trouble → Type 0
IsTroubleOfNew t = IsTroubleOfReading t ⊎ IsTroubleOfMaking t ⊎ IsTroubleOfEnding t

abbrev pub IsTroubleOfImport : Trouble → Type 0
IsTroubleOfImport t = IsTroubleOfOpening t ⊎ IsTroubleOfFileImport t ⊎ IsTroubleOfEnding t

abbrev pub IsTroubleOfShow : Trouble → Type 0
IsTroubleOfShow t = IsTroubleOfOpening t ⊎ IsTroubleOfReport t ⊎ IsTroubleOfEnding t

abbrev pub IsTroubleOfServe : Trouble → Type 0
IsTroubleOfServe t = IsTroubleOfOpening t ⊎ IsTroubleBeforeServing t ⊎ IsTroubleOfEnding t
