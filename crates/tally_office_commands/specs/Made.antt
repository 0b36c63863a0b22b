-- What is reported of an office that was made, and why none was made.
use Rattle.std.specs.Prelude.{◌≡◌, ◌≢◌, ◌⊎◌, ⊤, ℕ, List, length, Option, None, IsOk, codes}
use Rattle.tally_import.specs.CountLines.{named_number}
use Rattle.tally_setup.specs.Constituency.{Constituency}
use Rattle.tally_rules.specs.Fault.{IsFaultIn}
use Rattle.tally_rules.specs.Reading.{setup_of_text}
use Rattle.tally_rules.specs.declared.fault.SetupFault.TheVariants as setup
use Rattle.tally_office_trouble.specs.SetupFile.{IsTextOf, IsTroubleOfSetupFile}
use Rattle.tally_office_trouble.specs.Trouble.{IsTroubleOfDatabase}
use Rattle.tally_office_trouble.specs.Troubles.{IsTroubleOfEnding, IsTroubleOfNew}
use Rattle.tally_office_trouble.specs.declared.trouble.Trouble.{Trouble}
use Rattle.tally_office_trouble.specs.declared.trouble.Trouble.TheVariants.{Setup, NotEmpty}
use Rattle.tally_office_trouble.specs.declared.trouble.Trouble.TheVariants.{Memory, Store}

-- a line of how many constituencies there are
abbrev pub constituencies_text : List Constituency → List ℕ
constituencies_text cons = named_number (codes "constituencies") (length cons)

-- Why no office was made of a text: its first fault, without the place; or the text is a setup, and
-- the database has tables of an office. The database may have failed before the text was read, and
-- memory may run out at any place.
abbrev pub IsMakingTrouble : List ℕ → Trouble → Type 0
IsMakingTrouble text (Setup fault place) =
    IsFaultIn (setup_of_text text) fault × (fault ≢ setup.Memory) × (place ≡ None)
IsMakingTrouble text NotEmpty = IsOk (setup_of_text text)
IsMakingTrouble text Memory = ⊤
IsMakingTrouble text Store = ⊤
IsMakingTrouble text other = ⊥

-- A file gave the text of a setup.
abbrev pub GivesSetup : (Option (List ℕ) → Type 0) → Type 0
GivesSetup Gives = (text : List ℕ) × IsTextOf Gives text × IsOk (setup_of_text text)

-- Why no office was made of the file of a setup, or its line not written. The file gave no setup,
-- for this trouble; or it gave one, and the trouble is the database's or that of the ending.
abbrev pub IsNewTrouble : (Option (List ℕ) → Type 0) → Trouble → Type 0
IsNewTrouble Gives t = IsTroubleOfNew t × (IsTroubleOfSetupFile Gives t
    ⊎ (GivesSetup Gives × ((t ≡ NotEmpty) ⊎ IsTroubleOfDatabase t ⊎ IsTroubleOfEnding t)))
