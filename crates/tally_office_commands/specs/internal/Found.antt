-- Why the constituency of a code is not found.
use Rattle.std.specs.Prelude.{◌≡◌, Option, Some, None}
use Rattle.tally_setup.specs.Constituency.{Constituency}
use Rattle.tally_office_trouble.specs.declared.trouble.Trouble.{Trouble}
use Rattle.tally_office_trouble.specs.declared.trouble.Trouble.TheVariants.{NoConstituency, Memory}

-- No constituency has the code; or one has it, and its copy ran out of memory.
abbrev pub IsFindTrouble : Option Constituency → Trouble → Type 0
IsFindTrouble None t = t ≡ NoConstituency
IsFindTrouble (Some con) t = t ≡ Memory
