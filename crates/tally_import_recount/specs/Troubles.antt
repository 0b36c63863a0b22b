-- Why returns were not counted: the line of each trouble on standard error, and its status.
use Rattle.std.specs.Prelude.{◌++◌, ℕ, List, Option, Some, None, codes}
use Rattle.tally_import_votes.specs.Troubles.{allot_line, allot_status}
use Rattle.tally_import_recount.specs.declared.fault.RecountTrouble.{RecountTrouble}
use Rattle.tally_import_recount.specs.declared.fault.RecountTrouble.TheVariants as trouble

-- with the code, where the word is one
abbrev pub no_station_line : Option (List ℕ) → List ℕ
no_station_line None = codes "refused: no_station\n"
no_station_line (Some code) = codes "refused: no_station " ++ code ++ codes "\n"

abbrev pub recount_line : RecountTrouble → List ℕ
recount_line (trouble.NoStation code) = no_station_line code
recount_line (trouble.Allot t) = allot_line t

abbrev pub recount_status : RecountTrouble → ℕ
recount_status (trouble.NoStation code) = 1
recount_status (trouble.Allot t) = allot_status t
