-- How a text of returns is read: as the kit's `csv` reads it (after RFC 4180), with a comma or a
-- semicolon between fields.
use Rattle.std.specs.Prelude.{ℕ}
use Rattle.csv.specs.Reading.{default_config}
use Rattle.csv.specs.declared.parser.Config.{Config}
use Rattle.tally_import_records.specs.declared.separator.Sep.{Sep}
use Rattle.tally_import_records.specs.declared.separator.Sep.TheVariants.{Comma, Semicolon}

-- the byte between two fields
abbrev pub separator : Sep → ℕ
separator Comma = 44
separator Semicolon = 59

abbrev pub config : Sep → Config
config sep = record default_config { delimiter = separator sep }
