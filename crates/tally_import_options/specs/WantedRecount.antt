-- What a command line asks of a recount.
use Rattle.std.specs.Prelude.{ℕ, Bool, List, Option, option_map, string_bytes}
use Rattle.tally_import_records.specs.declared.separator.Sep.{Sep}
use Rattle.tally_import_options.specs.declared.options.RecountOptions.{RecountOptions}

-- As contracts see it: the stations that are left out and the lot are the texts that were given.
pub record Wanted : Type 0 where
  pub without : Option (List ℕ)
  pub lot : Option (List ℕ)
  pub awards : Bool
  pub decisive : Bool
  pub sep : Sep

abbrev pub wanted : RecountOptions → Wanted
wanted options = record {
  without = option_map string_bytes options.without;
  lot = option_map string_bytes options.lot;
  awards = options.awards;
  decisive = options.decisive;
  sep = options.sep;
}
