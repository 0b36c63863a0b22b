-- What a command line asks of an allotment.
use Rattle.std.specs.Prelude.{ℕ, Bool, List, Option, option_map, string_bytes}
use Rattle.tally_setup.specs.declared.profile.Profile.{Profile}
use Rattle.tally_import_records.specs.declared.separator.Sep.{Sep}
use Rattle.tally_import_options.specs.declared.options.AllotOptions.{AllotOptions}

-- As contracts see it: the lot is the text that was given.
pub record Wanted : Type 0 where
  pub seats : ℕ
  pub profile : Profile
  pub blank : ℕ
  pub lot : Option (List ℕ)
  pub awards : Bool
  pub sep : Sep

abbrev pub wanted : AllotOptions → Wanted
wanted options = record {
  seats = options.seats;
  profile = options.profile;
  blank = options.blank;
  lot = option_map string_bytes options.lot;
  awards = options.awards;
  sep = options.sep;
}
