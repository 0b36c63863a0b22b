-- The records of an input as contracts see them.
use Rattle.std.specs.Prelude.{ℕ, Bool, List, Option}
use Rattle.tally_import_records.specs.declared.end.End.{End}
use Rattle.tally_import_records.specs.declared.separator.Sep.{Sep}

-- The separator of two fields, the bytes after the last place at which nothing but given records
-- came before, how many of their records were given, how many bytes the input gave, how it ended,
-- once it did, and whether more records can be asked for.
pub record Records : Type 0 where
  pub sep : Sep
  pub bytes : List ℕ
  pub given : ℕ
  pub taken : ℕ
  pub end : Option End
  pub at_work : Bool
