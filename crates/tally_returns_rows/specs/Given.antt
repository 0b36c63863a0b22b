-- The rows that a source gave.
use Rattle.std.specs.Prelude.{List, [], ◌∷◌, ◌++◌, Option, Some, None, Result, Ok, Err}
use Rattle.tally_returns_rows.specs.declared.import.Row.{Row}
use Rattle.tally_returns_rows.specs.declared.given.Given.{Given}
use Rattle.tally_returns_rows.specs.declared.given.Given.TheVariants.{Nothing, More'}
use Rattle.tally_returns_rows.specs.declared.source.ImportFault.{ImportFault}

-- the rows of a list that only clauses see
abbrev pub rows_of : Given → List Row
rows_of Nothing = []
rows_of (More' shape front last) = rows_of front ++ last.value ∷ []

-- the rows that were given, with the one that a call gives
abbrev pub with_given : List Row → Result (Option Row) ImportFault → List Row
with_given given (Ok (Some row)) = given ++ row ∷ []
with_given given (Ok None) = given
with_given given (Err fault) = given
