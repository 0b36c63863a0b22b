-- How far a recount has come.
use Rattle.std.specs.Prelude.{◌≡◌, ◌++◌, ℕ, List, [], ◌∷◌, length, nat_eq, count_by, option_map}
use Rattle.std.specs.Cmp.Lexicographic.{pointwise}
use Rattle.std.specs.HashMap as table
use Rattle.std.specs.HashSet.{HashSet, contains}
use Rattle.std.specs.Str.{bytes_eq}
use Rattle.std.specs.declared.hash.BuildHasherDefault.{BuildHasherDefault}
use Rattle.std.specs.declared.hash.FoldHasher.{FoldHasher}
use Rattle.tally_setup.specs.Codes.{is_among_codes}
use Rattle.tally_setup.specs.Constituency.{Constituency, entitled}
use Rattle.tally_returns.specs.Decide.{station_in}
use Rattle.tally_returns_rows.specs.declared.import.Row.{Row}
use Rattle.tally_import.specs.internal.Table.{Holds}
use Rattle.tally_import_recount.specs.Counted.{answers_judged, is_passed, returns_judged}
use Rattle.tally_import_recount.specs.declared.register.Register.{Register}

-- a number for each of some codes
abbrev pub Numbers : Type 0
Numbers = table.HashMap (List ℕ) ℕ (BuildHasherDefault FoldHasher)

abbrev pub CodeSet : Type 0
CodeSet = HashSet (List ℕ) (BuildHasherDefault FoldHasher)

-- the table has how many may vote at each station of the constituency, and nothing else
abbrev pub HasStations : Constituency → Numbers → Type 0
HasStations con numbers = (code : List ℕ)
    → table.get (pointwise nat_eq) numbers code ≡ option_map entitled (station_in con code)

-- the set has the codes that are among these words
abbrev pub HasWords : List (List ℕ) → CodeSet → Type 0
HasWords words set = (code : List ℕ) → contains bytes_eq set code ≡ is_among_codes code words

-- the register of a constituency, without the stations of these words, has taken these rows
pub record HasTaken (con : Constituency) (words : List (List ℕ)) (rows : List Row)
    (register : Register) : Type 0 where
  pub lists : register.lists ≡ length con.lists
  pub stations : HasStations con register.entitled
  pub left_out : HasWords words register.left_out
  pub table : Holds register.returns (returns_judged con words rows)
  pub passed : register.passed ≡ count_by is_passed (answers_judged con words rows)

-- Whatever rows a register had taken, it has taken this one as well.
abbrev pub TakesRow : Register → Row → Register → Type 0
TakesRow old row new = (con : Constituency) (words : List (List ℕ)) (rows : List Row)
    → HasTaken con words rows old → HasTaken con words (rows ++ row ∷ []) new

-- Where it had taken none, it has taken these.
abbrev pub TakesRows : Register → List Row → Register → Type 0
TakesRows old rows new = (con : Constituency) (words : List (List ℕ))
    → HasTaken con words [] old → HasTaken con words rows new
