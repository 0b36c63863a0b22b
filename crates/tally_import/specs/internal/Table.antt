-- A hash map of returns, as the map that definitions speak of.
use Rattle.std.specs.Prelude.{◌≡◌, ℕ, List, nat_eq}
use Rattle.std.specs.Cmp.Lexicographic.{pointwise}
use Rattle.std.specs.FinMap as map
use Rattle.std.specs.HashMap as table
use Rattle.std.specs.declared.hash.BuildHasherDefault.{BuildHasherDefault}
use Rattle.std.specs.declared.hash.FoldHasher.{FoldHasher}
use Rattle.tally_returns.specs.Return.{StationReturn, Returns}

-- a table of returns by the codes of their stations
abbrev pub Table : Type 0
Table = table.HashMap (List ℕ) StationReturn (BuildHasherDefault FoldHasher)

-- the table holds these returns
abbrev pub Holds : Table → Returns → Type 0
Holds held returns = (code : List ℕ) → table.get (pointwise nat_eq) held code ≡ map.get returns code
