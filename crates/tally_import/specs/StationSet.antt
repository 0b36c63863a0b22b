-- The stations that rows may name.
use Rattle.std.specs.Prelude.{ℕ, Bool, true, List, Option, Some, None}
use Rattle.std.specs.HashSet.{HashSet, contains}
use Rattle.std.specs.Str.{bytes_eq}
use Rattle.std.specs.declared.hash.BuildHasherDefault.{BuildHasherDefault}
use Rattle.std.specs.declared.hash.FoldHasher.{FoldHasher}

-- a set of codes, each found by its hash
abbrev pub Codes : Type 0
Codes = HashSet (List ℕ) (BuildHasherDefault FoldHasher)

-- the code is in the set; without one every code is a station
abbrev pub is_station : Option Codes → List ℕ → Bool
is_station None code = true
is_station (Some stations) code = contains bytes_eq stations code
