-- Where a fault of a setup is: in an entry, or in the text.
use Rattle.std.specs.Prelude.{ℕ, ◌≡◌, ◌≤◌, ◌+◌, ◌==◌, false, List, [], ◌∷◌, length, take, Option}
use Rattle.std.specs.Prelude.{Some, None, Result, Ok, Err, if◌then◌else◌}
use Rattle.std.specs.Str.{is_utf8, IsValidUpTo}
use Rattle.tally_rules.specs.Fault.{Fault, Placed}
use Rattle.tally_rules.specs.declared.place.Holder.{Holder}
use Rattle.tally_rules.specs.declared.place.Place.{Place}
use Rattle.tally_rules.specs.declared.place.Place.TheVariants as place
use Rattle.tally_rules.specs.declared.place.SetupArray.{SetupArray}
use Rattle.tally_rules.specs.declared.place.SetupArray.TheVariants.{Constituencies, Lists}
use Rattle.tally_rules.specs.declared.place.Way.{Way}

-- ---- entries

-- an entry whose code is not known to have passed its checks
abbrev pub nth : SetupArray → ℕ → Way
nth array number = record { array = array; number = number; code = None }

-- an entry of this code
abbrev pub coded : SetupArray → ℕ → List ℕ → Way
coded array number code = record { array = array; number = number; code = Some code }

-- the way to a constituency
abbrev pub constituency_way : Holder → Way
constituency_way con = coded Constituencies con.number con.code

-- the way to a list of a constituency
abbrev pub list_way : Holder → Holder → Way
list_way con list = coded (Lists con) list.number list.code

-- what is read beside no entry
abbrev pub nowhere : {A : Type 0} → Result A Fault → Result A Placed
nowhere (Ok a) = Ok a
nowhere (Err fault) = Err (fault, None)

-- what is read in an entry, which has the fault, if there is one
abbrev pub in_entry : {A : Type 0} → Way → Result A Fault → Result A Placed
in_entry way (Ok a) = Ok a
in_entry way (Err fault) = Err (fault, Some (place.Entry way None))

-- its code, of whose faults this says which entry has the code first
abbrev pub in_code : (Fault → Option Way) → Way → Result (List ℕ) Fault → Result (List ℕ) Placed
in_code first way (Ok code) = Ok code
in_code first way (Err fault) = Err (fault, Some (place.Entry way (first fault)))

-- ---- the text

-- The place after some bytes, from the place before them. The byte 0A ends a line, and a column is
-- a byte.
abbrev pub place_after : ℕ → ℕ → List ℕ → Place
place_after line column [] = place.Text line column
place_after line column (byte ∷ bytes) =
    if byte == 10 then place_after (line + 1) 1 bytes else place_after line (column + 1) bytes

-- A byte of a text, from 0: of a text that is not UTF-8 the first at which it is not. Of another
-- text that is not TOML the grammar names no byte, and nothing is said of which one it is.
pub record IsOffsetIn (text : List ℕ) (offset : ℕ) : Type 0 where
  pub within : offset ≤ length text
  pub utf8 : is_utf8 text ≡ false → IsValidUpTo text offset

-- the place of such a byte
abbrev pub IsPlaceIn : List ℕ → Option Place → Type 0
IsPlaceIn text place =
    (offset : ℕ) × IsOffsetIn text offset × (place ≡ Some (place_after 1 1 (take offset text)))
