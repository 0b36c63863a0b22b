-- What is passed on within the reading of a setup. No public contract speaks of it.
use Rattle.std.specs.Prelude.{ℕ, ◌≡◌, ⊤, Bool, List, Option, None, Result, Err, codes}
use Rattle.toml.specs.Data.{Data}
use Rattle.tally_rules.specs.Fault.{Fault, Placed, not_toml, missing, bad_value, over_limit}
use Rattle.tally_rules.specs.Fault.{duplicate, unknown_profile}
use Rattle.tally_rules.specs.Place.{IsOffsetIn}
use Rattle.tally_rules.specs.Reading.{document_of, is_text, is_table}
use Rattle.tally_rules.specs.declared.place.Place.{Place}
use Rattle.tally_rules.specs.declared.place.Way.{Way}
use Rattle.tally_rules.specs.declared.read.entry.Kind.{Kind}
use Rattle.tally_rules.specs.declared.read.entry.Kind.TheVariants as kind
use Rattle.tally_rules.specs.declared.read.fault.KeyFault.{KeyFault as Found}
use Rattle.tally_rules.specs.declared.read.fault.KeyFault.TheVariants as found
use Rattle.tally_rules.specs.declared.read.fault.PlacedFault.{PlacedFault}
use Rattle.tally_rules.specs.declared.read.TextFault.{TextFault}
use Rattle.tally_rules.specs.declared.read.TextFault.TheVariants as text_fault
use Rattle.tally_rules.specs.declared.read.fault.Key.{Key}
use Rattle.tally_rules.specs.declared.read.fault.Key.TheVariants as key

-- the name of a key
abbrev pub key_name : Key → List ℕ
key_name key.Profile = codes "profile"
key_name key.Code = codes "code"
key_name key.Method = codes "method"
key_name key.Threshold = codes "threshold"
key_name key.Base = codes "base"
key_name key.Lot = codes "lot"
key_name key.Constituency = codes "constituency"
key_name key.Name = codes "name"
key_name key.Seats = codes "seats"
key_name key.Entry = codes "entry"
key_name key.Size = codes "size"
key_name key.List = codes "list"
key_name key.Candidates = codes "candidates"
key_name key.Station = codes "station"
key_name key.Electors = codes "electors"
key_name key.Agents = codes "agents"

-- the fault of a key that reading comes to, or out of memory
abbrev pub IsFoundIn : {A : Type 0} → Result A Fault → Found → Type 0
IsFoundIn reading (found.Missing key) = reading ≡ Err (missing (key_name key))
IsFoundIn reading (found.BadValue key) = reading ≡ Err (bad_value (key_name key))
IsFoundIn reading (found.OverLimit key) = reading ≡ Err (over_limit (key_name key))
IsFoundIn reading (found.Duplicate code) = reading ≡ Err (duplicate code)
IsFoundIn reading found.UnknownProfile = reading ≡ Err unknown_profile
IsFoundIn reading found.Memory = ⊤

-- as `IsPlacedFaultIn`, of what is found within the reading
abbrev pub IsFoundAt : {A : Type 0} → Result A Placed → Option Place → Found → Type 0
IsFoundAt reading place (found.Missing key) = reading ≡ Err (missing (key_name key), place)
IsFoundAt reading place (found.BadValue key) = reading ≡ Err (bad_value (key_name key), place)
IsFoundAt reading place (found.OverLimit key) = reading ≡ Err (over_limit (key_name key), place)
IsFoundAt reading place (found.Duplicate code) = reading ≡ Err (duplicate code, place)
IsFoundAt reading place found.UnknownProfile = reading ≡ Err (unknown_profile, place)
IsFoundAt reading place found.Memory = ⊤

abbrev pub IsPlacedIn : {A : Type 0} → Result A Placed → PlacedFault → Type 0
IsPlacedIn reading found = IsFoundAt reading found.place found.fault

-- which entry has the code of a fault first, where it is found within the reading
abbrev pub first_found : (Fault → Option Way) → Found → Option Way
first_found first (found.Duplicate code) = first (duplicate code)
first_found first fault = None

-- why bytes are no table in TOML, or out of memory
abbrev pub IsNoDocument : List ℕ → TextFault → Type 0
IsNoDocument text (text_fault.NotToml offset) =
    (document_of text ≡ Err (not_toml, None)) × IsOffsetIn text offset
IsNoDocument text text_fault.Memory = ⊤

-- what the items of an array have to be
abbrev pub is_kind : Kind → Data → Bool
is_kind kind.Text = is_text
is_kind kind.Table = is_table
