-- Why a text is not a setup.
use Rattle.std.specs.Prelude.{ℕ, ◌≡◌, ⊤, List, Option, None, Result, Ok, Err}
use Rattle.tally_rules.specs.declared.fault.SetupFault.{SetupFault}
use Rattle.tally_rules.specs.declared.fault.SetupFault.TheVariants as answer
use Rattle.tally_rules.specs.declared.place.Place.{Place}

-- The faults of a text; a key is the key's own name.
pub data Fault : Type 0 where
  not_toml : Fault
  missing : List ℕ → Fault
  bad_value : List ℕ → Fault
  over_limit : List ℕ → Fault
  duplicate : List ℕ → Fault
  unknown_profile : Fault

-- a fault, and the place of the entry that has it, where one has
abbrev pub Placed : Type 0
Placed = Fault × Option Place

-- what reading comes to, without the place of a fault
abbrev pub without_place : {A : Type 0} → Result A Placed → Result A Fault
without_place (Ok a) = Ok a
without_place (Err fault) = Err fault.0

-- What is answered is the fault that reading comes to. Being out of memory is not a fault of the
-- text, and may be answered at any place.
abbrev pub IsFaultIn : {A : Type 0} → Result A Placed → SetupFault → Type 0
IsFaultIn reading answer.NotToml = without_place reading ≡ Err not_toml
IsFaultIn reading (answer.Missing key) = without_place reading ≡ Err (missing key.now)
IsFaultIn reading (answer.BadValue key) = without_place reading ≡ Err (bad_value key.now)
IsFaultIn reading (answer.OverLimit key) = without_place reading ≡ Err (over_limit key.now)
IsFaultIn reading (answer.Duplicate code) = without_place reading ≡ Err (duplicate code)
IsFaultIn reading answer.UnknownProfile = without_place reading ≡ Err unknown_profile
IsFaultIn reading answer.Memory = ⊤

-- What is answered is the fault that reading comes to, and beside it the place of the entry that
-- has it. Where the text is not TOML, no entry has the fault: `IsPlaceIn` says which place that is.
abbrev pub IsPlacedFaultIn : {A : Type 0} → Result A Placed → SetupFault × Option Place → Type 0
IsPlacedFaultIn reading (answer.NotToml, place) = reading ≡ Err (not_toml, None)
IsPlacedFaultIn reading (answer.Missing key, place) = reading ≡ Err (missing key.now, place)
IsPlacedFaultIn reading (answer.BadValue key, place) = reading ≡ Err (bad_value key.now, place)
IsPlacedFaultIn reading (answer.OverLimit key, place) = reading ≡ Err (over_limit key.now, place)
IsPlacedFaultIn reading (answer.Duplicate code, place) = reading ≡ Err (duplicate code, place)
IsPlacedFaultIn reading (answer.UnknownProfile, place) = reading ≡ Err (unknown_profile, place)
IsPlacedFaultIn reading (answer.Memory, place) = place ≡ None

-- the number of a fault
abbrev pub setup_fault_number : SetupFault → ℕ
setup_fault_number answer.NotToml = 1
setup_fault_number (answer.Missing key) = 2
setup_fault_number (answer.BadValue key) = 3
setup_fault_number (answer.OverLimit key) = 4
setup_fault_number (answer.Duplicate code) = 5
setup_fault_number answer.UnknownProfile = 6
setup_fault_number answer.Memory = 7
