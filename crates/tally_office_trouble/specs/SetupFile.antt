-- What the text of a setup is judged, and what a file gives where a setup is wanted.
use Rattle.std.specs.Prelude.{◌≡◌, ◌⊎◌, ◌<◌, ℕ, ⊤, List, length, Option, IfSome, Ok}
use Rattle.tally_setup.specs.Constituency.{Constituency}
use Rattle.tally_rules.specs.Fault.{IsPlacedFaultIn}
use Rattle.tally_rules.specs.Place.{IsPlaceIn}
use Rattle.tally_rules.specs.Reading.{setup_of_text}
use Rattle.tally_rules.specs.declared.fault.SetupFault.TheVariants.{NotToml}
use Rattle.tally_office_trouble.specs.Troubles.{IsTroubleOfFile}
use Rattle.tally_office_trouble.specs.declared.trouble.Trouble.{Trouble}
use Rattle.tally_office_trouble.specs.declared.trouble.Trouble.TheVariants.{Setup, Memory, Read}

-- A file that was opened gave this text: all of its bytes, where they are known.
abbrev pub IsTextOf : (Option (List ℕ) → Type 0) → List ℕ → Type 0
IsTextOf Gives text =
    (bytes : Option (List ℕ)) × Gives bytes × IfSome bytes (λ all. text ≡ all)

-- the most bytes of the text of a setup, 8 MiB
abbrev pub setup_limit : ℕ
setup_limit = 8388608

-- the text of a setup is over its limit
abbrev pub IsTooLong : List ℕ → Type 0
IsTooLong text = setup_limit < length text

-- A file that was opened gave a text that is over the limit, where its bytes are known.
abbrev pub GivesTooLong : (Option (List ℕ) → Type 0) → Type 0
GivesTooLong Gives = (bytes : Option (List ℕ)) × Gives bytes × IfSome bytes IsTooLong

-- the trouble of a text that is not a setup: its fault, and where that is; or out of memory
abbrev pub IsJudged : List ℕ → Trouble → Type 0
IsJudged text (Setup fault place) =
    IsPlacedFaultIn (setup_of_text text) (fault, place) × (fault ≡ NotToml → IsPlaceIn text place)
IsJudged text Memory = ⊤
IsJudged text other = ⊥

-- the text that a file gave is that of this setup
abbrev pub IsSetupOfFile : (Option (List ℕ) → Type 0) → List Constituency → Type 0
IsSetupOfFile Gives setup =
    (text : List ℕ) × IsTextOf Gives text × (setup_of_text text ≡ Ok setup)

-- Why a file gave no setup: it cannot be opened or read, or the text that it gave is none. One that
-- is over the limit is none.
abbrev pub IsTroubleOfSetupFile : (Option (List ℕ) → Type 0) → Trouble → Type 0
IsTroubleOfSetupFile Gives t = IsTroubleOfFile t ⊎ (t ≡ Read)
    ⊎ ((text : List ℕ) × IsTextOf Gives text × IsJudged text t)
