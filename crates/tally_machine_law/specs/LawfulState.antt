-- The states that an office may come to.
use Rattle.std.specs.Prelude.{◌≡◌, ◌∷◌, ℕ, List, [], All, is_some, slice_index}
use Rattle.std.specs.FinMap.{entries, get}
use Rattle.std.specs.Option.{ForSome}
use Rattle.tally_setup.specs.Constituency.{Constituency}
use Rattle.tally_setup.specs.Setup.{constituency_with}
use Rattle.tally_returns.specs.Lawful.{IsLawfulAt}
use Rattle.tally_machine_law.specs.Outcome.{IsLawfulCon}
use Rattle.tally_returns.specs.State.{State, con_state}
use Rattle.tally_returns.specs.View.{view_of}

-- a candidate who is gone is kept under two places: that of the list and the candidate's own
abbrev pub IsUnderPlaces : List ℕ × List ℕ → Type 0
IsUnderPlaces entry = entry.0 ≡ slice_index entry.0 0 ∷ slice_index entry.0 1 ∷ []

-- A constituency of a lawful state.
pub record IsLawfulIn (con : Constituency) (s : State) : Type 0 where
  pub seen : IsLawfulCon con (view_of con s [])
  pub gone : All IsUnderPlaces (entries (con_state s con.code).gone)

-- A lawful state: each return is one of a station of the setup, and lawful there, and each
-- constituency is one of the setup, and lawful too.
pub record IsLawfulState (setup : List Constituency) (s : State) : Type 0 where
  pub stations : (station : List ℕ) → ForSome (get s.returns station) (IsLawfulAt setup station)
  pub cons : (code : List ℕ) → ForSome (constituency_with code setup) (λ con. IsLawfulIn con s)
  pub known : (code : List ℕ) → is_some (get s.cons code) ≡ is_some (constituency_with code setup)
