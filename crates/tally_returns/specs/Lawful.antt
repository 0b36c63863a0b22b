-- The returns that may be recorded.
use Rattle.std.specs.Prelude.{◌≡◌, ◌≤◌, ◌&&◌, Bool, true, ℕ, List, [], ◌∷◌, Option, Some}
use Rattle.std.specs.Option.{ForSome}
use Rattle.std.specs.Str.{is_utf8}
use Rattle.tally_setup.specs.Code.{is_code}
use Rattle.tally_setup.specs.Constituency.{Constituency}
use Rattle.tally_setup.specs.Text.{is_note}
use Rattle.tally_returns.specs.Counts.{are_counts, all_votes}
use Rattle.tally_returns.specs.Decide.{limits_named}
use Rattle.tally_returns.specs.Return.{StationReturn}
use Rattle.tally_returns.specs.Lodge.{StationLimits}
use Rattle.tally_returns.specs.Moves.{last_revision}
use Rattle.tally_returns.specs.State.{stations_of}
use Rattle.tally_returns.specs.declared.ask.Ask.{Ask}
use Rattle.tally_returns.specs.declared.change.Change.{Change}
use Rattle.tally_returns.specs.declared.change.Change.TheVariants.{Same, PutReturn}

-- a note that is kept, of a query, of a reopening or of one who is gone: it is UTF-8, as every text
-- here is
abbrev pub is_kept_note : List ℕ → Bool
is_kept_note note = is_note note && is_utf8 note

-- empty, or such a note
abbrev pub is_note_or_empty : List ℕ → Bool
is_note_or_empty [] = true
is_note_or_empty (byte ∷ note) = is_kept_note (byte ∷ note)

-- A lawful return of a station.
pub record IsLawful (station : StationLimits) (standing : StationReturn) : Type 0 where
  pub first : 1 ≤ standing.rev
  pub last : standing.rev ≤ last_revision
  pub slip : is_code standing.slip ≡ true
  pub note : is_note_or_empty standing.note ≡ true
  pub counts : are_counts station.lists standing.counts ≡ true
  pub votes : all_votes standing.counts ≤ station.entitled

-- a lawful return of the station of a code
abbrev pub IsLawfulAt : List Constituency → List ℕ → StationReturn → Type 0
IsLawfulAt setup station standing =
    (limits : StationLimits) × (stations_of setup station ≡ Some limits) × IsLawful limits standing

-- the recorded return, if there is one, is lawful at the station of this constituency that a
-- command names
abbrev pub IsLawfulWhereNamed : Constituency → Ask → Option StationReturn → Type 0
IsLawfulWhereNamed con ask found =
    ForSome (limits_named con ask) (λ station. ForSome found (IsLawful station))

-- a return that is put is lawful, and nothing else is changed
abbrev pub PutsLawful : StationLimits → Change → Type 0
PutsLawful station Same = Unit {0}
PutsLawful station (PutReturn standing) = IsLawful station standing
PutsLawful station other = ⊥

-- the same at the station of this constituency that a command names
abbrev pub PutsLawfulWhereNamed : Constituency → Ask → Change → Type 0
PutsLawfulWhereNamed con ask change =
    ForSome (limits_named con ask) (λ station. PutsLawful station change)
