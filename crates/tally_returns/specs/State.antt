-- What the office keeps: the return of each station that has one, and what each constituency has
-- come to.
use Rattle.std.specs.Prelude.{ℕ, Bool, false, List, [], map, option_map, unwrap_or}
use Rattle.std.specs.FinMap.{FinMap, get, empty, from_entries}
use Rattle.std.specs.Ordering.{nat_cmp}
use Rattle.std.specs.Cmp.Lexicographic.{slice_cmp}
use Rattle.tally_setup.specs.Code.{code_cmp}
use Rattle.tally_setup.specs.Constituency.{Constituency}
use Rattle.tally_setup.specs.Setup.{station_with}
use Rattle.tally_returns.specs.Return.{Returns}
use Rattle.tally_returns.specs.Lodge.{Stations}
use Rattle.tally_returns.specs.Decide.{limits_of}

-- the note of each candidate who is gone, by the place of its list in the constituency and its own
-- place there, both from 1
abbrev pub GoneCandidates : Type 0
GoneCandidates = FinMap (slice_cmp nat_cmp) (List ℕ)

-- the seats of each list of each certificate that was reopened, by the edition at which it was in
-- force
abbrev pub PastRecords : Type 0
PastRecords = FinMap nat_cmp (List ℕ)

-- what a constituency has come to: its edition, whether it is certified, the note of its last
-- reopening, its lot (the places of lists, none where no lot is recorded), the candidates who are
-- gone and the certificates that were reopened
pub record ConState : Type 0 where
  pub edition : ℕ
  pub certified : Bool
  pub note : List ℕ
  pub lot : List ℕ
  pub gone : GoneCandidates
  pub past : PastRecords

pub record State : Type 0 where
  pub returns : Returns
  pub cons : FinMap code_cmp ConState

-- the last edition that a constituency can have
abbrev pub last_edition : ℕ
last_edition = 9999

-- a constituency as it opens
abbrev pub opening_con : ConState
opening_con =
    record { edition = 1; certified = false; note = []; lot = []; gone = empty; past = empty }

abbrev pub opening_cons : List Constituency → FinMap code_cmp ConState
opening_cons setup = from_entries (map (λ (con : Constituency). (con.code, opening_con)) setup)

-- no return, and each constituency as it opens
abbrev pub opening : List Constituency → State
opening setup = record { returns = empty; cons = opening_cons setup }

-- what the constituency of a code has come to
abbrev pub con_state : State → List ℕ → ConState
con_state s code = unwrap_or (get s.cons code) opening_con

-- what a setup says of the station of a code
abbrev pub stations_of : List Constituency → Stations
stations_of setup station =
    option_map (λ place. limits_of place.0 place.1) (station_with station setup)
