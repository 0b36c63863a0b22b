-- What is seen of a constituency: what it has come to, how many of its returns are in each status,
-- and its closed votes.
use Rattle.std.specs.Prelude.{◌≡◌, ◌≤◌, ◌++◌, ◌||◌, ◌==◌, ◌&&◌, nat_lt, ℕ, All, Bool, true, List}
use Rattle.std.specs.Prelude.{[], ◌∷◌, length, map, sum_by, slice_index, Option, Some, None}
use Rattle.std.specs.Prelude.{if◌then◌else◌}
use Rattle.std.specs.List.{range_with_len}
use Rattle.std.specs.FinMap.{get, entries}
use Rattle.tally_setup.specs.Constituency.{Constituency}
use Rattle.tally_setup.specs.Threshold.{IsWithinVotes}
use Rattle.tally_setup.specs.declared.constituency.Station.{Station}
use Rattle.tally_returns.specs.GoneCandidate.{GoneCandidate}
use Rattle.tally_returns.specs.PastSeats.{PastSeats}
use Rattle.tally_returns.specs.Counts.{VoteCounts}
use Rattle.tally_returns.specs.Return.{StationReturn, Returns}
use Rattle.tally_returns.specs.State.{State, ConState, GoneCandidates, PastRecords, con_state}
use Rattle.tally_returns.specs.State.{last_edition}
use Rattle.tally_returns.specs.Progress.{is_received, is_queried, is_corrected, is_closed}
use Rattle.tally_returns.specs.Progress.{count_with_status}

-- how many stations there are and how many of their returns are in each status; votes, blank and
-- spoiled ones are those of the closed returns; seats are those of each list where the constituency
-- is certified, and else there are none; past are the certificates that were reopened, in order of
-- edition
pub record View : Type 0 where
  pub edition : ℕ
  pub certified : Bool
  pub note : List ℕ
  pub lot : List ℕ
  pub stations : ℕ
  pub received : ℕ
  pub queried : ℕ
  pub corrected : ℕ
  pub closed : ℕ
  pub votes : List ℕ
  pub blank : ℕ
  pub spoiled : ℕ
  pub seats : List ℕ
  pub gone : List GoneCandidate
  pub past : List PastSeats

-- A certificate that was reopened gave each list a number of seats.
abbrev pub HasEachList : Constituency → PastSeats → Type 0
HasEachList con past = length past.seats ≡ length con.lists

-- The shape of a view of this constituency. One that a database gave may have it and yet be no view
-- of a state that an office comes to.
pub record FitsView (con : Constituency) (view : View) : Type 0 where
  pub lists : length view.votes ≡ length con.lists
  pub votes : IsWithinVotes view.votes view.blank
  pub edition : view.edition ≤ last_edition
  pub stations : view.closed ≤ view.stations
  pub seats : view.certified ≡ true → length view.seats ≡ length con.lists
  pub past : All (HasEachList con) view.past

-- Whether a candidate who is gone comes before another: in order of list and then of candidate.
abbrev pub is_before : GoneCandidate → GoneCandidate → Bool
is_before g h = nat_lt g.list h.list || ((g.list == h.list) && nat_lt g.place h.place)

-- ---- closed votes

abbrev pub counts_if_closed : Option StationReturn → List VoteCounts
counts_if_closed None = []
counts_if_closed (Some standing) = if is_closed standing.status then standing.counts ∷ [] else []

-- the counts of the closed returns of these stations, in order
abbrev pub closed_counts : Returns → List Station → List VoteCounts
closed_counts returns [] = []
closed_counts returns (station ∷ stations) =
    counts_if_closed (get returns station.code) ++ closed_counts returns stations

-- the votes for the list at a place, from 0, together
abbrev pub votes_at : List VoteCounts → ℕ → ℕ
votes_at counts place = sum_by (λ (c : VoteCounts). slice_index c.votes place) counts

-- the votes for each list, in the setup's order
abbrev pub votes_of_lists : ℕ → List VoteCounts → List ℕ
votes_of_lists lists counts = map (votes_at counts) (range_with_len 0 lists)

abbrev pub blank_of : List VoteCounts → ℕ
blank_of counts = sum_by (λ (c : VoteCounts). c.blank) counts

abbrev pub spoiled_of : List VoteCounts → ℕ
spoiled_of counts = sum_by (λ (c : VoteCounts). c.spoiled) counts

-- ---- the view

-- the candidates who are gone, in order of list and then of candidate
abbrev pub gone_candidate : List ℕ × List ℕ → GoneCandidate
gone_candidate entry =
    record { list = slice_index entry.0 0; place = slice_index entry.0 1; note = entry.1 }

abbrev pub gone_candidates : GoneCandidates → List GoneCandidate
gone_candidates gone = map gone_candidate (entries gone)

-- the certificates that were reopened, in order of edition
abbrev pub past_record : ℕ × List ℕ → PastSeats
past_record entry = record { edition = entry.0; seats = entry.1 }

abbrev pub past_records : PastRecords → List PastSeats
past_records past = map past_record (entries past)

abbrev pub view_with : Constituency → ConState → Returns → List ℕ → View
view_with con c returns seats = record {
  edition = c.edition;
  certified = c.certified;
  note = c.note;
  lot = c.lot;
  stations = length con.stations;
  received = count_with_status is_received returns con.stations;
  queried = count_with_status is_queried returns con.stations;
  corrected = count_with_status is_corrected returns con.stations;
  closed = count_with_status is_closed returns con.stations;
  votes = votes_of_lists (length con.lists) (closed_counts returns con.stations);
  blank = blank_of (closed_counts returns con.stations);
  spoiled = spoiled_of (closed_counts returns con.stations);
  seats = seats;
  gone = gone_candidates c.gone;
  past = past_records c.past;
}

-- the view of a constituency in a state, but for its seats
abbrev pub view_of : Constituency → State → List ℕ → View
view_of con s seats = view_with con (con_state s con.code) s.returns seats
