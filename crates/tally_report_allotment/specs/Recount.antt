-- What a recount is of: the returns of a constituency that are counted, and the poll that they
-- make.
use Rattle.std.specs.Prelude.{◌≡◌, ◌≤◌, ◌<◌, ℕ, Bool, true, List, [], ◌∷◌, Option, None, Some}
use Rattle.std.specs.Prelude.{length, slice_index_or, slice_set}
use Rattle.std.specs.List.{flat_map}
use Rattle.tally_setup.specs.Constituency.{Constituency, entitled, list_codes}
use Rattle.tally_setup.specs.declared.constituency.Station.{Station}
use Rattle.tally_law.specs.Poll.{Poll}
use Rattle.tally_law.specs.Rules.{poll_of}
use Rattle.tally_returns.specs.Counts.{VoteCounts, all_votes, are_counts}
use Rattle.tally_returns.specs.View.{blank_of, spoiled_of, votes_of_lists}
use Rattle.tally_report_allotment.specs.Question.{Question}
use Rattle.tally_report_allotment.specs.declared.recount.Recount.{Recount}

-- For each station, in the order of the setup, the counts of its return where that is counted; how
-- many stations are left out; how many rows were passed; the lot; and whether awards and decisive
-- stations are asked for.
pub record Recounted : Type 0 where
  pub returns : List (Option VoteCounts)
  pub without : ℕ
  pub passed : ℕ
  pub lot : List ℕ
  pub awards : Bool
  pub decisive : Bool

abbrev pub recounted : Recount → Recounted
recounted recount = record {
  returns = recount.returns.items;
  without = recount.without;
  passed = recount.passed;
  lot = recount.lot.items;
  awards = recount.awards;
  decisive = recount.decisive;
}

-- ---- which returns may be counted

-- The counts may be those of a return of this station: one number for each list, and no more votes
-- than may vote there.
pub record AreCountsAt (con : Constituency) (station : Station) (c : VoteCounts) : Type 0 where
  pub counts : are_counts (length con.lists) c ≡ true
  pub votes : all_votes c ≤ entitled station

-- There is one place for each station, and each return that is counted is one of its station.
pub record AreReturnsOf (con : Constituency) (returns : List (Option VoteCounts)) : Type 0 where
  pub one_each : length returns ≡ length con.stations
  pub lawful : (place : ℕ) (station : Station) (c : VoteCounts) → place < length con.stations
      → slice_index_or returns place None ≡ Some c
      → AreCountsAt con (slice_index_or con.stations place station) c

-- ---- what they come to

abbrev pub if_counted : Option VoteCounts → List VoteCounts
if_counted None = []
if_counted (Some c) = c ∷ []

-- the counts of the returns that are counted, in the order of their stations
abbrev pub counted : List (Option VoteCounts) → List VoteCounts
counted returns = flat_map if_counted returns

-- the votes for each list of a constituency in them, and the poll of these votes
abbrev pub votes_counted : Constituency → List (Option VoteCounts) → List ℕ
votes_counted con returns = votes_of_lists (length con.lists) (counted returns)

abbrev pub poll_counted : Constituency → List (Option VoteCounts) → Poll
poll_counted con returns =
    poll_of con.profile (votes_counted con returns) (blank_of (counted returns))

abbrev pub spoiled_counted : List (Option VoteCounts) → ℕ
spoiled_counted returns = spoiled_of (counted returns)

-- what seats are asked for: those of the constituency, by its rule, for these votes
abbrev pub question_counted : Constituency → Recounted → Question
question_counted con r = record {
  profile = con.profile;
  seats = con.seats;
  lists = list_codes con.lists;
  votes = votes_counted con r.returns;
  blank = blank_of (counted r.returns);
  lot = r.lot;
}

-- the returns but for that of the station at a place, from 0
abbrev pub without_return : List (Option VoteCounts) → ℕ → List (Option VoteCounts)
without_return returns place = slice_set returns place None
