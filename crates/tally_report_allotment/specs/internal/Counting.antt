-- The numbers of returns that are summed up.
use Rattle.std.specs.Prelude.{◌≡◌, ◌-◌, ◌<◌, ◌↔◌, ℕ, Bool, true, false, List, Option, None}
use Rattle.std.specs.Prelude.{Some, map, length, slice_index, slice_index_or, sum_by}
use Rattle.std.specs.List.{range_with_len}
use Rattle.tally_setup.specs.Constituency.{Constituency}
use Rattle.tally_returns.specs.Counts.{VoteCounts, are_counts}
use Rattle.tally_setup.specs.declared.constituency.Station.{Station}
use Rattle.tally_report_allotment.specs.Recount.{AreCountsAt, counted}
use Rattle.tally_report_allotment.specs.RecountText.{IsDecisive}
use Rattle.tally_report_allotment.specs.declared.counted.Part.{Part}
use Rattle.tally_report_allotment.specs.declared.counted.Part.TheVariants.{Votes, Blank}
use Rattle.tally_report_allotment.specs.declared.counted.Part.TheVariants.{Spoiled, Itself}

-- the number of a return, and 1 for the return itself
abbrev pub number_in : Part → VoteCounts → ℕ
number_in (Votes list) c = slice_index c.votes list
number_in Blank c = c.blank
number_in Spoiled c = c.spoiled
number_in Itself c = 1

-- these numbers of the returns that are counted, together
abbrev pub sum_counted : Part → List (Option VoteCounts) → ℕ
sum_counted part returns = sum_by (number_in part) (counted returns)

-- a return for this many lists has such a number
abbrev pub IsPartOf : ℕ → Part → Type 0
IsPartOf lists (Votes list) = list < lists
IsPartOf lists Blank = Unit {0}
IsPartOf lists Spoiled = Unit {0}
IsPartOf lists Itself = Unit {0}

-- the counts of each return are for this many lists
abbrev pub AreForLists : ℕ → List (Option VoteCounts) → Type 0
AreForLists lists returns =
    (place : ℕ) (c : VoteCounts) → slice_index_or returns place None ≡ Some c
    → are_counts lists c ≡ true

-- the return at a place, if it is counted, may be one of the station there
abbrev pub IsReturnAt : Constituency → List (Option VoteCounts) → ℕ → Type 0
IsReturnAt con returns place =
    (station : Station) (c : VoteCounts) → slice_index_or returns place None ≡ Some c
    → AreCountsAt con (slice_index_or con.stations place station) c

-- the votes of this many lists, less those of a return
abbrev pub votes_less : ℕ → List ℕ → List ℕ → List ℕ
votes_less lists votes by =
    map (λ list. slice_index votes list - slice_index by list) (range_with_len 0 lists)

-- the marks of the first stations
pub record AreDecisiveSoFar (con : Constituency) (returns : List (Option VoteCounts)) (a : List ℕ)
    (n : ℕ) (marks : List Bool) : Type 0 where
  pub one_each : length marks ≡ n
  pub each : (place : ℕ) → place < n →
      (slice_index_or marks place false ≡ true) ↔ IsDecisive con returns a place
