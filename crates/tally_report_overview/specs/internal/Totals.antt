-- The seats and the votes of each list over all constituencies, by its code. No public contract
-- speaks of it.
use Rattle.std.specs.Prelude.{◌≡◌, ◌≤◌, ◌+◌, ◌++◌, ◌||◌, ℕ, Bool, List, [], ◌∷◌, Option, Some}
use Rattle.std.specs.Prelude.{None, count_by, is_some, sum, sum_by, if◌then◌else◌}
use Rattle.std.specs.BTreeMap.{BTreeMap, get}
use Rattle.std.specs.List.{list_any}
use Rattle.std.specs.Option.{option_map_or}
use Rattle.std.specs.Str.{bytes_eq}
use Rattle.tally_setup.specs.Code.{code_cmp}
use Rattle.tally_setup.specs.Constituency.{Constituency, ListEntry}
use Rattle.tally_returns.specs.View.{View}
use Rattle.tally_report_overview.specs.CountryText.{all_lists, list_line, seats_in, sum_of_code}
use Rattle.tally_report_overview.specs.CountryText.{sum_over}
use Rattle.tally_report_overview.specs.CountryText.{certified_seats, votes_in}
use Rattle.tally_report_overview.specs.declared.country.Counted.{Counted}
use Rattle.tally_report_overview.specs.declared.country.Total.{Total}

abbrev pub Totals : Type 0
Totals = BTreeMap (List ℕ) Total

abbrev pub seats_at : Totals → List ℕ → ℕ
seats_at totals code = option_map_or (λ (total : Total). total.seats) (get code_cmp totals code) 0

abbrev pub votes_at : Totals → List ℕ → ℕ
votes_at totals code = option_map_or (λ (total : Total). total.votes) (get code_cmp totals code) 0

abbrev pub has_code : Totals → List ℕ → Bool
has_code totals code = is_some (get code_cmp totals code)

-- whether there is a list of the code
abbrev pub stands : List ℕ → List ListEntry → Bool
stands code lists = list_any (λ (list : ListEntry). bytes_eq list.code code) lists

-- more than the numbers of a constituency: 60 lists, each of at most 5,000,000,000 votes or seats
abbrev pub most_of_con : ℕ
most_of_con = 300000000000

-- more than the numbers of all constituencies
abbrev pub most_of_all : ℕ
most_of_all = 60000000000000

-- No list has more than this many seats or votes.
pub record AreWithin (most : ℕ) (totals : Totals) : Type 0 where
  pub seats : (code : List ℕ) → seats_at totals code ≤ most
  pub votes : (code : List ℕ) → votes_at totals code ≤ most

-- No list has more than this many seats or votes above what it had.
pub record AreWithinOf (most : ℕ) (old new : Totals) : Type 0 where
  pub seats : (code : List ℕ) → seats_at new code ≤ seats_at old code + most
  pub votes : (code : List ℕ) → votes_at new code ≤ votes_at old code + most

-- A list of this code has this many seats and votes more.
pub record IsAdded (added : List ℕ) (more_seats more_votes : ℕ) (old new : Totals)
    : Type 0 where
  pub seats : (code : List ℕ)
      → seats_at new code ≡ seats_at old code + (if bytes_eq added code then more_seats else 0)
  pub votes : (code : List ℕ)
      → votes_at new code ≡ votes_at old code + (if bytes_eq added code then more_votes else 0)
  pub codes : (code : List ℕ) → has_code new code ≡ (has_code old code || bytes_eq added code)

-- These lists have this many seats and votes more.
pub record AreAdded (lists : List ListEntry) (list_seats list_votes : List ℕ) (old new : Totals)
    : Type 0 where
  pub seats : (code : List ℕ)
      → seats_at new code ≡ seats_at old code + sum_of_code code lists list_seats
  pub votes : (code : List ℕ)
      → votes_at new code ≡ votes_at old code + sum_of_code code lists list_votes
  pub codes : (code : List ℕ) → has_code new code ≡ (has_code old code || stands code lists)

-- The lists of these constituencies have the seats and the votes of these views more.
pub record AreAddedOver (cons : List Constituency) (views : List View) (old new : Totals)
    : Type 0 where
  pub seats : (code : List ℕ)
      → seats_at new code ≡ seats_at old code + sum_over (seats_in code) cons views
  pub votes : (code : List ℕ)
      → votes_at new code ≡ votes_at old code + sum_over (votes_in code) cons views
  pub codes : (code : List ℕ)
      → has_code new code ≡ (has_code old code || stands code (all_lists cons))

-- The seats and the votes of every list, over all constituencies.
pub record AreTotals (cons : List Constituency) (views : List View) (totals : Totals) : Type 0 where
  pub seats : (code : List ℕ) → seats_at totals code ≡ sum_over (seats_in code) cons views
  pub votes : (code : List ℕ) → votes_at totals code ≡ sum_over (votes_in code) cons views
  pub codes : (code : List ℕ) → has_code totals code ≡ stands code (all_lists cons)

-- ---- the lines of the lists, each in the first place that it has

-- what is found of a code
abbrev pub Found : Type 0
Found = List ℕ → Option Total

-- what is found where that of one code is gone
abbrev pub without : List ℕ → Found → Found
without code found other = if bytes_eq code other then None else found other

abbrev pub total_line : ListEntry → Option Total → List ℕ
total_line list None = []
total_line list (Some total) = list_line list total.seats total.votes

-- a line for each list of which something is found, which is gone then
abbrev pub lines_left : Found → List ListEntry → List ℕ
lines_left found [] = []
lines_left found (list ∷ lists) =
    total_line list (found list.code) ++ lines_left (without list.code found) lists

-- ---- what is counted of all constituencies

pub record IsCount (views : List View) (counted : Counted) : Type 0 where
  pub certified : counted.certified ≡ count_by (λ (view : View). view.certified) views
  pub stations : counted.stations ≡ sum_by (λ (view : View). view.stations) views
  pub closed : counted.closed ≡ sum_by (λ (view : View). view.closed) views
  pub seats : counted.seats ≡ sum_by (λ (view : View). sum (certified_seats view)) views
  pub votes : counted.votes ≡ sum_by (λ (view : View). sum view.votes) views

-- One more constituency is counted.
pub record IsCountedMore (view : View) (old new : Counted) : Type 0 where
  pub certified : new.certified ≡ old.certified + (if view.certified then 1 else 0)
  pub stations : new.stations ≡ old.stations + view.stations
  pub closed : new.closed ≡ old.closed + view.closed
  pub seats : new.seats ≡ old.seats + sum (certified_seats view)
  pub votes : new.votes ≡ old.votes + sum view.votes

-- No number is more than this many.
pub record IsCountWithin (most : ℕ) (counted : Counted) : Type 0 where
  pub certified : counted.certified ≤ most
  pub stations : counted.stations ≤ most
  pub closed : counted.closed ≤ most
  pub seats : counted.seats ≤ most
  pub votes : counted.votes ≤ most

-- No number is more than this many above what it was.
pub record IsCountWithinOf (most : ℕ) (old new : Counted) : Type 0 where
  pub certified : new.certified ≤ old.certified + most
  pub stations : new.stations ≤ old.stations + most
  pub closed : new.closed ≤ old.closed + most
  pub seats : new.seats ≤ old.seats + most
  pub votes : new.votes ≤ old.votes + most
