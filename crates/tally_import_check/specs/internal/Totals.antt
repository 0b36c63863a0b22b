-- The totals of returns.
use Rattle.std.specs.Prelude.{◌≡◌, ◌<◌, ◌++◌, ℕ, true, List, length, slice_index, sum_by}
use Rattle.std.specs.List.{list_all}
use Rattle.tally_returns.specs.Counts.{VoteCounts, are_counts}
use Rattle.tally_returns_rows.specs.Source.{row_limit}
use Rattle.tally_import_check.specs.Check.{votes_for}
use Rattle.tally_import_check.specs.declared.totals.Totals.{Totals}

-- the totals are those of these returns, each of which has as many numbers as there are lists
pub record AreTotals (lists : ℕ) (returns : List VoteCounts) (totals : Totals) : Type 0 where
  pub each : list_all (are_counts lists) returns ≡ true
  pub count : length totals.votes.items ≡ lists
  pub votes : (place : ℕ) → place < lists →
      slice_index totals.votes.items place ≡ votes_for place returns
  pub blank : totals.blank ≡ sum_by (λ c. c.blank) returns
  pub spoiled : totals.spoiled ≡ sum_by (λ c. c.spoiled) returns

-- the totals of some returns rise by these, which come after them
abbrev pub TotalsRise : ℕ → Totals → List VoteCounts → Totals → Type 0
TotalsRise lists old more new =
    (returns : List VoteCounts) → AreTotals lists returns old →
    AreTotals lists (returns ++ more) new

-- they are those of fewer returns than an import has rows, so that one more return fits
abbrev pub AreTotalsOfFew : ℕ → Totals → Type 0
AreTotalsOfFew lists totals =
    (returns : List VoteCounts) × AreTotals lists returns totals × (length returns < row_limit)
