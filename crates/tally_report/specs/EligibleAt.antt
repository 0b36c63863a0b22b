-- Which lists of a constituency are eligible, by what it has come to.
use Rattle.std.specs.Prelude.{ℕ, Bool, false, slice_index_or}
use Rattle.tally_setup.specs.Constituency.{Constituency}
use Rattle.tally_setup.specs.Threshold.{eligible_lists}
use Rattle.tally_returns.specs.View.{View}

-- whether the list at a place is eligible
abbrev pub is_eligible_at : Constituency → View → ℕ → Bool
is_eligible_at con view place =
    slice_index_or (eligible_lists con.profile view.votes view.blank) place false
