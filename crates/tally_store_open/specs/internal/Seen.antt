-- The parts of a lawful view.
use Rattle.std.specs.Prelude.{◌≡◌, ◌⊎◌, ◌&&◌, All, Bool, true, [], nat_le}
use Rattle.tally_law.specs.LotNeed.{IsLotTaken}
use Rattle.tally_law.specs.Poll.{HasEligible}
use Rattle.tally_machine_law.specs.Outcome.{HasSeats, IsLawfulGone, IsLawfulPast, HasLawfulLot}
use Rattle.tally_machine_law.specs.Outcome.{poll_in}
use Rattle.tally_machine_law.specs.Outcome.{rule_in}
use Rattle.tally_returns.specs.Lawful.{is_note_or_empty}
use Rattle.tally_returns.specs.State.{last_edition}
use Rattle.tally_returns.specs.View.{View, FitsView}
use Rattle.tally_setup.specs.Constituency.{Constituency}
use Rattle.tally_setup.specs.Limits.{most_stations}

-- the stations, the edition and the note are within their limits
abbrev pub is_in_range : View → Bool
is_in_range view =
    nat_le view.stations most_stations && nat_le 1 view.edition && nat_le view.edition last_edition
    && is_note_or_empty view.note

-- All but the seats and the lot is as in a lawful view.
pub record HasLawfulFrame (con : Constituency) (view : View) : Type 0 where
  pub fits : FitsView con view
  pub range : is_in_range view ≡ true
  pub gone : All (IsLawfulGone con) view.gone
  pub past : All (IsLawfulPast con view.edition) view.past

-- all stations are closed, and the seats and the lot are those of the one allotment
abbrev pub IsCertified : Constituency → View → Type 0
IsCertified con view = HasLawfulLot con view × HasSeats con view true

-- there are no seats, and no lot or the one to be taken
abbrev pub IsOpen : Constituency → View → Type 0
IsOpen con view = (view.seats ≡ []) × ((view.lot ≡ []) ⊎ HasLawfulLot con view)

-- the lot is the one to be taken
abbrev pub IsLotRight : Constituency → View → Type 0
IsLotRight con view =
    HasEligible (poll_in con view) × IsLotTaken (rule_in con) (poll_in con view) con.seats view.lot
