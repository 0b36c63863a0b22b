-- What a result has beside what is seen of its constituency: the provisional seats of each list and
-- their status, the votes that each list is short of one more of these seats, and the seats in the
-- order of their award. Each is what a report says of it.
use Rattle.std.specs.Prelude.{◌≡◌, ◌&&◌, ℕ, Bool, true, false, not, is_some, List, [], Option}
use Rattle.tally_setup.specs.Constituency.{Constituency}
use Rattle.tally_setup.specs.Method.{divisor_rule_of}
use Rattle.tally_allot.specs.Awards.{AreAwardsBy}
use Rattle.tally_allot.specs.declared.award.Award.{Award}
use Rattle.tally_machine_law.specs.Outcome.{poll_in, rule_in}
use Rattle.tally_returns.specs.View.{View}
use Rattle.tally_report.specs.ProvisionalSeats.{AreProvisionalSeats}
use Rattle.tally_report.specs.ShortText.{AreVotesShortIn}
use Rattle.tally_report.specs.declared.status.ProvisionalStatus.{ProvisionalStatus}
use Rattle.tally_report.specs.declared.status.ProvisionalStatus.TheVariants as status

pub record ResultParts : Type 0 where
  pub status : ProvisionalStatus
  pub seats : List ℕ
  pub short : List (Option ℕ)
  pub awards : List Award

-- the votes that are closed and the lot decide all seats
abbrev pub is_decided : ProvisionalStatus → Bool
is_decided status.Certified = true
is_decided status.Open = true
is_decided (status.LotNeeded group in_question) = false
is_decided status.NoEligible = false

-- the rule has divisors
abbrev pub has_divisors : Constituency → Bool
has_divisors con = is_some (divisor_rule_of con.profile.method)

-- votes short and awards are shown, or quotas
abbrev pub shows_awards : Constituency → ProvisionalStatus → Bool
shows_awards con state = is_decided state && has_divisors con

abbrev pub shows_quotas : Constituency → ProvisionalStatus → Bool
shows_quotas con state = is_decided state && not (has_divisors con)

-- the votes short by the closed votes and the lot, where they are shown, and else none
abbrev pub AreVotesShortIf : Bool → Constituency → View → List (Option ℕ) → Type 0
AreVotesShortIf true con view short = AreVotesShortIn con view short
AreVotesShortIf false con view short = short ≡ []

-- the awards by the closed votes and the lot, where they are shown, and else none
abbrev pub AreAwardsIf : Bool → Constituency → View → List Award → Type 0
AreAwardsIf true con view awards =
    AreAwardsBy (rule_in con) (poll_in con view) view.lot con.seats awards
AreAwardsIf false con view awards = awards ≡ []

-- These are the parts of the result of a constituency of which this is seen.
pub record AreResultParts (con : Constituency) (view : View) (parts : ResultParts) : Type 0 where
  pub seats : AreProvisionalSeats con view parts.status parts.seats
  pub short : AreVotesShortIf (shows_awards con parts.status) con view parts.short
  pub awards : AreAwardsIf (shows_awards con parts.status) con view parts.awards
