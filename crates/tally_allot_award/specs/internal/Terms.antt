-- The terms that the seats of a poll are contested on, and the races that they make. No promise to
-- a caller speaks of them.
use Rattle.std.specs.Prelude.{ℕ, ◌≡◌, ◌+◌, ◌≤◌, ◌↔◌, List, [], Bool, true, false, length}
use Rattle.std.specs.Prelude.{slice_index_or, map, sum, if◌then◌else◌}
use Rattle.tally_frac.specs.Limits.{most_lists, most_seats}
use Rattle.tally_frac.specs.Rank.{Pair, RanksAbove, RanksAboveByVotes}
use Rattle.tally_setup.specs.Threshold.{is_eligible}
use Rattle.tally_setup.specs.declared.profile.LotRule.{LotRule}
use Rattle.tally_setup.specs.declared.profile.LotRule.TheVariants.{Fixed}
use Rattle.tally_law.specs.Poll.{Poll, IsEligible, votes_of}
use Rattle.tally_allot_award.specs.internal.Pairs.{pair_of}
use Rattle.tally_law.specs.HareAllotment.{whole_quotas, claim_of, ClaimsAbove, ClaimsAboveByVotes}
use Rattle.tally_law.specs.Allotment.{Rule, divisors, hare}
use Rattle.tally_allot_award.specs.internal.Race.{IsFair, Race}
pub use Rattle.tally_allot_award.specs.internal.Premises.{AreDivisors, IsRule, IsSound}
pub use Rattle.tally_allot_award.specs.internal.Premises.{ArePlacedApart}
pub use Rattle.tally_allot_award.specs.internal.Premises.{IsProperLot}

-- the poll of lists with these votes under a threshold of this many ten-thousandths of a base
abbrev pub poll_under : ℕ → ℕ → List ℕ → Poll
poll_under threshold base votes =
    record { votes = votes; eligible = map (is_eligible threshold base) votes }

pub record Terms : Type 0 where
  pub rule : Rule
  pub poll : Poll
  pub lot : List ℕ
  pub seats : ℕ

-- The rule and the poll are sound, and the numbers are within their limits.
pub record AreSound (terms : Terms) : Type 0 where
  pub rule : IsRule terms.rule
  pub poll : IsSound terms.poll
  pub some_seat : 1 ≤ terms.seats
  pub few_seats : terms.seats ≤ most_seats
  pub few_lists : length terms.poll.votes ≤ most_lists

-- Under a divisor rule an eligible list has 0 seats or more, up to all.
abbrev pub seats_for : Poll → ℕ → ℕ → ℕ
seats_for poll seats l = if slice_index_or poll.eligible l false then seats else 0

abbrev pub divisor_race : (ℕ → ℕ) → Poll → ℕ → Race
divisor_race nth poll seats = record {
  count = length poll.votes;
  floor = λ _. 0;
  cap = seats_for poll seats;
  Above = λ l k m j.
      RanksAboveByVotes (pair_of nth Fixed poll [] l k) (pair_of nth Fixed poll [] m j);
}

abbrev pub placed_divisor_race : (ℕ → ℕ) → LotRule → Poll → List ℕ → ℕ → Race
placed_divisor_race nth lot_rule poll lot seats = record {
  count = length poll.votes;
  floor = λ _. 0;
  cap = seats_for poll seats;
  Above = λ l k m j.
      RanksAbove (pair_of nth lot_rule poll lot l k) (pair_of nth lot_rule poll lot m j);
}

-- Under Hare's rule an eligible list has its whole quotas, or one seat more.
abbrev pub quotas_for : Poll → ℕ → ℕ → ℕ
quotas_for poll seats l =
    if slice_index_or poll.eligible l false then whole_quotas poll seats l else 0

abbrev pub most_for : Poll → ℕ → ℕ → ℕ
most_for poll seats l =
    if slice_index_or poll.eligible l false then whole_quotas poll seats l + 1 else 0

abbrev pub remainder_race : Poll → ℕ → Race
remainder_race poll seats = record {
  count = length poll.votes;
  floor = quotas_for poll seats;
  cap = most_for poll seats;
  Above = λ l k m j. ClaimsAboveByVotes (claim_of poll [] seats l) (claim_of poll [] seats m);
}

abbrev pub placed_remainder_race : Poll → List ℕ → ℕ → Race
placed_remainder_race poll lot seats = record {
  count = length poll.votes;
  floor = quotas_for poll seats;
  cap = most_for poll seats;
  Above = λ l k m j. ClaimsAbove (claim_of poll lot seats l) (claim_of poll lot seats m);
}

-- how the lots of a rule decide; Hare's rule reads each as fixed
abbrev pub lot_rule_of : Rule → LotRule
lot_rule_of (divisors nth unit lot_rule) = lot_rule
lot_rule_of hare = Fixed

-- the k-th divisor under a rule; Hare's has none, and 1 is written for it
abbrev pub divisor_under : Rule → ℕ → ℕ
divisor_under (divisors nth unit lot_rule) k = nth k
divisor_under hare k = 1

-- the pair of list l and its k-th seat on these terms
abbrev pub pair_on : Terms → ℕ → ℕ → Pair
pair_on terms l k =
    pair_of (divisor_under terms.rule) (lot_rule_of terms.rule) terms.poll terms.lot l k

-- the race by the votes alone
abbrev pub vote_race : Terms → Race
vote_race terms = for_rule terms.rule terms.poll terms.seats
  where
    for_rule : Rule → Poll → ℕ → Race
    for_rule (divisors nth unit lot_rule) poll seats = divisor_race nth poll seats
    for_rule hare poll seats = remainder_race poll seats

-- and with the places under the lot
abbrev pub placed_race : Terms → Race
placed_race terms = for_rule terms.rule terms.poll terms.lot terms.seats
  where
    for_rule : Rule → Poll → List ℕ → ℕ → Race
    for_rule (divisors nth unit lot_rule) poll lot seats =
        placed_divisor_race nth lot_rule poll lot seats
    for_rule hare poll lot seats = placed_remainder_race poll lot seats

-- The vector shares out the seats of the terms, and the race allows it under the lot.
abbrev pub AreFairSeats : Terms → List ℕ → Type 0
AreFairSeats terms a = IsFair (placed_race terms) terms.seats a

-- .. or those that were given so far
abbrev pub AreFairSoFar : Terms → List ℕ → Type 0
AreFairSoFar terms a = IsFair (placed_race terms) (sum a) a

-- The lists that are marked are the eligible ones with this many votes.
abbrev pub HaveVotes : Poll → ℕ → List Bool → Type 0
HaveVotes poll votes group =
    (x : ℕ) → (slice_index_or group x false ≡ true) ↔
    (IsEligible poll x × (votes_of poll x ≡ votes))

-- .. with the votes of list l
abbrev pub IsClassOf : Poll → ℕ → List Bool → Type 0
IsClassOf poll l group = HaveVotes poll (votes_of poll l) group
