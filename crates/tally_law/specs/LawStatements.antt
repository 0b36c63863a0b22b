-- The laws of allotments and lots, as they hold of the votes of any poll under any profile. Each is
-- proved as a clause of a function of `laws` in `tally_allot`, which has its name.
use Rattle.std.specs.Prelude.{ℕ, ◌≡◌, ◌≤◌, ◌↔◌, ◌⊎◌, List, [], Bool, true, false, length}
use Rattle.std.specs.Prelude.{slice_index_or}
use Rattle.tally_setup.specs.declared.profile.Profile.{Profile}
use Rattle.tally_law.specs.Poll.{Poll, IsEligible, HasEligible, votes_of}
use Rattle.tally_law.specs.Lot.{IsOrderOf}
use Rattle.tally_law.specs.Allotment.{Rule, IsAllotment, IsAllotmentByVotes}
use Rattle.tally_law.specs.LotNeed.{IsDecidedByVotes, IsLotNeeded, IsNeed}
use Rattle.tally_law.specs.Rules.{rule_of, poll_of}
use Rattle.tally_law.specs.Reordering.{IsReordering, numbers_in_order}

-- What is said of a rule and a poll holds of those of each profile, with any votes.
abbrev pub OfEachPoll : (Rule → Poll → Type 0) → Type 0
OfEachPoll Says =
    (profile : Profile) (votes : List ℕ) (blank : ℕ) →
    Says (rule_of profile) (poll_of profile votes blank)

-- Under any lot, at most one vector of seats is the allotment.
abbrev pub AllotmentsAreUnique : Type 0
AllotmentsAreUnique = OfEachPoll (λ rule poll. (lot : List ℕ) (seats : ℕ) (a b : List ℕ) →
    IsAllotment rule poll lot seats a → IsAllotment rule poll lot seats b → a ≡ b)

-- Wherever a list is eligible, one is the allotment where no lot is drawn.
abbrev pub AllotmentsExist : Type 0
AllotmentsExist = OfEachPoll (λ rule poll. (seats : ℕ) → 1 ≤ seats → HasEligible poll →
    (a : List ℕ) × IsAllotment rule poll [] seats a)

-- Under any lot, the allotment is one that the votes alone allow.
abbrev pub LotsChooseAmongWhatVotesAllow : Type 0
LotsChooseAmongWhatVotesAllow =
    OfEachPoll (λ rule poll. (lot : List ℕ) (seats : ℕ) (a : List ℕ) → 1 ≤ seats →
    IsAllotment rule poll lot seats a → IsAllotmentByVotes rule poll seats a)

-- Wherever a list is eligible, either the votes decide, or there are a group and a number of seats
-- in question.
abbrev pub VotesDecideOrALotIsNeeded : Type 0
VotesDecideOrALotIsNeeded = OfEachPoll (λ rule poll. (seats : ℕ) → 1 ≤ seats → HasEligible poll →
    IsDecidedByVotes rule poll seats ⊎ ((group : List Bool) × (in_question : ℕ) ×
    IsNeed rule poll seats group in_question))

-- Where the votes decide no lot is needed.
abbrev pub NoLotIsNeededWhereVotesDecide : Type 0
NoLotIsNeededWhereVotesDecide = OfEachPoll (λ rule poll. (seats : ℕ) →
    IsDecidedByVotes rule poll seats → ¬ IsLotNeeded rule poll seats)

-- A group is all the eligible lists with the votes of one of them.
abbrev pub GroupsAreOfOneNumberOfVotes : Type 0
GroupsAreOfOneNumberOfVotes =
    OfEachPoll (λ rule poll. (seats : ℕ) (group : List Bool) (in_question : ℕ) → 1 ≤ seats →
    IsNeed rule poll seats group in_question →
    (l : ℕ) × IsEligible poll l × ((m : ℕ) → (slice_index_or group m false ≡ true) ↔
    (IsEligible poll m × (votes_of poll m ≡ votes_of poll l))))

-- Each order of the group gives an allotment, and it is one that the votes alone allow.
abbrev pub EachOrderGivesAChoice : Type 0
EachOrderGivesAChoice =
    OfEachPoll (λ rule poll. (seats : ℕ) (group : List Bool) (in_question : ℕ) (lot : List ℕ) →
    1 ≤ seats →
    IsNeed rule poll seats group in_question → IsOrderOf group lot →
    (a : List ℕ) × IsAllotment rule poll lot seats a × IsAllotmentByVotes rule poll seats a)

-- Each allotment that the votes alone allow comes from an order of the group.
abbrev pub EachChoiceComesFromAnOrder : Type 0
EachChoiceComesFromAnOrder =
    OfEachPoll (λ rule poll. (seats : ℕ) (group : List Bool) (in_question : ℕ) (a : List ℕ) →
    1 ≤ seats →
    IsNeed rule poll seats group in_question → IsAllotmentByVotes rule poll seats a →
    (lot : List ℕ) × IsOrderOf group lot × IsAllotment rule poll lot seats a)

-- Where the votes decide, they decide in any other order of the lists in the setup, and each list
-- has the seats that it had.
abbrev pub TheOrderOfTheSetupIsNothingWhereVotesDecide : Type 0
TheOrderOfTheSetupIsNothingWhereVotesDecide =
    (profile : Profile) (votes : List ℕ) (blank seats : ℕ) (order a : List ℕ) →
    1 ≤ seats → IsReordering (length votes) order →
    IsDecidedByVotes (rule_of profile) (poll_of profile votes blank) seats →
    IsAllotment (rule_of profile) (poll_of profile votes blank) [] seats a →
    IsDecidedByVotes (rule_of profile) (poll_of profile (numbers_in_order votes order) blank) seats
    × IsAllotment (rule_of profile) (poll_of profile (numbers_in_order votes order) blank) [] seats
    (numbers_in_order a order)
