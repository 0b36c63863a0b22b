-- Votes short: how many more votes a list needs for one more seat. The allotments are those of the
-- law (LOREG article 163.1), with ties by votes; the number itself is this project's own term.
use Rattle.std.specs.Prelude.{ℕ, ◌≡◌, ◌+◌, ◌-◌, ◌<◌, ◌≤◌, ◌⊎◌, ◌↔◌, List, Option, None, Some}
use Rattle.std.specs.Prelude.{length, slice_index, slice_index_or, slice_set}
use Rattle.tally_law.specs.Poll.{Poll, IsEligible, votes_of}
use Rattle.tally_law.specs.Allotment.{Rule, IsAllotment, IsAllotmentByVotes}

-- the poll with x more votes for list m; the other votes and the set of eligible lists are
-- unchanged
abbrev pub with_more_votes : Poll → ℕ → ℕ → Poll
with_more_votes poll m x = record {
  votes = slice_set poll.votes m (votes_of poll m + x);
  eligible = poll.eligible;
}

-- With x more votes every allotment by the votes alone gives list m more seats than it holds.
abbrev pub IsSureOfMore : Rule → Poll → ℕ → ℕ → ℕ → ℕ → Type 0
IsSureOfMore rule poll seats held m x =
    (b : List ℕ) → IsAllotmentByVotes rule (with_more_votes poll m x) seats b →
    held < slice_index b m

-- Votes short: the least x >= 1 with which list m is sure of more seats than it holds.
pub record IsVotesShort (rule : Rule) (poll : Poll) (seats held m x : ℕ) : Type 0 where
  pub at_least_one : 1 ≤ x
  pub enough : IsSureOfMore rule poll seats held m x
  pub least : (y : ℕ) → 1 ≤ y → IsSureOfMore rule poll seats held m y → x ≤ y

-- With one vote fewer some allotment by the votes alone gives list m no more than it holds; with
-- this or any greater number every one gives it more. However many votes are added, there is one.
pub record IsLeastNumber (rule : Rule) (poll : Poll) (seats held m x : ℕ) : Type 0 where
  pub one_less : (b : List ℕ) × IsAllotmentByVotes rule (with_more_votes poll m (x - 1)) seats b ×
      (slice_index b m ≤ held)
  pub this_or_more : (y : ℕ) → x ≤ y → IsSureOfMore rule poll seats held m y
  pub some : (y : ℕ) → (b : List ℕ) × IsAllotmentByVotes rule (with_more_votes poll m y) seats b

-- List m can gain nothing: it is not eligible, or holds all seats.
abbrev pub HasNoMoreToGain : Poll → ℕ → List ℕ → ℕ → Type 0
HasNoMoreToGain poll seats held m = (¬ IsEligible poll m) ⊎ (slice_index held m ≡ seats)

-- The number of each list, beside the seats that the allotment gives it now. There is none exactly
-- where the list has no more to gain.
pub record AreVotesShort (rule : Rule) (poll : Poll) (lot : List ℕ) (seats : ℕ)
    (numbers : List (Option ℕ)) : Type 0 where
  pub held : List ℕ
  pub allotment : IsAllotment rule poll lot seats held
  pub none : (m : ℕ) → m < length poll.votes →
      (slice_index_or numbers m None ≡ None) ↔ HasNoMoreToGain poll seats held m
  pub short : (m x : ℕ) → slice_index_or numbers m None ≡ Some x →
      IsVotesShort rule poll seats (slice_index held m) m x
  pub least : (m x : ℕ) → slice_index_or numbers m None ≡ Some x →
      IsLeastNumber rule poll seats (slice_index held m) m x

-- Each number is below a limit.
abbrev pub AreBelow : ℕ → List (Option ℕ) → Type 0
AreBelow limit numbers = (m x : ℕ) → slice_index_or numbers m None ≡ Some x → x < limit
