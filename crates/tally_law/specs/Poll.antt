-- A poll: the votes that seats are allotted by, and the vectors of seats.
use Rattle.std.specs.Prelude.{ℕ, ◌≡◌, ◌+◌, List, [], ◌∷◌, Bool, true, false, slice_index}
use Rattle.std.specs.Prelude.{slice_index_or, length, sum}

-- The votes of each list, and whether it is eligible, both in the order of the setup.
pub record Poll : Type 0 where
  pub votes : List ℕ
  pub eligible : List Bool

-- Lists are numbered from 0 here: list l is at place l + 1 of the setup.
abbrev pub votes_of : Poll → ℕ → ℕ
votes_of poll l = slice_index poll.votes l

abbrev pub IsEligible : Poll → ℕ → Type 0
IsEligible poll l = slice_index_or poll.eligible l false ≡ true

-- some list is eligible
abbrev pub HasEligible : Poll → Type 0
HasEligible poll = (l : ℕ) × IsEligible poll l

-- the sum of the numbers that are marked
abbrev pub sum_marked : List Bool → List ℕ → ℕ
sum_marked [] ns = 0
sum_marked (b ∷ bs) [] = 0
sum_marked (true ∷ bs) (n ∷ ns) = n + sum_marked bs ns
sum_marked (false ∷ bs) (n ∷ ns) = sum_marked bs ns

-- the votes of the eligible lists together
abbrev pub eligible_votes : Poll → ℕ
eligible_votes poll = sum_marked poll.eligible poll.votes

-- Whole numbers of seats: one for each list, 0 for a list that is not eligible, and these seats
-- together.
pub record SharesOut (poll : Poll) (seats : ℕ) (a : List ℕ) : Type 0 where
  pub one_each : length a ≡ length poll.votes
  pub eligible_only : (l : ℕ) → ¬ IsEligible poll l → slice_index a l ≡ 0
  pub whole : sum a ≡ seats
