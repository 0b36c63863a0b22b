-- A race for seats, of which the divisor rules and the largest remainders are both cases. No
-- promise to a caller speaks of it.
use Rattle.std.specs.Prelude.{ℕ, ◌≡◌, ◌+◌, ◌<◌, ◌≤◌, ◌≢◌, List, Option, None, Some, length}
use Rattle.std.specs.Prelude.{slice_index, sum}

-- How many lists there are, how many seats each has at least and at most, and the order of the
-- pairs (l, k) of a list and its k-th seat.
pub record Race : Type 1 where
  pub count : ℕ
  pub floor : ℕ → ℕ
  pub cap : ℕ → ℕ
  pub Above : ℕ → ℕ → ℕ → ℕ → Type 0

-- a seat that list l runs for
abbrev pub IsPair : Race → ℕ → ℕ → Type 0
IsPair race l k = (race.floor l < k) × (k ≤ race.cap l)

-- (l, k) is not below (m, j)
abbrev pub NotBelow : Race → ℕ → ℕ → ℕ → ℕ → Type 0
NotBelow race l k m j = ¬ race.Above m j l k

-- One number for each list, each within its limits.
pub record IsWithin (race : Race) (a : List ℕ) : Type 0 where
  pub one_each : length a ≡ race.count
  pub low : (l : ℕ) → race.floor l ≤ slice_index a l
  pub high : (l : ℕ) → slice_index a l ≤ race.cap l

-- The vector a of n seats is one that the race allows: no last seat is below another list's next.
pub record IsFair (race : Race) (n : ℕ) (a : List ℕ) : Type 0 where
  pub one_each : length a ≡ race.count
  pub low : (l : ℕ) → race.floor l ≤ slice_index a l
  pub high : (l : ℕ) → slice_index a l ≤ race.cap l
  pub total : sum a ≡ n
  pub last_not_below_next : (l m : ℕ) → l ≢ m → race.floor l < slice_index a l →
      slice_index a m < race.cap m →
      NotBelow race l (slice_index a l) m (slice_index a m + 1)

-- List l still runs for a seat, and its next pair is not below that of any other list that does.
pub record IsHighestNext (race : Race) (a : List ℕ) (l : ℕ) : Type 0 where
  pub runs : slice_index a l < race.cap l
  pub highest : (m : ℕ) → slice_index a m < race.cap m →
      NotBelow race l (slice_index a l + 1) m (slice_index a m + 1)

-- List l has won a seat, and no list's last pair is below its last.
pub record IsLowestLast (race : Race) (a : List ℕ) (l : ℕ) : Type 0 where
  pub wins : race.floor l < slice_index a l
  pub lowest : (m : ℕ) → race.floor m < slice_index a m →
      NotBelow race m (slice_index a m) l (slice_index a l)

-- The last seat of list l ties with the next of list m.
pub record IsTie (race : Race) (a : List ℕ) (l m : ℕ) : Type 0 where
  pub apart : l ≢ m
  pub wins : race.floor l < slice_index a l
  pub runs : slice_index a m < race.cap m
  pub tied : NotBelow race m (slice_index a m + 1) l (slice_index a l)

-- Among the first lists, the one whose next pair is highest, if one of them still runs.
abbrev pub IsHighestBefore : Race → List ℕ → ℕ → Option ℕ → Type 0
IsHighestBefore race a n None = (m : ℕ) → m < n → race.cap m ≤ slice_index a m
IsHighestBefore race a n (Some l) = (l < race.count) × (slice_index a l < race.cap l) ×
    ((m : ℕ) → m < n → slice_index a m < race.cap m →
    NotBelow race l (slice_index a l + 1) m (slice_index a m + 1))

-- Among the first lists, the one whose last pair is lowest, if one of them has won a seat.
abbrev pub IsLowestBefore : Race → List ℕ → ℕ → Option ℕ → Type 0
IsLowestBefore race a n None = (m : ℕ) → m < n → slice_index a m ≤ race.floor m
IsLowestBefore race a n (Some l) = (l < race.count) × (race.floor l < slice_index a l) ×
    ((m : ℕ) → m < n → race.floor m < slice_index a m →
    NotBelow race m (slice_index a m) l (slice_index a l))

-- List l may hold more, and its next pair is above the pair (m, j).
abbrev pub IsNextAbove : Race → List ℕ → ℕ → ℕ → ℕ → Type 0
IsNextAbove race a l m j =
    (slice_index a l < race.cap l) × race.Above l (slice_index a l + 1) m j

-- The last seat of list l is not below the next of any other list.
abbrev pub IsLastFair : Race → List ℕ → ℕ → Type 0
IsLastFair race a l =
    (m : ℕ) → l ≢ m → slice_index a m < race.cap m →
    NotBelow race l (slice_index a l) m (slice_index a m + 1)

-- The lists together may hold n seats.
abbrev pub CanHold : Race → ℕ → Type 0
CanHold race n =
    (full : List ℕ) × (length full ≡ race.count) × ((l : ℕ) → slice_index full l ≤ race.cap l) ×
    (n ≤ sum full)
