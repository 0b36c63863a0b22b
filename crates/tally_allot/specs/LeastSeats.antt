-- The least seats: what each list has in any case, whatever lot may be drawn. The allotments are
-- those that the votes alone allow (LOREG article 163.1 d)); the term is this project's own.
use Rattle.std.specs.Prelude.{ℕ, ◌≡◌, ◌<◌, List, length, slice_index}
use Rattle.tally_law.specs.Poll.{Poll}
use Rattle.tally_law.specs.Allotment.{Rule}
use Rattle.tally_law.specs.LotNeed.{IsLeast}

-- One number for each list: the least that it holds in any allotment by the votes alone.
pub record AreLeastSeats (rule : Rule) (poll : Poll) (seats : ℕ) (least : List ℕ) : Type 0 where
  pub one_each : length least ≡ length poll.votes
  pub each : (l : ℕ) → l < length poll.votes → IsLeast rule poll seats l (slice_index least l)
