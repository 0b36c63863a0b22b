-- Whether returns are those of a constituency.
use Rattle.std.proofs.Common.{◌≡◌, ◌≤◌, ◌<◌, ℕ, List, length, Option, arith}
use Rattle.tally_setup.specs.Constituency.{Constituency}
use Rattle.tally_returns.specs.Counts.{VoteCounts}
use Rattle.tally_report_allotment.specs.Recount.{AreReturnsOf}
use Rattle.tally_report_allotment.specs.internal.Counting.{IsReturnAt}

-- what is said of each place is said of all
pub returns-if-each : (con : Constituency) (returns : List (Option VoteCounts)) (n : ℕ) → length returns ≡ length con.stations → length returns ≤ n → ((k : ℕ) → k < n → IsReturnAt con returns k) → AreReturnsOf con returns
returns-if-each con returns n same past each = record {
  one_each = same;
  lawful = λ place station c lt is. each place (omega (arith, lt, same, past)) station c is;
}

pub each-of-returns : (con : Constituency) (returns : List (Option VoteCounts)) (place : ℕ) → place < length con.stations → AreReturnsOf con returns → IsReturnAt con returns place
each-of-returns con returns place lt are = λ station c is. are.lawful place station c lt is
