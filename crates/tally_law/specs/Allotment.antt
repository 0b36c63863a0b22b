-- The allotment of a poll under a rule.
use Rattle.std.specs.Prelude.{ℕ, List}
use Rattle.tally_setup.specs.declared.profile.LotRule.{LotRule}
use Rattle.tally_law.specs.Poll.{Poll}
use Rattle.tally_law.specs.DivisorAllotment.{IsDivisorAllotment, IsDivisorAllotmentByVotes}
use Rattle.tally_law.specs.HareAllotment.{IsHareAllotment, IsHareAllotmentByVotes}

-- A divisor rule, by its k-th divisor, the unit of its divisors and how its lots decide, or Hare's
-- rule with the largest remainders.
pub data Rule : Type 0 where
  divisors : (nth : ℕ → ℕ) (unit : ℕ) (lot_rule : LotRule) → Rule
  hare : Rule

-- The vector of seats is the allotment of the poll under a lot.
abbrev pub IsAllotment : Rule → Poll → List ℕ → ℕ → List ℕ → Type 0
IsAllotment (divisors nth unit lot_rule) poll lot seats a =
    IsDivisorAllotment nth unit lot_rule poll lot seats a
IsAllotment hare poll lot seats a = IsHareAllotment poll lot seats a

-- The vector of seats is one that the votes alone allow.
abbrev pub IsAllotmentByVotes : Rule → Poll → ℕ → List ℕ → Type 0
IsAllotmentByVotes (divisors nth unit lot_rule) poll seats a =
    IsDivisorAllotmentByVotes nth unit poll seats a
IsAllotmentByVotes hare poll seats a = IsHareAllotmentByVotes poll seats a
