-- The seats in the order of their award (LOREG article 163.1 c)).
use Rattle.std.specs.Prelude.{ℕ, ◌≡◌, ◌+◌, ◌-◌, ◌*◌, ◌<◌, ◌≤◌, List, length, slice_index}
use Rattle.std.specs.Prelude.{slice_index_or}
use Rattle.tally_setup.specs.declared.profile.LotRule.{LotRule}
use Rattle.tally_law.specs.Allotment.{Rule, divisors, hare}
use Rattle.tally_allot.specs.declared.award.Award.{Award}
use Rattle.tally_allot_award.specs.declared.won.WonSeat.{WonSeat}
use Rattle.tally_law.specs.Poll.{Poll, IsEligible, votes_of}
use Rattle.tally_law.specs.DivisorAllotment.{IsAbove, IsDivisorAllotment}

-- the award of a seat that was won: the place of its list, and the quotient
abbrev pub award_of : (ℕ → ℕ) → ℕ → Poll → WonSeat → Award
award_of nth unit poll row =
    record {
      list = row.list + 1;
      k = row.seat;
      num = votes_of poll row.list * unit;
      den = nth row.seat;
    }

-- The award is of the k-th seat of list l, which l won, and has its quotient.
pub record IsAwardOf (nth : ℕ → ℕ) (unit : ℕ) (poll : Poll) (a : List ℕ) (l : ℕ)
    (award : Award) : Type 0 where
  pub list_is : award.list ≡ l + 1
  pub eligible : IsEligible poll l
  pub from_one : 1 ≤ award.k
  pub won : award.k ≤ slice_index a l
  pub num_is : award.num ≡ votes_of poll l * unit
  pub den_is : award.den ≡ nth award.k

-- one award ranks above another: their pairs do
abbrev pub IsAwardAbove : (ℕ → ℕ) → ℕ → LotRule → Poll → List ℕ → Award → Award → Type 0
IsAwardAbove nth unit lot_rule poll lot x y =
    IsAbove nth unit lot_rule poll lot (x.list - 1) x.k (y.list - 1) y.k

-- The seats of a vector, each once, in falling rank.
pub record AreAwardsOf (nth : ℕ → ℕ) (unit : ℕ) (lot_rule : LotRule) (poll : Poll) (lot : List ℕ)
    (a : List ℕ) (awards : List Award) : Type 0 where
  pub each : (i : ℕ) (d : Award) → i < length awards → (l : ℕ) ×
      IsAwardOf nth unit poll a l (slice_index_or awards i d)
  pub all : (l k : ℕ) → 1 ≤ k → k ≤ slice_index a l → (i : ℕ) × (i < length awards) ×
      ((d : Award) → ((slice_index_or awards i d).list ≡ l + 1) ×
      ((slice_index_or awards i d).k ≡ k))
  pub falling : (i j : ℕ) (d : Award) → i < j → j < length awards →
      IsAwardAbove nth unit lot_rule poll lot
      (slice_index_or awards i d) (slice_index_or awards j d)

-- the awards of the divisor allotment
abbrev pub AreAwards : (ℕ → ℕ) → ℕ → LotRule → Poll → List ℕ → ℕ → List Award → Type 0
AreAwards nth unit lot_rule poll lot seats awards = (a : List ℕ) ×
    IsDivisorAllotment nth unit lot_rule poll lot seats a ×
    AreAwardsOf nth unit lot_rule poll lot a awards

-- the awards under a rule; Hare's has none
abbrev pub AreAwardsBy : Rule → Poll → List ℕ → ℕ → List Award → Type 0
AreAwardsBy (divisors nth unit lot_rule) poll lot seats awards =
    AreAwards nth unit lot_rule poll lot seats awards
AreAwardsBy hare poll lot seats awards = ⊥
