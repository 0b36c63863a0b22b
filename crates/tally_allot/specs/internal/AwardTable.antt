-- The table of awards that is made of the seats won. No promise to a caller speaks of it.
use Rattle.std.specs.Prelude.{ℕ, List}
use Rattle.tally_allot.specs.Awards.{AreAwards}
use Rattle.tally_allot.specs.declared.award.Award.{Award}
use Rattle.tally_allot_award.specs.declared.won.WonSeat.{WonSeat}
use Rattle.tally_law.specs.DivisorAllotment.{IsDivisorAllotment}
use Rattle.tally_law.specs.Poll.{Poll}
use Rattle.tally_allot_award.specs.internal.Terms.{IsProperLot, placed_divisor_race}
use Rattle.tally_setup.specs.declared.profile.LotRule.{LotRule}
use Rattle.tally_allot_award.specs.internal.WonSeat.{AreWon}

-- Under whichever proper lot the seats are the allotment and were won so, these are its awards.
abbrev pub IsTableOf : (ℕ → ℕ) → ℕ → LotRule → Poll → List ℕ → List WonSeat → List Award → Type 0
IsTableOf nth unit lot_rule poll a rows awards = (lot : List ℕ) (seats : ℕ) → IsProperLot poll lot →
    IsDivisorAllotment nth unit lot_rule poll lot seats a →
    AreWon (placed_divisor_race nth lot_rule poll lot seats) a rows →
    AreAwards nth unit lot_rule poll lot seats awards
