-- The words of the law and of faults, said of the terms of a contest. No promise to a caller speaks
-- of them.
use Rattle.std.specs.Prelude.{ℕ, List}
use Rattle.tally_law.specs.Allotment.{IsAllotment}
use Rattle.tally_law.specs.LotNeed.{IsAllotmentUnderLot, IsLotTaken}
use Rattle.tally_allot_award.specs.internal.Terms.{Terms}
use Rattle.tally_allot.specs.AllotFault.{IsFaultOf}
use Rattle.tally_allot.specs.declared.fault.AllotFault.{AllotFault}

-- The vector is the allotment on these terms.
abbrev pub IsAllotmentOn : Terms → List ℕ → Type 0
IsAllotmentOn terms a = IsAllotment terms.rule terms.poll terms.lot terms.seats a

-- .. and the lot of the terms is the one to be taken
abbrev pub IsUnderLotOn : Terms → List ℕ → Type 0
IsUnderLotOn terms a = IsAllotmentUnderLot terms.rule terms.poll terms.lot terms.seats a

-- The lot of the terms is the one to be taken.
abbrev pub IsLotTakenOn : Terms → Type 0
IsLotTakenOn terms = IsLotTaken terms.rule terms.poll terms.seats terms.lot

-- What each fault says on these terms.
abbrev pub IsFaultOn : Terms → AllotFault → Type 0
IsFaultOn terms fault = IsFaultOf terms.rule terms.poll terms.seats terms.lot fault
