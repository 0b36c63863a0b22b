-- When the seats of a poll are not allotted.
use Rattle.std.specs.Prelude.{ℕ, ◌≡◌, List, [], Option, MatchOption}
use Rattle.tally_law.specs.Poll.{Poll, HasEligible}
use Rattle.tally_law.specs.Allotment.{Rule}
use Rattle.tally_law.specs.LotNeed.{IsNeed, IsDecidedByVotes, IsLotWrong}
use Rattle.tally_allot.specs.declared.fault.AllotFault.{AllotFault}
use Rattle.tally_allot.specs.declared.fault.AllotFault.TheVariants.{NoEligible, LotMissing}
use Rattle.tally_allot.specs.declared.fault.AllotFault.TheVariants.{WrongLot, Memory}
use Rattle.tally_allot_award.specs.declared.need.Need.{Need}

-- What each fault says. Memory may come at any time.
abbrev pub IsFaultOf : Rule → Poll → ℕ → List ℕ → AllotFault → Type 0
IsFaultOf rule poll seats lot NoEligible = ¬ HasEligible poll
IsFaultOf rule poll seats lot (LotMissing group in_question) =
    HasEligible poll × IsNeed rule poll seats group in_question × (lot ≡ [])
IsFaultOf rule poll seats lot WrongLot = HasEligible poll × IsLotWrong rule poll seats lot
IsFaultOf rule poll seats lot Memory = Unit {0}

-- the number of a fault
abbrev pub allot_fault_number : AllotFault → ℕ
allot_fault_number NoEligible = 1
allot_fault_number (LotMissing group in_question) = 2
allot_fault_number WrongLot = 3
allot_fault_number Memory = 4

-- No lot, where the votes decide, and else the lot that is needed.
abbrev pub IsNeedOrNone : Rule → Poll → ℕ → Option Need → Type 0
IsNeedOrNone rule poll seats need =
    MatchOption need (IsDecidedByVotes rule poll seats)
    (λ need. IsNeed rule poll seats need.group need.seats)

-- What the faults say where a lot is asked for. No fault speaks of a lot.
abbrev pub IsNeedFaultOf : Poll → AllotFault → Type 0
IsNeedFaultOf poll NoEligible = ¬ HasEligible poll
IsNeedFaultOf poll (LotMissing group in_question) = ⊥
IsNeedFaultOf poll WrongLot = ⊥
IsNeedFaultOf poll Memory = Unit {0}
