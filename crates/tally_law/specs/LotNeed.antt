-- When a lot is needed (LOREG article 163.1 d), second half). Which lists take part in it, and the
-- number of seats in question, are this project's own terms.
use Rattle.std.specs.Prelude.{ℕ, ◌≡◌, ◌+◌, ◌≤◌, ◌≢◌, ◌↔◌, ◌⊎◌, List, [], Bool, true, false}
use Rattle.std.specs.Prelude.{slice_index, slice_index_or}
use Rattle.tally_law.specs.Poll.{Poll, HasEligible, sum_marked}
use Rattle.tally_law.specs.Lot.{IsOrderOf}
use Rattle.tally_law.specs.Allotment.{Rule, IsAllotment, IsAllotmentByVotes}

-- A lot is needed: more than one allotment by the votes alone exists.
abbrev pub IsLotNeeded : Rule → Poll → ℕ → Type 0
IsLotNeeded rule poll seats =
    (a : List ℕ) × (b : List ℕ) × IsAllotmentByVotes rule poll seats a ×
    IsAllotmentByVotes rule poll seats b × (a ≢ b)

-- Exactly one allotment by the votes alone exists.
abbrev pub IsDecidedByVotes : Rule → Poll → ℕ → Type 0
IsDecidedByVotes rule poll seats =
    (a : List ℕ) × IsAllotmentByVotes rule poll seats a ×
    ((b : List ℕ) → IsAllotmentByVotes rule poll seats b → b ≡ a)

-- List l's seats differ between two of them.
abbrev pub IsInGroup : Rule → Poll → ℕ → ℕ → Type 0
IsInGroup rule poll seats l = (a : List ℕ) × (b : List ℕ) × IsAllotmentByVotes rule poll seats a ×
    IsAllotmentByVotes rule poll seats b × (slice_index a l ≢ slice_index b l)

-- The least that list l holds in any of them.
abbrev pub IsLeast : Rule → Poll → ℕ → ℕ → ℕ → Type 0
IsLeast rule poll seats l least =
    ((a : List ℕ) × IsAllotmentByVotes rule poll seats a × (slice_index a l ≡ least)) ×
    ((a : List ℕ) → IsAllotmentByVotes rule poll seats a → least ≤ slice_index a l)

-- The lot that is needed: its group, as a mark for each list, and the seats in question, which are
-- what the group holds together less the least that each of its lists holds.
pub record IsNeed (rule : Rule) (poll : Poll) (seats : ℕ) (group : List Bool)
    (in_question : ℕ) : Type 0 where
  pub needed : IsLotNeeded rule poll seats
  pub group_is : (l : ℕ) → (slice_index_or group l false ≡ true) ↔ IsInGroup rule poll seats l
  pub in_question_is : (least : List ℕ) ×
      ((l : ℕ) → IsInGroup rule poll seats l → IsLeast rule poll seats l (slice_index least l)) ×
      ((a : List ℕ) → IsAllotmentByVotes rule poll seats a →
      sum_marked group a ≡ sum_marked group least + in_question)

-- The lot is the one to be taken: none where the votes decide, and else an order of the group.
abbrev pub IsLotTaken : Rule → Poll → ℕ → List ℕ → Type 0
IsLotTaken rule poll seats lot =
    (IsDecidedByVotes rule poll seats × (lot ≡ [])) ⊎
    ((group : List Bool) × (in_question : ℕ) × IsNeed rule poll seats group in_question ×
    IsOrderOf group lot)

-- A lot is given where the votes decide, or one that is not an order of the group.
abbrev pub IsLotWrong : Rule → Poll → ℕ → List ℕ → Type 0
IsLotWrong rule poll seats lot =
    (IsDecidedByVotes rule poll seats × (lot ≢ [])) ⊎
    ((group : List Bool) × (in_question : ℕ) × IsNeed rule poll seats group in_question ×
    (lot ≢ []) × ¬ IsOrderOf group lot)

-- The seats are the allotment, under the lot that is to be taken.
abbrev pub IsAllotmentUnderLot : Rule → Poll → List ℕ → ℕ → List ℕ → Type 0
IsAllotmentUnderLot rule poll lot seats a =
    HasEligible poll × IsLotTaken rule poll seats lot × IsAllotment rule poll lot seats a
