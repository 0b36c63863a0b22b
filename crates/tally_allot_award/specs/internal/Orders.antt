-- The lots that may be the one to be taken, before it is known whether one is needed. No promise to
-- a caller speaks of them.
use Rattle.std.specs.Prelude.{ℕ, ◌≡◌, ◌⊎◌, List, [], Bool}
use Rattle.tally_law.specs.Lot.{IsOrderOf}
use Rattle.tally_law.specs.Poll.{Poll, IsEligible}
use Rattle.tally_allot_award.specs.internal.Terms.{IsClassOf}

-- The lot names all the eligible lists of one number of votes, each once, and no other.
abbrev pub IsOrderOfEquals : Poll → List ℕ → Type 0
IsOrderOfEquals poll lot =
    (l : ℕ) × (group : List Bool) × IsEligible poll l × IsClassOf poll l group × IsOrderOf group lot

-- .. or there is none.
abbrev pub MayBeTaken : Poll → List ℕ → Type 0
MayBeTaken poll lot = (lot ≡ []) ⊎ IsOrderOfEquals poll lot
