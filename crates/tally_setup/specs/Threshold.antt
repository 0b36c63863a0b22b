-- Which lists take part in the allotment: LOREG article 163.1 a), with article 96.5 for the valid
-- votes.
use Rattle.std.specs.Prelude.{ℕ, ◌+◌, ◌*◌, ◌≤◌, Bool, ◌&&◌, nat_lt, nat_le, List, map, sum}
use Rattle.tally_frac.specs.Limits.{most_votes, whole_base}
use Rattle.tally_setup.specs.declared.profile.Base.{Base}
use Rattle.tally_setup.specs.declared.profile.Base.TheVariants.{Valid, Lists}
use Rattle.tally_setup.specs.declared.profile.Profile.{Profile}

-- the votes that the threshold is a part of: a blank vote is a valid vote (96.5), and a spoiled one
-- is not
abbrev pub base_of : Base → List ℕ → ℕ → ℕ
base_of Valid votes blank = sum votes + blank
base_of Lists votes blank = sum votes

-- a list of this many votes: it has one, and its votes are at least this many ten-thousandths of
-- the base
abbrev pub is_eligible : ℕ → ℕ → ℕ → Bool
is_eligible threshold base votes = nat_lt 0 votes && nat_le (threshold * base) (votes * whole_base)

-- of each list of a constituency, from the votes of each and the blank votes, whether it is
-- eligible
abbrev pub eligible_lists : Profile → List ℕ → ℕ → List Bool
eligible_lists profile votes blank =
    map (is_eligible profile.threshold (base_of profile.base votes blank)) votes

-- the most votes that a constituency has, those of its lists and the blank ones together
abbrev pub IsWithinVotes : List ℕ → ℕ → Type 0
IsWithinVotes votes blank = sum votes + blank ≤ most_votes
