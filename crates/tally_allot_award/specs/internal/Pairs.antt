-- Pairs as keys have them, in which a place is asked for with the seat. No promise to a caller
-- speaks of them.
use Rattle.std.specs.Prelude.{ℕ, ◌+◌, ◌-◌, ◌%◌, ◌==◌, ◌&&◌, Bool, false, List, length, max}
use Rattle.std.specs.Prelude.{if◌then◌else◌}
use Rattle.tally_frac.specs.Limits.{most_lists}
use Rattle.tally_frac.specs.Rank.{Pair}
use Rattle.tally_setup.specs.declared.profile.LotRule.{LotRule}
use Rattle.tally_setup.specs.declared.profile.LotRule.TheVariants.{Fixed, Alternating}
use Rattle.tally_law.specs.Lot.{is_named, place_of}
use Rattle.tally_law.specs.Poll.{Poll, votes_of}

-- whether list l's place is counted from the last for even seats: lots alternate, and this one
-- names the list
abbrev pub turns : LotRule → List ℕ → ℕ → Bool
turns Fixed lot l = false
turns Alternating lot l = is_named lot l

-- the last place: 60, or more under a lot that is longer and so not the one to be taken
abbrev pub last_place : List ℕ → ℕ
last_place lot = max most_lists (length lot)

-- list l's place for its k-th seat: counted from the last where it turns and k is even, so 61 less
-- the place
abbrev pub place_at : LotRule → List ℕ → ℕ → ℕ → ℕ
place_at lot_rule lot l k =
    if turns lot_rule lot l && (k % 2 == 0)
    then last_place lot + 1 - place_of lot l
    else place_of lot l

-- the pair of list l and its k-th seat
abbrev pub pair_of : (ℕ → ℕ) → LotRule → Poll → List ℕ → ℕ → ℕ → Pair
pair_of nth lot_rule poll lot l k =
    record { votes = votes_of poll l; divisor = nth k; place = place_at lot_rule lot l k }
