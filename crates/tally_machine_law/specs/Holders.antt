-- Who holds a list's seats: its candidates in their order (LOREG article 163.1 e)), and in place of
-- one who is gone the next of them (article 164.1).
use Rattle.std.specs.Prelude.{ℕ, Bool, not, nat_eq, List, take, Option}
use Rattle.std.specs.List.{list_any, find, filter, range_with_len}

abbrev pub is_among : ℕ → List ℕ → Bool
is_among place places = list_any (nat_eq place) places

-- the places of the candidates, from 1, who are not gone
abbrev pub remaining_candidates : ℕ → List ℕ → List ℕ
remaining_candidates candidates gone =
    filter (λ place. not (is_among place gone)) (range_with_len 1 candidates)

-- as many of them as there are seats; where there are fewer, seats stay empty
abbrev pub holders : ℕ → ℕ → List ℕ → List ℕ
holders candidates seats gone = take seats (remaining_candidates candidates gone)

-- the one who holds a seat now and held none before
abbrev pub newcomer : List ℕ → List ℕ → Option ℕ
newcomer before now = find (λ place. not (is_among place before)) now
