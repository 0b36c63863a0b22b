-- What a polling station counts.
use Rattle.std.specs.Prelude.{◌+◌, ◌==◌, ◌&&◌, ℕ, Bool, List, length, sum, nat_eq, nat_le}
use Rattle.std.specs.List.{list_all}
use Rattle.std.specs.Ordering.{on, eq_of_both}
use Rattle.std.specs.Cmp.Lexicographic.{pointwise}

-- the votes for each list, in the setup's order of lists, the blank votes and the spoiled ones
pub record VoteCounts : Type 0 where
  pub votes : List ℕ
  pub blank : ℕ
  pub spoiled : ℕ

-- the greatest number that a return may hold
abbrev pub most_of_one_number : ℕ
most_of_one_number = 1000000

abbrev pub is_number : ℕ → Bool
is_number n = nat_le n most_of_one_number

-- one number for each list, and none above the greatest
abbrev pub are_counts : ℕ → VoteCounts → Bool
are_counts lists c =
    (length c.votes == lists) && list_all is_number c.votes && is_number c.blank
    && is_number c.spoiled

-- every vote that was cast: a blank and a spoiled one count too
abbrev pub all_votes : VoteCounts → ℕ
all_votes c = sum c.votes + c.blank + c.spoiled

-- the same counts
abbrev pub same_counts : VoteCounts → VoteCounts → Bool
same_counts =
    eq_of_both (on (λ c. c.votes) (pointwise nat_eq))
    (eq_of_both (on (λ c. c.blank) nat_eq) (on (λ c. c.spoiled) nat_eq))
