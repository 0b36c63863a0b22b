-- How the codes of a group are written one after the other.
use Rattle.std.specs.Prelude.{ℕ, Bool, true, false, List, [], ◌∷◌}
use Rattle.tally_setup.specs.Constituency.{ListEntry}
use Rattle.tally_desk_answer.specs.Outcome.{quoted_code, next_code}

-- whether any list has come
abbrev pub is_begun : List ListEntry → Bool
is_begun [] = false
is_begun (list ∷ lists) = true

-- what is written of a list, after others or not, that is marked or not
abbrev pub code_in_group : Bool → Bool → ListEntry → List ℕ
code_in_group others false list = []
code_in_group false true list = quoted_code list
code_in_group true true list = next_code list
