-- The country: how far its constituencies have come, and the seats and votes of each list over all
-- constituencies. A code is that of one party throughout.
--
--     COUNTRY
--     constituencies 2 certified 1
--     stations 2 closed 2
--     A                     1           100 Alpha
--     B                     2           130 Beta
--     C                     0            10 Gamma
--     total                 3           240
--     seats 5 majority 3
use Rattle.std.specs.Prelude.{ℕ, ◌+◌, ◌/◌, ◌++◌, not, List, [], ◌∷◌, length, sum, codes}
use Rattle.std.specs.Prelude.{count_by, sum_by, filter, if◌then◌else◌}
use Rattle.std.specs.Fmt.{decimal}
use Rattle.std.specs.List.{flat_map}
use Rattle.std.specs.Str.{bytes_eq}
use Rattle.tally_setup.specs.Constituency.{Constituency, ListEntry}
use Rattle.tally_returns.specs.View.{View}
use Rattle.tally_report_lines.specs.Columns.{code_width, left_cell, line_end, number}

-- the first list of each code, in order
abbrev pub firsts : List ListEntry → List ListEntry
firsts [] = []
firsts (list ∷ lists) =
    list ∷ filter (λ (other : ListEntry). not (bytes_eq other.code list.code)) (firsts lists)

-- the numbers of the lists of this code, together: a constituency has at most one such list
abbrev pub sum_of_code : List ℕ → List ListEntry → List ℕ → ℕ
sum_of_code code [] numbers = 0
sum_of_code code (list ∷ lists) [] = 0
sum_of_code code (list ∷ lists) (n ∷ numbers) =
    (if bytes_eq list.code code then n else 0) + sum_of_code code lists numbers

-- the seats of each list by the certificate, if there is one
abbrev pub certified_seats : View → List ℕ
certified_seats view = if view.certified then view.seats else []

-- the seats of a certificate, and the closed votes, of a list in a constituency
abbrev pub seats_in : List ℕ → Constituency → View → ℕ
seats_in code con view = sum_of_code code con.lists (certified_seats view)

abbrev pub votes_in : List ℕ → Constituency → View → ℕ
votes_in code con view = sum_of_code code con.lists view.votes

-- a number of each constituency, by its view, together
abbrev pub sum_over : (Constituency → View → ℕ) → List Constituency → List View → ℕ
sum_over number_in [] views = 0
sum_over number_in (con ∷ cons) [] = 0
sum_over number_in (con ∷ cons) (view ∷ views) =
    number_in con view + sum_over number_in cons views

-- every list of the setup, in order
abbrev pub all_lists : List Constituency → List ListEntry
all_lists cons = flat_map (λ (con : Constituency). con.lists) cons

abbrev pub numbers_line : List ℕ → ℕ → ℕ → List ℕ
numbers_line name seats votes =
    left_cell code_width name ++ number 7 seats ++ number 14 votes

abbrev pub list_line : ListEntry → ℕ → ℕ → List ℕ
list_line list seats votes =
    numbers_line list.code seats votes ++ codes " " ++ list.name ++ line_end

abbrev pub country_line : List Constituency → List View → ListEntry → List ℕ
country_line cons views list =
    list_line list (sum_over (seats_in list.code) cons views)
    (sum_over (votes_in list.code) cons views)

-- two numbers, each after its name
abbrev pub pair_line : List ℕ → ℕ → List ℕ → ℕ → List ℕ
pair_line name n other m =
    name ++ codes " " ++ decimal n ++ codes " " ++ other ++ codes " " ++ decimal m ++ line_end

-- The text of all constituencies, each with its view at the same place. The least number above half
-- of the seats is a majority.
abbrev pub country_text : List Constituency → List View → List ℕ
country_text cons views =
    let seats = sum_by (λ (con : Constituency). con.seats) cons in
    codes "COUNTRY\n"
    ++ pair_line (codes "constituencies") (length cons)
    (codes "certified") (count_by (λ (view : View). view.certified) views)
    ++ pair_line (codes "stations") (sum_by (λ (view : View). view.stations) views)
    (codes "closed") (sum_by (λ (view : View). view.closed) views)
    ++ flat_map (country_line cons views) (firsts (all_lists cons))
    ++ numbers_line (codes "total") (sum_by (λ (view : View). sum (certified_seats view)) views)
    (sum_by (λ (view : View). sum view.votes) views) ++ line_end
    ++ pair_line (codes "seats") seats (codes "majority") (seats / 2 + 1)
