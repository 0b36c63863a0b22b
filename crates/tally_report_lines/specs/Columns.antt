-- What the texts of the reports are made of. A text is lines, a line is columns with a line end
-- after them, and a column is a value at the left or at the right of this many places. Names come
-- last on a line, in no column, and are never cut.
use Rattle.std.specs.Prelude.{ℕ, ◌+◌, ◌-◌, ◌++◌, List, [], ◌∷◌, length, replicate, codes}
use Rattle.std.specs.Fmt.{decimal}
use Rattle.tally_setup.specs.Constituency.{Constituency, ListEntry}

-- this many spaces
abbrev pub spaces : ℕ → List ℕ
spaces n = replicate n 32

-- A value at the left of a column, and one at the right. A value wider than its column is printed
-- whole, and the line grows.
abbrev pub left_cell : ℕ → List ℕ → List ℕ
left_cell width value = value ++ spaces (width - length value)

abbrev pub right_cell : ℕ → List ℕ → List ℕ
right_cell width value = spaces (width - length value) ++ value

-- the places of the column of codes
abbrev pub code_width : ℕ
code_width = 16

-- a number at the right of a column
abbrev pub number : ℕ → ℕ → List ℕ
number width n = right_cell width (decimal n)

abbrev pub line_end : List ℕ
line_end = codes "\n"

-- the first line of a report of a constituency: the report's word, the code and the name
abbrev pub heading : List ℕ → Constituency → List ℕ
heading report con = report ++ codes " " ++ con.code ++ codes " " ++ con.name ++ line_end

-- a line for each entry, in order, made of its number and the entry; the first has this number
abbrev pub lines_from : {T : Type 0} → (ℕ → T → List ℕ) → ℕ → List T → List ℕ
lines_from line n [] = []
lines_from line n (entry ∷ entries) = line n entry ++ lines_from line (n + 1) entries

-- a line for each list of a constituency, in the order of the setup, made of its place, from 0, and
-- the list
abbrev pub list_lines : (ℕ → ListEntry → List ℕ) → Constituency → List ℕ
list_lines line con = lines_from line 0 con.lists
