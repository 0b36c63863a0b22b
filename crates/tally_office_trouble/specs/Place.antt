-- The line on standard error that says where a fault of a setup is.
use Rattle.std.specs.Prelude.{ℕ, ◌++◌, List, [], Option, Some, None, codes}
use Rattle.std.specs.Fmt.{decimal}
use Rattle.tally_rules.specs.declared.place.Holder.{Holder}
use Rattle.tally_rules.specs.declared.place.Place.{Place}
use Rattle.tally_rules.specs.declared.place.Place.TheVariants.{Entry, Text}
use Rattle.tally_rules.specs.declared.place.SetupArray.{SetupArray}
use Rattle.tally_rules.specs.declared.place.SetupArray.TheVariants.{Profiles, Constituencies, Lists}
use Rattle.tally_rules.specs.declared.place.SetupArray.TheVariants.{Candidates, Stations}
use Rattle.tally_rules.specs.declared.place.Way.{Way}

-- an entry's number, and its code where it is known
abbrev pub entry_words : ℕ → Option (List ℕ) → List ℕ
entry_words number None = decimal number
entry_words number (Some code) = decimal number ++ (codes " " ++ code)

-- an entry that holds arrays, after the word of its own array
abbrev pub holder_words : List ℕ → Holder → List ℕ
holder_words word holder = word ++ entry_words holder.number (Some holder.code)

-- the way to an array, and its word
abbrev pub array_words : SetupArray → List ℕ
array_words Profiles = codes "profile "
array_words Constituencies = codes "constituency "
array_words (Lists con) = holder_words (codes "constituency ") con ++ codes ", list "
array_words (Candidates con list) =
    holder_words (codes "constituency ") con
    ++ (holder_words (codes ", list ") list ++ codes ", candidate ")
array_words (Stations con) = holder_words (codes "constituency ") con ++ codes ", station "

-- the way to an entry
abbrev pub way_words : Way → List ℕ
way_words way = array_words way.array ++ entry_words way.number way.code

-- the entry that has a code first, and the end of the line
abbrev pub first_words : Option Way → List ℕ
first_words None = codes "\n"
first_words (Some way) = codes "; first at " ++ (way_words way ++ codes "\n")

abbrev pub place_line : Place → List ℕ
place_line (Entry way first) = codes "at " ++ (way_words way ++ first_words first)
place_line (Text line column) =
    codes "at line " ++ (decimal line ++ (codes ", column " ++ (decimal column ++ codes "\n")))

-- the line, where there is a place
abbrev pub place_lines : Option Place → List ℕ
place_lines None = []
place_lines (Some place) = place_line place
