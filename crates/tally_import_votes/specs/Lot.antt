-- Words of a command line that commas part, and the lot that they name: codes of lists.
use Rattle.std.specs.Prelude.{◌+◌, ◌++◌, ◌==◌, if◌then◌else◌, ℕ, List, [], ◌∷◌, map, Option, Some}
use Rattle.std.specs.Prelude.{None, Vec}
use Rattle.std.specs.declared.alloc.Global.{Global}
use Rattle.tally_import.specs.Header.{same_text}

-- the words of a text that commas part, where this part of the first one came before
abbrev pub words_of : List ℕ → List ℕ → List (List ℕ)
words_of word [] = word ∷ []
words_of word (c ∷ text) =
    if c == 44 then word ∷ words_of [] text else words_of (word ++ c ∷ []) text

-- the words of a text that was given, and none without a text
abbrev pub words_given : Option (List ℕ) → List (List ℕ)
words_given None = []
words_given (Some text) = words_of [] text

-- the bytes of words
abbrev pub bytes_of : List (Vec ℕ Global) → List (List ℕ)
bytes_of words = map (λ word. word.items) words

-- the place of the list of a code, where the first one has this place, and 0 where none has it
abbrev pub place_from : ℕ → List (List ℕ) → List ℕ → ℕ
place_from place [] code = 0
place_from place (list ∷ lists) code =
    if same_text list code then place else place_from (place + 1) lists code

-- counted from 1
abbrev pub place_named : List (List ℕ) → List ℕ → ℕ
place_named lists code = place_from 1 lists code

-- The places of the lists that are named, in their order. A word that is the code of no list has
-- the place 0, and so is in no lot that is to be taken.
abbrev pub lot_places : List (List ℕ) → Option (List ℕ) → List ℕ
lot_places lists lot = map (place_named lists) (words_given lot)
