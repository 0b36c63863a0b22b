-- What a writer holds after words of a longer text. No public contract speaks of it.
use Rattle.std.specs.Prelude.{◌≡◌, ℕ, List, Option, Result, Ok, Err}
use Rattle.std.specs.Io.KnownBytes.{Appends}
use Rattle.tally_office_trouble.specs.Reported.{IsReported}

-- with Ok all of the words, and otherwise a prefix of them
abbrev pub IsPut : {E : Type 0} → Option (List ℕ) → Option (List ℕ) → List ℕ
    → Result (Unit {0}) E → Type 0
IsPut old new words (Ok done) = Appends old new words
IsPut old new words (Err fault) = IsReported old new words

-- the same after others that were written, and nothing after one that was not
abbrev pub IsPutAfter : {E : Type 0} → Option (List ℕ) → Option (List ℕ) → Result (Unit {0}) E
    → List ℕ → Result (Unit {0}) E → Type 0
IsPutAfter old new (Ok done) words result = IsPut old new words result
IsPutAfter old new (Err fault) words result = (new ≡ old) × (result ≡ Err fault)
