-- What a command over an office has written.
use Rattle.std.specs.Prelude.{◌≡◌, ℕ, List, Option, Result, Ok, Err, take}
use Rattle.std.specs.Io.KnownBytes.{Appends}
use Rattle.tally_office_trouble.specs.declared.trouble.Trouble.{Trouble}
use Rattle.tally_office_trouble.specs.declared.trouble.Trouble.TheVariants.{Write}

-- what is known of the bytes that a stream has to give, or has taken
abbrev pub Bytes : Type 0 → Type 0
Bytes S = S → Option (List ℕ)

-- Where it is done, one text of a kind was written whole; with the trouble `write`, a prefix of
-- one; with any other trouble the output is as it was.
abbrev pub IsWritten : {W : Type 0} → Bytes W → (List ℕ → Type 0) → W → W
    → Result (Unit {0}) Trouble → Type 0
IsWritten held IsText old new (Ok done) =
    (text : List ℕ) × IsText text × Appends (held old) (held new) text
IsWritten held IsText old new (Err Write) =
    (text : List ℕ) × (n : ℕ) × IsText text × Appends (held old) (held new) (take n text)
IsWritten held IsText old new (Err other) = new ≡ old
