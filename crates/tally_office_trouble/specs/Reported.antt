-- What is written on standard error.
use Rattle.std.specs.Prelude.{ℕ, List, Option, take}
use Rattle.std.specs.Io.KnownBytes.{Appends}

-- Words were written, or a prefix of them. That it is a prefix only where a write failed is said of
-- the call that writes them (`write_watched`), and not here.
abbrev pub IsReported : Option (List ℕ) → Option (List ℕ) → List ℕ → Type 0
IsReported held holds words = (n : ℕ) × Appends held holds (take n words)
