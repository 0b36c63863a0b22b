-- What a reader gives, and the records in it.
use Rattle.std.specs.Prelude.{◌≡◌, ◌≤◌, ◌<◌, ◌++◌, if◌then◌else◌, nat_lt, ℕ, List, [], ◌∷◌, take}
use Rattle.std.specs.Prelude.{length, Option, Some, None, IfSome}
use Rattle.std.specs.Io.KnownBytes.{Consumes}
use Rattle.csv.specs.Reading.{records, strip_bom}
use Rattle.tally_import_records.specs.Separator.{separator, config}
use Rattle.tally_import_records.specs.declared.end.Stop.{Stop}
use Rattle.tally_import_records.specs.declared.end.Stop.TheVariants.{TooLong, Read}
use Rattle.tally_import_records.specs.declared.separator.Sep.{Sep}

-- the most bytes that an input may have
abbrev pub size_limit : ℕ
size_limit = 16777216

-- These bytes came of a text, until it ended or was stopped: TooLong, where the text goes on past
-- the limit, or Read, where a read failed and `left` is what it left.
abbrev pub GaveWithin : ℕ → List ℕ → Option (List ℕ) → List ℕ → Option Stop → Type 0
GaveWithin limit text left bytes None = (bytes ≡ text) × (length text ≤ limit)
GaveWithin limit text left bytes (Some TooLong) =
    (bytes ≡ take limit text) × (limit < length text)
GaveWithin limit text left bytes (Some Read) =
    Consumes (Some text) left bytes × (length bytes ≤ limit)

-- the same of an input of any size that one may have
abbrev pub Gave : List ℕ → Option (List ℕ) → List ℕ → Option Stop → Type 0
Gave = GaveWithin size_limit

-- all but the last
abbrev pub without_last : {X : Type 0} → List X → List X
without_last [] = []
without_last (x ∷ []) = []
without_last (x ∷ y ∷ rest) = x ∷ without_last (y ∷ rest)

-- The records that were read to their end. The last one of a text that was stopped is not known to
-- have ended: with one more field begun after the bytes, it is the one that this field belongs to.
abbrev pub complete_records : Sep → List ℕ → Option Stop → List (List (List ℕ))
complete_records sep bytes None = records (config sep) (strip_bom bytes)
complete_records sep bytes (Some stop) =
    without_last (records (config sep) (strip_bom (bytes ++ separator sep ∷ [])))

-- These are the complete records of what came of a text.
abbrev pub AreAll : Sep → Option (List ℕ) → Option (List ℕ) → List (List (List ℕ)) → Option Stop
    → Type 0
AreAll sep text left given stop =
    IfSome text
    (λ t. (bytes : List ℕ) × Gave t left bytes stop × (complete_records sep bytes stop ≡ given))

-- a list of records begins with another
abbrev pub BeginsWith : List (List (List ℕ)) → List (List (List ℕ)) → Type 0
BeginsWith all front = (behind : List (List (List ℕ))) × (all ≡ front ++ behind)

-- a text that goes on past the limit is stopped there
abbrev pub text_stop : List ℕ → Option Stop
text_stop text = if nat_lt size_limit (length text) then Some TooLong else None

-- the complete records of a text that can be read
abbrev pub text_records : Sep → List ℕ → List (List (List ℕ))
text_records sep text = complete_records sep (take size_limit text) (text_stop text)
