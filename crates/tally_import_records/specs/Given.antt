-- Which records of an input were given, and what is left of it.
use Rattle.std.specs.Prelude.{◌≡◌, ◌≤◌, ◌++◌, ◌∷◌, ℕ, Bool, true, List, [], drop, length, Option}
use Rattle.std.specs.Prelude.{Some, None, IfSome, Result, IfOk, ⊤}
use Rattle.std.specs.Io.KnownBytes.{Consumes}
use Rattle.tally_import_records.specs.Input.{AreAll, Gave, complete_records, size_limit}
use Rattle.tally_import_records.specs.RecordsValue.{Records}
use Rattle.tally_import_records.specs.Watch.{flag_after_end}
use Rattle.tally_import_records.specs.declared.end.Stop.{Stop}
use Rattle.tally_import_records.specs.declared.end.End.{End}
use Rattle.tally_import_records.specs.declared.separator.Sep.{Sep}

-- These bytes came of a text, as many as were counted; where it ended, they are what it gave.
abbrev pub Came : Option (List ℕ) → Option (List ℕ) → List ℕ → ℕ → Option End → Type 0
Came text left bytes count None =
    Consumes text left bytes × (count ≡ length bytes) × (count ≤ size_limit)
Came text left bytes count (Some end) = IfSome text (λ t. Gave t left bytes end.stop)

-- what may still come
abbrev pub MayCome : Option End → List ℕ → Option Stop → Type 0
MayCome None more stop = ⊤
MayCome (Some end) more stop = (more ≡ []) × (stop ≡ end.stop)

-- the records still to be given, where these bytes come and then the end, or what stops the input
abbrev pub records_to_come : Records → List ℕ → Option Stop → List (List (List ℕ))
records_to_come r more stop = drop r.given (complete_records r.sep (r.bytes ++ more) stop)

-- These are the records of this text that were given so far.
abbrev pub HasGiven : Option (List ℕ) → Option (List ℕ) → List (List (List ℕ)) → Records → Type 0
HasGiven text left given r = (bytes : List ℕ) × Came text left bytes r.taken r.end
    × ((more : List ℕ) (stop : Option Stop) → MayCome r.end more stop
    → complete_records r.sep (bytes ++ more) stop ≡ given ++ records_to_come r more stop)

-- One more record was given: with it after them, the records of a text that were given before are
-- those given now. `old_left` and `left` are what the reader had left before and after.
abbrev pub GivesRecord : Option (List ℕ) → Option (List ℕ) → List (List ℕ) → Records → Records
    → Type 0
GivesRecord old_left left fields old new = (text : Option (List ℕ)) (given : List (List (List ℕ)))
    → HasGiven text old_left given old → HasGiven text left (given ++ fields ∷ []) new

-- Where the input ended, or was stopped so: the records of a text that were given before are all
-- that are complete in what came of it.
abbrev pub GaveAllRecords : Option (List ℕ) → Option (List ℕ) → Records → Option Stop → Type 0
GaveAllRecords old_left left old stop = (text : Option (List ℕ)) (given : List (List (List ℕ)))
    → HasGiven text old_left given old → AreAll old.sep text left given stop

-- What holds where a call did not come to the end of an input.
abbrev pub IfNotEnded : {E : Type 0} → Result (Option End) E → Type 0 → Type 0
IfNotEnded result Holds = IfOk result (λ end. end ≡ None → Holds)

-- What holds where it came to this end.
abbrev pub IfEnded : {E : Type 0} → Result (Option End) E → (End → Type 0) → Type 0
IfEnded result Holds = IfOk result (λ end. (e : End) → end ≡ Some e → Holds e)

-- the separator of two fields
abbrev pub sep_of : Records → Sep
sep_of r = r.sep

-- The watch notes a failed read where one stopped the input, and else what it noted before it was
-- begun.
abbrev pub WatchAgrees : Bool → Records → Bool → Type 0
WatchAgrees before r failed = failed ≡ flag_after_end r.end before

-- more records can be asked for
abbrev pub IsReadingOn : Records → Type 0
IsReadingOn r = r.at_work ≡ true
