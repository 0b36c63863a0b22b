-- What is noted of the calls of a stream: whether one failed.
use Rattle.std.specs.Prelude.{◌≡◌, Bool, true, Option, Some, None, ⊤}
use Rattle.tally_import_records.specs.declared.end.Stop.{Stop}
use Rattle.tally_import_records.specs.declared.end.Stop.TheVariants.{TooLong, Read}
use Rattle.tally_import_records.specs.declared.end.End.{End}
use Rattle.tally_import_records.specs.declared.watch.Watch.{Watch}

-- a read, a write or a flush under the watch failed
abbrev pub has_failed : {S : Type 0} → Watch S → Bool
has_failed watch = watch.failed

-- the watch notes just what it noted before
abbrev pub NotesNothing : {S : Type 0} → Watch S → Watch S → Type 0
NotesNothing old new = has_failed new ≡ has_failed old

-- What a watch notes of an input that was stopped so: that a read failed, where one stopped it, and
-- else what it noted before.
abbrev pub flag_after_stop : Option Stop → Bool → Bool
flag_after_stop None before = before
flag_after_stop (Some TooLong) before = before
flag_after_stop (Some Read) before = true

-- What a watch notes of an input that is read as a whole: that a read failed, where one stopped it,
-- and what it noted before, where the input ended of itself. Of one that is too long nothing is
-- said.
abbrev pub NotesStop : Option Stop → Bool → Bool → Type 0
NotesStop None before failed = failed ≡ before
NotesStop (Some TooLong) before failed = ⊤
NotesStop (Some Read) before failed = failed ≡ true

-- the same of how an input ended, where it has
abbrev pub flag_after_end : Option End → Bool → Bool
flag_after_end None before = before
flag_after_end (Some end) before = flag_after_stop end.stop before

-- How an input ended, where it has, is what the watch notes of it besides what it noted before.
abbrev pub NotesEnd : {S : Type 0} → Watch S → Watch S → Option End → Type 0
NotesEnd old new end = has_failed new ≡ flag_after_end end (has_failed old)

-- Where an input is said to have ended, this is what its watch notes.
abbrev pub WatchAgreesAtEnd : Bool → Option End → Bool → Type 0
WatchAgreesAtEnd before None failed = ⊤
WatchAgreesAtEnd before (Some end) failed = failed ≡ flag_after_stop end.stop before
