-- What becomes of a command line that needs no office, or cannot be carried out.
use Rattle.std.specs.Prelude.{◌≡◌, ◌⊎◌, ℕ, List, Option, Some, None, codes}
use Rattle.tally_office_trouble.specs.Reported.{IsReported}
use Rattle.tally_office_trouble.specs.Written.{Bytes}
use Rattle.tally_office_line.specs.Line.{AllotSeen, CheckSeen, LacksCon, LineSeen, RecountSeen}
use Rattle.tally_office_line.specs.Line.{line_of}
use Rattle.tally_office_line.specs.declared.line.LineFault.{LineFault}
use Rattle.tally_office_line.specs.declared.line.LineFault.TheVariants.{Usage, NoCon, Memory}
use Rattle.tally_office_streams.specs.Ends.{EndsAllot, EndsCheck}
use Rattle.tally_office_streams.specs.Recounted.{EndsRecount}
use Rattle.tally_office_streams.specs.Streams.{HasNotBegun, IsOutOfMemory, IsUntouched, Streams}

-- ---- command lines that are not carried out

-- the exit status where there is no line: 2 for a wrong command line and one that asks for help, 3
-- where it is out of memory
abbrev pub fault_status : LineFault → ℕ
fault_status (Usage error) = 2
fault_status NoCon = 2
fault_status Memory = 3

-- The constituency that a report needs is not named, and it wrote the line that says so, or a
-- prefix of it.
pub record IsWithoutCon {R W E : Type 0} (reported : Bytes E)
    (old new : Streams R W E) (status : ℕ) : Type 0 where
  pub report : IsReported (reported old.errors) (reported new.errors) (codes "missing --con\n")
  pub gives : status ≡ 2

-- The words ask for nothing that can be done: status 2, or 3 where the program is out of memory.
-- Where a constituency is missing, its line is written. Nothing is said of other words on standard
-- error.
pub record RefusesLine {R W E : Type 0} (reported : Bytes E) (words : List (List ℕ))
    (old new : Streams R W E) (status : ℕ) : Type 0 where
  pub untouched : IsUntouched old new
  pub refused : (status ≡ 2) ⊎ IsOutOfMemory reported old new status
  pub no_con : LacksCon words → IsWithoutCon reported old new status
      ⊎ IsOutOfMemory reported old new status

-- the line where the arguments of the program are not all text
abbrev pub not_text_line : List ℕ
not_text_line = codes "error: the arguments are not all UTF-8 text\n"

-- ---- a program that has no office

-- the line where a command needs an office
abbrev pub no_office_line : List ℕ
no_office_line = codes "error: this program has check, allot and recount alone\n"

-- The command needs an office, and it wrote the line that says so, or a prefix of it.
pub record IsWithoutOffice {R W E : Type 0} (reported : Bytes E)
    (old new : Streams R W E) (status : ℕ) : Type 0 where
  pub untouched : IsUntouched old new
  pub report : IsReported (reported old.errors) (reported new.errors) no_office_line
  pub gives : status ≡ 2

-- What becomes there of what the words ask for, where opening the file at a path gave one of such
-- bytes. It may be out of memory before it begins.
abbrev pub PerformsStreamsLine : {R W E : Type 0} → (List ℕ → Option (List ℕ) → Type 0)
    → Bytes R → Bytes W → Bytes E → List (List ℕ) → Option LineSeen
    → Streams R W E → Streams R W E → ℕ → Type 0
PerformsStreamsLine Gives left held reported words (Some (CheckSeen sep rows)) old new status =
    EndsCheck left held reported rows sep old new status ⊎ HasNotBegun reported old new status
PerformsStreamsLine Gives left held reported words (Some (AllotSeen w)) old new status =
    EndsAllot left held reported w old new status ⊎ HasNotBegun reported old new status
PerformsStreamsLine Gives left held reported words (Some (RecountSeen setup con w)) old new status =
    EndsRecount (Gives setup) left held reported con w old new status
    ⊎ HasNotBegun reported old new status
PerformsStreamsLine Gives left held reported words (Some other) old new status =
    IsWithoutOffice reported old new status ⊎ HasNotBegun reported old new status
PerformsStreamsLine Gives left held reported words None old new status =
    RefusesLine reported words old new status

-- What such a program does for these words, its name first.
abbrev pub PerformsStreams : {R W E : Type 0} → (List ℕ → Option (List ℕ) → Type 0)
    → Bytes R → Bytes W → Bytes E → List (List ℕ) → Streams R W E → Streams R W E → ℕ → Type 0
PerformsStreams Gives left held reported words =
    PerformsStreamsLine Gives left held reported words (line_of words)
