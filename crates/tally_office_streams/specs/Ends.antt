-- How a check and an allotment end, which read standard input and write standard output.
use Rattle.std.specs.Prelude.{◌≡◌, ◌⊎◌, ℕ, Bool, IfSome, Result, Ok, Err, codes}
use Rattle.tally_import_check.specs.Check.{Checks, IsSilent}
use Rattle.tally_import.specs.declared.CheckFault.{CheckFault}
use Rattle.tally_import_records.specs.declared.separator.Sep.{Sep}
use Rattle.tally_import_votes.specs.Allots.{Allots, IsSilent as IsSilentAllot}
use Rattle.tally_import_votes.specs.Troubles.{allot_line, allot_status}
use Rattle.tally_import_options.specs.Wanted.{Wanted}
use Rattle.tally_import_votes.specs.declared.fault.AllotTrouble.{AllotTrouble}
use Rattle.tally_office_trouble.specs.Reported.{IsReported}
use Rattle.tally_office_trouble.specs.Trouble.{check_trouble}
use Rattle.tally_office_trouble.specs.Written.{Bytes}
use Rattle.tally_office_trouble.specs.declared.trouble.Trouble.{Trouble}
use Rattle.tally_office_streams.specs.Streams.{IsOutcomeReported, Streams, command_status}

-- ---- checks

-- a check that has a fault has the trouble of that word
abbrev pub check_outcome : Result (Unit {0}) CheckFault → Result (Unit {0}) Trouble
check_outcome (Ok done) = Ok done
check_outcome (Err fault) = Err (check_trouble fault)

-- One check takes the input from its bytes to the rest, and the output from what it held to what it
-- holds, with the lines of the rows or without. What is reported and answered is that of its
-- outcome. Nothing is said of an input that is not known.
pub record EndsCheck {R W E : Type 0} (left : Bytes R) (held : Bytes W) (reported : Bytes E)
    (lines : Bool) (sep : Sep)
    (old new : Streams R W E) (status : ℕ) : Type 0 where
  pub outcome : Result (Unit {0}) CheckFault
  pub checks : IfSome (left old.input) (λ text.
      Checks lines sep text (left new.input) (held old.output) (held new.output) outcome)
  pub silent : IsSilent (held old.output) (held new.output) outcome
  pub errors : IsOutcomeReported reported old.errors new.errors (check_outcome outcome)
  pub gives : status ≡ command_status (check_outcome outcome)

-- ---- allotments

-- Nothing is reported of an allotment that is done. Of one that has a trouble its line is, with its
-- status, or that the program is out of memory: the line takes memory.
abbrev pub IsAllotAnswered : {E : Type 0} → Bytes E → E → E → Result (Unit {0}) AllotTrouble → ℕ
    → Type 0
IsAllotAnswered reported old new (Ok done) status = (new ≡ old) × (status ≡ 0)
IsAllotAnswered reported old new (Err trouble) status =
    (IsReported (reported old) (reported new) (allot_line trouble)
    × (status ≡ allot_status trouble))
    ⊎ (IsReported (reported old) (reported new) (codes "failed: memory\n") × (status ≡ 3))

-- One allotment takes the input from its bytes to the rest, and the output from what it held to
-- what it holds. What is reported and answered is that of its outcome. Nothing is said of an input
-- that is not known.
pub record EndsAllot {R W E : Type 0} (left : Bytes R) (held : Bytes W) (reported : Bytes E)
    (w : Wanted) (old new : Streams R W E) (status : ℕ) : Type 0 where
  pub outcome : Result (Unit {0}) AllotTrouble
  pub allots : IfSome (left old.input) (λ text.
      Allots w text (left new.input) (held old.output) (held new.output) outcome)
  pub silent : IsSilentAllot (held old.output) (held new.output) outcome
  pub answered : IsAllotAnswered reported old.errors new.errors outcome status
