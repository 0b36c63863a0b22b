-- What a command over an office leaves on the three streams of the program, and its exit status.
use Rattle.std.specs.Prelude.{◌≡◌, ◌⊎◌, ℕ, List, Result, Ok, Err, IfErr}
use Rattle.tally_office_commands.specs.Offices.{OpeningOutcome}
use Rattle.tally_office_program.specs.Served.{IsServedText, listening_line}
use Rattle.tally_office_trouble.specs.Reported.{IsReported}
use Rattle.tally_office_trouble.specs.Trouble.{IsTroubleOfOpening}
use Rattle.tally_office_trouble.specs.declared.trouble.Trouble.{Trouble}
use Rattle.tally_office_trouble.specs.declared.trouble.Trouble.TheVariants.{Memory, Port}
use Rattle.tally_office_trouble.specs.Troubles.{IsTroubleOfEnding, IsTroubleOfServe}
use Rattle.tally_office_trouble.specs.Written.{Bytes, IsWritten}
use Rattle.tally_office_streams.specs.Streams.{IsOutcomeReported, Streams, command_status}

-- ---- how a command ends

-- A command came to an outcome: a text of its kind, or one of its troubles. What is written,
-- reported and answered is that of the outcome, and the input is not read.
pub record EndsCommand {R W E : Type 0} (held : Bytes W) (reported : Bytes E)
    (IsText : List ℕ → Type 0) (IsTrouble : Trouble → Type 0)
    (old new : Streams R W E) (status : ℕ) : Type 0 where
  pub outcome : Result (Unit {0}) Trouble
  pub named : IfErr outcome IsTrouble
  pub written : IsWritten held IsText old.output new.output outcome
  pub errors : IsOutcomeReported reported old.errors new.errors outcome
  pub gives : status ≡ command_status outcome
  pub unread : new.input ≡ old.input

-- ---- how a server ends

-- How far a server came: it does not listen yet, for this trouble; or it listened, and then came to
-- this outcome.
pub data Course : Type 0 where
  NotListening : Trouble → Course
  Listened : Result (Unit {0}) Trouble → Course

-- the outcome of the command
abbrev pub outcome_of : Course → Result (Unit {0}) Trouble
outcome_of (NotListening t) = Err t
outcome_of (Listened outcome) = outcome

-- Why a server whose office is open does not listen: it is out of memory; or it cannot listen on
-- its port, which is what opening the port came to.
abbrev pub IsTroubleOfListening : OpeningOutcome → Trouble → Type 0
IsTroubleOfListening Listens t = (t ≡ Memory) ⊎ ((t ≡ Port) × Listens (Err t))

-- The trouble of a server that does not listen yet is the one for which its office was not opened,
-- or memory, or the one for which its port was not opened once its office was. One that listened
-- has opened its office and its port, and its trouble is of its ending.
abbrev pub IsCourse : OpeningOutcome → OpeningOutcome → Course → Type 0
IsCourse Opens Listens (NotListening t) =
    (IsTroubleOfOpening t × Opens (Err t)) ⊎ (t ≡ Memory)
    ⊎ (Opens (Ok tt) × (t ≡ Port) × Listens (Err t))
IsCourse Opens Listens (Listened outcome) =
    Opens (Ok tt) × Listens (Ok tt) × IfErr outcome IsTroubleOfEnding

-- What a server says before it reports how it ended: where it listens, once it does, or a prefix of
-- it; and nothing where it does not listen yet.
abbrev pub SaysWhere : {E : Type 0} → Bytes E → ℕ → ℕ → E → E → Course → Type 0
SaysWhere reported port count old new (NotListening t) = new ≡ old
SaysWhere reported port count old new (Listened outcome) =
    IsReported (reported old) (reported new) (listening_line port count)

-- A server took a course, and this is its outcome.
pub record TakesCourse {E : Type 0} (Opens Listens : OpeningOutcome) (reported : Bytes E)
    (port count : ℕ) (old new : E)
    (outcome : Result (Unit {0}) Trouble) : Type 0 where
  pub course : Course
  pub is : outcome ≡ outcome_of course
  pub named : IsCourse Opens Listens course
  pub says : SaysWhere reported port count old new course

-- The same as of a command, of a server of this many connections at a port, which says where it
-- listens before it reports how it ended.
pub record EndsServer {R W E : Type 0} (Opens Listens : OpeningOutcome)
    (held : Bytes W) (reported : Bytes E)
    (port count : ℕ) (old new : Streams R W E) (status : ℕ) : Type 0 where
  pub outcome : Result (Unit {0}) Trouble
  pub named : IfErr outcome IsTroubleOfServe
  pub written : IsWritten held (IsServedText count) old.output new.output outcome
  pub said : E
  pub takes : TakesCourse Opens Listens reported port count old.errors said outcome
  pub errors : IsOutcomeReported reported said new.errors outcome
  pub gives : status ≡ command_status outcome
  pub unread : new.input ≡ old.input
