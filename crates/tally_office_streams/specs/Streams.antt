-- The streams of the program, and what a command leaves on standard error.
use Rattle.std.specs.Prelude.{◌≡◌, ℕ, Result, Ok, Err, codes}
use Rattle.tally_office_trouble.specs.Reported.{IsReported}
use Rattle.tally_office_trouble.specs.Trouble.{trouble_line, trouble_status}
use Rattle.tally_office_trouble.specs.Written.{Bytes}
use Rattle.tally_office_trouble.specs.declared.trouble.Trouble.{Trouble}

-- The input, the output and the standard error of the program.
pub record Streams (R W E : Type 0) : Type 0 where
  pub input : R
  pub output : W
  pub errors : E

abbrev pub streams : {R W E : Type 0} → R → W → E → Streams R W E
streams input output errors = record { input = input; output = output; errors = errors }

-- Nothing is reported where it is done, and the line of its trouble where it has one.
abbrev pub IsOutcomeReported : {E : Type 0} → Bytes E → E → E → Result (Unit {0}) Trouble → Type 0
IsOutcomeReported reported old new (Ok done) = new ≡ old
IsOutcomeReported reported old new (Err trouble) =
    IsReported (reported old) (reported new) (trouble_line trouble)

abbrev pub command_status : Result (Unit {0}) Trouble → ℕ
command_status (Ok done) = 0
command_status (Err trouble) = trouble_status trouble

-- neither input nor output was touched
pub record IsUntouched {R W E : Type 0} (old new : Streams R W E) : Type 0 where
  pub input : new.input ≡ old.input
  pub output : new.output ≡ old.output

-- it was out of memory, and wrote the line that says so, or a prefix of it
pub record IsOutOfMemory {R W E : Type 0} (reported : Bytes E)
    (old new : Streams R W E) (status : ℕ) : Type 0 where
  pub report : IsReported (reported old.errors) (reported new.errors) (codes "failed: memory\n")
  pub gives : status ≡ 3

-- it was out of memory before it began
abbrev pub HasNotBegun : {R W E : Type 0} → Bytes E → Streams R W E → Streams R W E → ℕ → Type 0
HasNotBegun reported old new status =
    IsUntouched old new × IsOutOfMemory reported old new status
