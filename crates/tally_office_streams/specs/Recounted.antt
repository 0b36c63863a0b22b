-- How a recount ends, which reads a setup from a file, then standard input, and writes standard
-- output. What the file gave is what opening it is known to have given.
use Rattle.std.specs.Prelude.{◌≡◌, ◌⊎◌, ℕ, List, Option, None, Some, IfSome, Result, Ok, Err, codes}
use Rattle.tally_import_recount.specs.Recounts.{IsSilent, Recounts}
use Rattle.tally_import_recount.specs.Troubles.{recount_line, recount_status}
use Rattle.tally_import_options.specs.WantedRecount.{Wanted}
use Rattle.tally_import_recount.specs.declared.fault.RecountTrouble.{RecountTrouble}
use Rattle.tally_rules.specs.Reading.{setup_of_text}
use Rattle.tally_setup.specs.Constituency.{Constituency}
use Rattle.tally_setup.specs.Setup.{constituency_with}
use Rattle.tally_office_trouble.specs.SetupFile.{IsTextOf, IsTroubleOfSetupFile}
use Rattle.tally_office_trouble.specs.Reported.{IsReported}
use Rattle.tally_office_trouble.specs.Trouble.{trouble_line, trouble_status}
use Rattle.tally_office_trouble.specs.Written.{Bytes}
use Rattle.tally_office_trouble.specs.declared.trouble.Trouble.{Trouble}
use Rattle.tally_office_trouble.specs.declared.trouble.Trouble.TheVariants.{NoConstituency}
use Rattle.tally_office_streams.specs.Streams.{IsUntouched, Streams}

-- ---- a setup that has no constituency

-- The text that a file gave is a setup, which has no constituency of this code.
pub record HasNoCon (Gives : Option (List ℕ) → Type 0) (code : List ℕ) : Type 0 where
  pub text : List ℕ
  pub setup : List Constituency
  pub gives : IsTextOf Gives text
  pub is : setup_of_text text ≡ Ok setup
  pub none : constituency_with code setup ≡ None

-- Why the constituency of a setup's file was not had: the file cannot be read, or its text is no
-- setup, or the setup has no constituency of this code.
abbrev pub IsTroubleOfCon : (Option (List ℕ) → Type 0) → List ℕ → Trouble → Type 0
IsTroubleOfCon Gives code t =
    IsTroubleOfSetupFile Gives t ⊎ ((t ≡ NoConstituency) × HasNoCon Gives code)

-- The constituency was not had, for this trouble, whose line was written, or a prefix of it.
-- Nothing was read from standard input, and nothing written on standard output.
pub record EndsWithoutCon {R W E : Type 0} (Gives : Option (List ℕ) → Type 0)
    (reported : Bytes E) (code : List ℕ) (old new : Streams R W E) (status : ℕ) : Type 0 where
  pub trouble : Trouble
  pub named : IsTroubleOfCon Gives code trouble
  pub report : IsReported (reported old.errors) (reported new.errors) (trouble_line trouble)
  pub gives : status ≡ trouble_status trouble
  pub untouched : IsUntouched old new

-- ---- returns that are counted again

-- Nothing is reported of a recount that is done. Of one that has a trouble its line is, with its
-- status, or that the program is out of memory: the line takes memory.
abbrev pub IsRecountAnswered : {E : Type 0} → Bytes E → E → E → Result (Unit {0}) RecountTrouble
    → ℕ → Type 0
IsRecountAnswered reported old new (Ok done) status = (new ≡ old) × (status ≡ 0)
IsRecountAnswered reported old new (Err trouble) status =
    (IsReported (reported old) (reported new) (recount_line trouble)
    × (status ≡ recount_status trouble))
    ⊎ (IsReported (reported old) (reported new) (codes "failed: memory\n") × (status ≡ 3))

-- The text that a file gave is a setup with the constituency of this code, whose recount of the
-- bytes that came takes the output from what it held to what it holds. What is reported and
-- answered is that of its outcome. Nothing is said of an input that is not known.
pub record EndsCount {R W E : Type 0} (Gives : Option (List ℕ) → Type 0) (left : Bytes R)
    (held : Bytes W) (reported : Bytes E) (code : List ℕ) (w : Wanted)
    (old new : Streams R W E) (status : ℕ) : Type 0 where
  pub text : List ℕ
  pub setup : List Constituency
  pub con : Constituency
  pub gives : IsTextOf Gives text
  pub is : setup_of_text text ≡ Ok setup
  pub has : constituency_with code setup ≡ Some con
  pub outcome : Result (Unit {0}) RecountTrouble
  pub recounts : IfSome (left old.input) (λ returns.
      Recounts con w returns (held old.output) (held new.output) outcome)
  pub silent : IsSilent (held old.output) (held new.output) outcome
  pub answered : IsRecountAnswered reported old.errors new.errors outcome status

-- ---- either

abbrev pub EndsRecount : {R W E : Type 0} → (Option (List ℕ) → Type 0) → Bytes R → Bytes W
    → Bytes E → List ℕ → Wanted → Streams R W E → Streams R W E → ℕ → Type 0
EndsRecount Gives left held reported code w old new status =
    EndsWithoutCon Gives reported code old new status
    ⊎ EndsCount Gives left held reported code w old new status
