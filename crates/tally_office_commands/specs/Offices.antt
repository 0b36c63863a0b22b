-- What opening an office, or a port to serve it on, can come to, and what closing an office can.
-- What is known of offices and of the files that are read.
use Rattle.std.specs.Prelude.{ℕ, Bool, List, Option, Result, Ok, Err}
use Rattle.tally_keeper.specs.declared.keeper.Keeper.{Ghosts}
use Rattle.tally_office_trouble.specs.declared.trouble.Trouble.{Trouble}

-- the office at a path, and a port to listen on
pub data Resource : Type 0 where
  AtPath : List ℕ → Resource
  AtPort : ℕ → Resource

-- what opening one came to: it is open, or it is not, for this trouble
abbrev pub OpeningOutcome : Type 1
OpeningOutcome = Result (Unit {0}) Trouble → Type 0

abbrev pub opening_of : {Opened : Type 0} → Result Opened Trouble → Result (Unit {0}) Trouble
opening_of (Ok opened) = Ok tt
opening_of (Err t) = Err t

-- what closing an office came to: whether all of it is there
abbrev pub ClosingOutcome : Type 1
ClosingOutcome = Bool → Type 0

-- What is known of the offices on which a command works, each of them a keeper while it is open,
-- and of the files that it reads.
pub record Known (K : Type 0) : Type 1 where
  -- what a keeper says of itself
  pub keeper : Ghosts K
  -- what opening the office at a path, or a port, came to
  pub Opens : Resource → OpeningOutcome
  -- opening the office at a path gave this one
  pub Finds : List ℕ → K → Type 0
  -- an office was made at a path, of the text of a setup, and it is this one
  pub Makes : List ℕ → List ℕ → K → Type 0
  -- what closing this office at a path came to
  pub Closes : List ℕ → K → ClosingOutcome
  -- opening the file at a path gave one of these bytes, where they are known
  pub Gives : List ℕ → Option (List ℕ) → Type 0

abbrev pub known : {K : Type 0} → Ghosts K → (Resource → OpeningOutcome) → (List ℕ → K → Type 0)
    → (List ℕ → List ℕ → K → Type 0) → (List ℕ → K → ClosingOutcome)
    → (List ℕ → Option (List ℕ) → Type 0) → Known K
known keeper Opens Finds Makes Closes Gives = record {
  keeper = keeper;
  Opens = Opens;
  Finds = Finds;
  Makes = Makes;
  Closes = Closes;
  Gives = Gives;
}
