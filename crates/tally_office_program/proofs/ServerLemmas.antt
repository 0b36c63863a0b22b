-- How a server ends, by what serving and its ending came to.
use Rattle.std.proofs.Common.{◌≡◌, ◌⊎◌, ℕ, List, Result, Ok, Err, IfErr, IfOk, OnOk, OnErr, refl, inl, inr}
use Rattle.tally_office_program.specs.Served.{listening_line}
use Rattle.tally_office_trouble.specs.Reported.{IsReported}
use Rattle.tally_office_trouble.specs.declared.trouble.Trouble.{Trouble}
use Rattle.tally_office_trouble.specs.declared.trouble.Trouble.TheVariants as trouble
use Rattle.tally_office_commands.specs.Offices.{OpeningOutcome}
use Rattle.tally_office_trouble.specs.Troubles.{IsTroubleOfEnding, IsTroubleBeforeServing}
use Rattle.tally_office_trouble.specs.Written.{Bytes}
use Rattle.tally_office_program.specs.Commands.{IsTroubleOfListening, Listened, NotListening, TakesCourse}

-- a trouble of listening is one before serving
pub serving : (Listens : OpeningOutcome) (t : Trouble) → IsTroubleOfListening Listens t → IsTroubleBeforeServing t
serving Listens t (inl memory) = inl memory
serving Listens t (inr port) = inr port.0

-- and so no failed write
pub unlistened : (Listens : OpeningOutcome) (t : Trouble) → IsTroubleOfListening Listens t → t ≡ trouble.Write → ⊥
unlistened Listens t (inl memory) e = cc
unlistened Listens t (inr port) e = port-only t port.0 e
  where
    port-only : (t : Trouble) → t ≡ trouble.Port → t ≡ trouble.Write → ⊥
    port-only t is e = cc

-- the text of a server does not depend on its office
pub whatever : {S : Type 0} (Closed : Type 0) (IsText : List ℕ → Type 0) (bytes : S → List ℕ) (outcome : Result S Trouble) → IfOk outcome (λ text. IsText (bytes text)) → IfOk outcome (λ text. Closed → IsText (bytes text))
whatever Closed IsText bytes (Ok text) is = λ closed. is
whatever Closed IsText bytes (Err t) is = tt

-- the course of a server whose office was opened, by what serving came to, and then its ending
pub takes : {E S : Type 0} (Opens Listens : OpeningOutcome) (reported : Bytes E) (port count : ℕ) (Same : Type 0) (old new : E) (outcome : Result S Trouble) (r : Result (Unit {0}) Trouble)
    → Opens (Ok tt) → OnOk outcome (Listens (Ok tt)) → OnOk outcome (IsReported (reported old) (reported new) (listening_line port count)) → OnErr outcome (new ≡ old) → IfErr outcome (IsTroubleOfListening Listens)
    → OnOk outcome (IfErr r IsTroubleOfEnding) → IfErr outcome (λ t. (r ≡ Err t) × Same) → TakesCourse Opens Listens reported port count old new r
takes Opens Listens reported port count Same old new (Ok text) r opened listens said silent listening ends fails =
    record { course = Listened r; is = refl; named = (opened, listens, ends); says = said }
takes Opens Listens reported port count Same old new (Err t) r opened listens said silent listening ends fails =
    record { course = NotListening t; is = fails.0; named = inr (unopened listening); says = silent }
  where
    unopened : IsTroubleOfListening Listens t → (t ≡ trouble.Memory) ⊎ (Opens (Ok tt) × (t ≡ trouble.Port) × Listens (Err t))
    unopened (inl memory) = inl memory
    unopened (inr port) = inr (opened, port.0, port.1)
