-- The checks of a command, one after the other.
use Rattle.std.specs.Prelude.{Bool, true, false, List, [], ◌∷◌, Option, Some, None, Result, Err}
use Rattle.tally_returns.specs.declared.refusal.Refusal.{Refusal}

-- a check: where the test fails, this refusal
abbrev pub check : Bool → Refusal → Option Refusal
check true refusal = None
check false refusal = Some refusal

-- the refusal of the first check that fails
abbrev pub first_refusal : List (Option Refusal) → Option Refusal
first_refusal [] = None
first_refusal (None ∷ checks) = first_refusal checks
first_refusal (Some refusal ∷ checks) = Some refusal

-- a check on what an earlier check found; it passes where that found nothing
abbrev pub check_found : {X : Type 0} → Option X → (X → Bool) → (X → Refusal) → Option Refusal
check_found None test refusal = None
check_found (Some x) test refusal = check (test x) (refusal x)

-- the refusal, or else this answer
abbrev pub refused_or : {X : Type 0} → Option Refusal → Result X Refusal → Result X Refusal
refused_or None answer = answer
refused_or (Some refusal) answer = Err refusal
