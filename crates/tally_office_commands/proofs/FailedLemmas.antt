-- Why a command over an office was not done, by what its parts came to.
use Rattle.std.proofs.Common.{◌≡◌, ℕ, true, false, List, Result, Ok, Err, IfOk, IfErr, OnOk, refl, sym, ap, subst, inl, inr}
use Rattle.std.specs.Prelude.{IsOk}
use Rattle.tally_office_commands.specs.Failed.{IsFailure, IsUnended, NotDone, NotEnded}
use Rattle.tally_office_commands.specs.Offices.{Known}
use Rattle.tally_office_trouble.specs.declared.trouble.Trouble.{Trouble}
use Rattle.tally_office_trouble.specs.declared.trouble.Trouble.TheVariants as trouble
use Rattle.tally_office_trouble.specs.Troubles.{IsTroubleOfEnding}

-- what is said of a trouble, and more where it is sure
pub and-sure : {S : Type 0} (Sure : Type 0) (Own Why : Trouble → Type 0) (outcome : Result S Trouble) → IfErr outcome Own → (Sure → IfErr outcome Why)
    → IfErr outcome (λ t. Own t × (Sure → Why t))
and-sure Sure Own Why (Ok text) named why = tt
and-sure Sure Own Why (Err t) named why = (named, why)

pub if-sure : {S : Type 0} (Sure : Type 0) (Is : S → Type 0) (outcome : Result S Trouble) → (Sure → IfOk outcome Is) → IfOk outcome (λ text. Sure → Is text)
if-sure Sure Is (Ok text) is = is
if-sure Sure Is (Err t) is = tt

unended : {K : Type 0} (k : Known K) (db : List ℕ) (left : K) (t : Trouble) → IsTroubleOfEnding t → (t ≡ trouble.Store → k.Closes db left false) → (t ≡ trouble.Write → k.Closes db left true)
    → IsUnended k db left t
unended k db left t (inl is) store cut = inl (is, store is)
unended k db left t (inr is) store cut = inr (is, cut is)

-- a command whose office was opened, by what its work and its ending came to
pub failed : {K S : Type 0} (Same : Type 0) (k : Known K) (db : List ℕ) (Fails : K → Trouble → K → Type 0) (Does : K → List ℕ → K → Type 0) (bytes : S → List ℕ) (opened left : K)
    (outcome : Result S Trouble) (r : Result (Unit {0}) Trouble) → k.Finds db opened → IfErr outcome (λ t. Fails opened t left) → IfOk outcome (λ text. Does opened (bytes text) left)
    → OnOk outcome (IfErr r IsTroubleOfEnding) → (IsOk outcome → r ≡ Err trouble.Store → k.Closes db left false) → (IsOk outcome → r ≡ Err trouble.Write → k.Closes db left true)
    → IfErr outcome (λ t. (r ≡ Err t) × Same) → IfErr r (IsFailure k db Fails Does)
failed Same k db Fails Does bytes opened left (Ok text) (Ok done) found fails does named store cut same = tt
failed Same k db Fails Does bytes opened left (Ok text) (Err t) found fails does named store cut same =
    NotEnded opened left (bytes text) found does (unended k db left t named (λ is. store refl (ap Err is)) (λ is. cut refl (ap Err is)))
failed Same k db Fails Does bytes opened left (Err t) r found fails does named store cut same =
    subst (λ (r : Result (Unit {0}) Trouble). IfErr r (IsFailure k db Fails Does)) (sym same.0) (NotDone opened left found fails)
