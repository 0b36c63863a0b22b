-- A chain of steps, one layer at a time: what is found in a step is found in the chain. A search
-- would unfold the whole chain.
use Rattle.std.proofs.Common.{◌≡◌, ◌∙◌, ap, Some, None, Result, Ok, Err}
use Rattle.std.specs.Result.{IfErr, IsErrAnd}
use Rattle.std.proofs.lemmas.Result.{err_from_is_err_and}
use Rattle.tally_rules.specs.Fault.{Fault, Placed}
use Rattle.tally_rules.specs.Place.{in_entry, nowhere}
use Rattle.tally_rules.specs.Reading.{◌>>=◌}
use Rattle.tally_rules.specs.internal.Found.{IsFoundIn, IsPlacedIn}
use Rattle.tally_rules.specs.declared.place.Place.TheVariants as place
use Rattle.tally_rules.specs.declared.place.Way.{Way}
use Rattle.tally_rules.specs.declared.read.fault.KeyFault.{KeyFault as Found}
use Rattle.tally_rules.specs.declared.read.fault.KeyFault.TheVariants as found
use Rattle.tally_rules.specs.declared.read.fault.PlacedFault.{PlacedFault}
use Rattle.tally_rules.proofs.ReadLemmas.{IsFoundAt-step, IsFoundAt-same}

-- a fault that `?` passes on
pub placed-passed : {A B : Type 0} (reading : Result A Placed) (result : Result B PlacedFault) (fault : PlacedFault) → IsErrAnd result (λ e. e ≡ fault) → IsPlacedIn reading fault → IfErr result (IsPlacedIn reading)
placed-passed reading result fault passed h =
    let p = err_from_is_err_and result passed in
    rw (p.1, p.2) h

-- a fault in the first step
pub placed-first : {A B : Type 0} (reading : Result A Placed) (step : A → Result B Placed) (fault : PlacedFault) → IsPlacedIn reading fault → IsPlacedIn (reading >>= step) fault
placed-first reading step fault h = IsFoundAt-step reading step fault.place fault.fault h

-- a fault after the first step
pub placed-after : {A B : Type 0} (reading : Result A Placed) (a : A) (step : A → Result B Placed) (fault : PlacedFault) → reading ≡ Ok a → IsPlacedIn (step a) fault → IsPlacedIn (reading >>= step) fault
placed-after reading a step fault e h = IsFoundAt-same _ _ fault.place fault.fault (ap (λ r. r >>= step) e) h

-- what is read after the first step
pub read-after : {A B : Type 0} (reading : Result A Placed) (a : A) (step : A → Result B Placed) (b : Result B Placed) → reading ≡ Ok a → step a ≡ b → (reading >>= step) ≡ b
read-after reading a step b e h = ap (λ r. r >>= step) e ∙ h

-- a fault of what is read in an entry
found-in_entry : {A : Type 0} (reading : Result A Fault) (way : Way) (fault : Found) → IsFoundIn reading fault → IsPlacedIn (in_entry way reading) (record { fault = fault; place = Some (place.Entry way None) })
found-in_entry reading way (found.Missing key) e = ap (in_entry way) e
found-in_entry reading way (found.BadValue key) e = ap (in_entry way) e
found-in_entry reading way (found.OverLimit key) e = ap (in_entry way) e
found-in_entry reading way (found.Duplicate code) e = ap (in_entry way) e
found-in_entry reading way found.UnknownProfile e = ap (in_entry way) e
found-in_entry reading way found.Memory e = e

-- the same, as the function `in_entry` answers it
pub placed-in_entry : {A B : Type 0} (reading : Result A Fault) (read : Result B Found) (here way : Way) (fault : PlacedFault) → here ≡ way → IfErr read (IsFoundIn reading) → read ≡ Err fault.fault → fault.place ≡ Some (place.Entry here None) → IsPlacedIn (in_entry way reading) fault
placed-in_entry reading read here way fault same in_read is at =
    let found : IsFoundIn reading fault.fault = rw is at in_read in
    rw (at, same) (found-in_entry reading way fault.fault found)

-- a fault of what is read beside no entry
pub placed-nowhere : {A : Type 0} (reading : Result A Fault) (fault : Found) → IsFoundIn reading fault → IsPlacedIn (nowhere reading) (record { fault = fault; place = None })
placed-nowhere reading (found.Missing key) e = ap nowhere e
placed-nowhere reading (found.BadValue key) e = ap nowhere e
placed-nowhere reading (found.OverLimit key) e = ap nowhere e
placed-nowhere reading (found.Duplicate code) e = ap nowhere e
placed-nowhere reading found.UnknownProfile e = ap nowhere e
placed-nowhere reading found.Memory e = e
