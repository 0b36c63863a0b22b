-- Why no office was made of the file of a setup.
use Rattle.std.proofs.Common.{◌≡◌, ◌≢◌, ℕ, List, Option, Result, Ok, Err, IfErr, IsOk, inl, inr, refl, subst}
use Rattle.std.proofs.lemmas.Result.{IfErr-weaker}
use Rattle.tally_rules.specs.Fault.{IsFaultIn, Placed}
use Rattle.tally_rules.specs.Reading.{setup_of_text}
use Rattle.tally_rules.specs.declared.fault.SetupFault.{SetupFault}
use Rattle.tally_rules.specs.declared.fault.SetupFault.TheVariants as setup
use Rattle.tally_office_trouble.specs.SetupFile.{GivesTooLong, IsJudged, IsTextOf}
use Rattle.tally_office_trouble.specs.Trouble.{IsTroubleOfMaking}
use Rattle.tally_office_trouble.specs.Troubles.{IsOverLimit, IsTroubleOfEnding, IsTroubleOfReading}
use Rattle.tally_office_trouble.specs.declared.trouble.Trouble.{Trouble}
use Rattle.tally_office_trouble.specs.declared.trouble.Trouble.TheVariants as trouble
use Rattle.tally_office_trouble.proofs.JudgeLemmas.{reading}
use Rattle.tally_office_commands.specs.Made.{IsMakingTrouble, IsNewTrouble}

-- what is read has no fault
no-fault : {A : Type 0} (r : Result A Placed) (fault : SetupFault) → IsOk r → fault ≢ setup.Memory → IsFaultIn r fault → ⊥
no-fault (Ok a) setup.NotToml ok other is = cc
no-fault (Ok a) (setup.Missing key) ok other is = cc
no-fault (Ok a) (setup.BadValue key) ok other is = cc
no-fault (Ok a) (setup.OverLimit key) ok other is = cc
no-fault (Ok a) (setup.Duplicate code) ok other is = cc
no-fault (Ok a) setup.UnknownProfile ok other is = cc
no-fault (Ok a) setup.Memory ok other is = other refl
no-fault (Err why) fault ok other is = cc

pub unread : (Gives : Option (List ℕ) → Type 0) (t : Trouble) → IsTroubleOfReading t → (IsOverLimit t → GivesTooLong Gives) → IsNewTrouble Gives t
unread Gives t named over = (inl named, inl (reading Gives t named over))

pub no-setup : (Gives : Option (List ℕ) → Type 0) (text : List ℕ) (t : Trouble) → IsTextOf Gives text → IsTroubleOfMaking t → IsJudged text t → IsNewTrouble Gives t
no-setup Gives text t gives named judged = (inr (inl named), inl (inr (inr (text, gives, judged))))

pub no-memory : (Gives : Option (List ℕ) → Type 0) (t : Trouble) → t ≡ trouble.Memory → IsNewTrouble Gives t
no-memory Gives t is = (inl (inl (inl is)), inl (inl (inl is)))

-- an office that was not made of a text that is a setup
pub unmade : (Gives : Option (List ℕ) → Type 0) (text : List ℕ) (t : Trouble) → IsTextOf Gives text → IsOk (setup_of_text text) → IsTroubleOfMaking t → IsMakingTrouble text t
    → IsNewTrouble Gives t
unmade Gives text t gives ok (inl (fault, place, is, other)) making =
    let blamed : IsMakingTrouble text (trouble.Setup fault place) = subst (IsMakingTrouble text) is making in
    absurd (no-fault (setup_of_text text) fault ok other blamed.0)
unmade Gives text t gives ok (inr (inl is)) making = (inr (inl (inr (inl is))), inr ((text, gives, ok), inl is))
unmade Gives text t gives ok (inr (inr is)) making = (inr (inl (inr (inr is))), inr ((text, gives, ok), inr (inl is)))

-- one that was made
pub unended : (Gives : Option (List ℕ) → Type 0) (text : List ℕ) (r : Result (Unit {0}) Trouble) → IsTextOf Gives text → IsOk (setup_of_text text) → IfErr r IsTroubleOfEnding
    → IfErr r (IsNewTrouble Gives)
unended Gives text r gives ok = IfErr-weaker r IsTroubleOfEnding (IsNewTrouble Gives) (λ t is. (inr (inr is), inr ((text, gives, ok), inr (inr is))))
