-- Words that are written piece by piece.
use Rattle.std.proofs.Common.{◌∙◌, ◌++◌, ℕ, List, Option, Result, Ok, Err, OnOk, OnErr, take, length, subst, sym}
use Rattle.std.proofs.Math.Seq.{take-length}
use Rattle.std.proofs.KnownBytes.{Appends-trans}
use Rattle.std.specs.Io.KnownBytes.{Appends}
use Rattle.tally_office_trouble.specs.Reported.{IsReported}
use Rattle.tally_office_trouble.specs.internal.Put.{IsPut, IsPutAfter}
use Rattle.tally_office_trouble.proofs.ReportedLemmas.{reported-behind, reported-front}

-- one write
pub put_whole : {E : Type 0} (old new : Option (List ℕ)) (words : List ℕ) (result : Result (Unit {0}) E)
    → OnOk result (Appends old new words) → OnErr result ((n : ℕ) × Appends old new (take n words)) → IsPut old new words result
put_whole old new words (Ok done) whole front = whole
put_whole old new words (Err fault) whole front = front

-- what comes after words that were written
pub put_then : {E : Type 0} (old mid new : Option (List ℕ)) (words rest : List ℕ) (result : Result (Unit {0}) E)
    → Appends old mid words → IsPut mid new rest result → IsPut old new (words ++ rest) result
put_then old mid new words rest (Ok done) first then = Appends-trans old mid new words rest first then
put_then old mid new words rest (Err fault) first then = reported-behind old mid new words rest first then

-- words that were not written as a whole, before others
pub put_failed : (old new : Option (List ℕ)) (words rest : List ℕ) → IsReported old new words → IsReported old new (words ++ rest)
put_failed old new words rest front = reported-front old new words rest front

-- words that come after words that may have been written
pub put_on : {E : Type 0} (old mid new : Option (List ℕ)) (words rest : List ℕ) (done result : Result (Unit {0}) E)
    → IsPut old mid words done → IsPutAfter mid new done rest result → IsPut old new (words ++ rest) result
put_on old mid new words rest (Ok done) result first then = put_then old mid new words rest result first then
put_on old mid new words rest (Err fault) result first (same, is) =
    subst (IsPut old new (words ++ rest)) (sym is) (put_failed old new words rest (subst (λ n. IsReported old n words) (sym same) first))

-- the same where the first words too come after others
pub put_both : {E : Type 0} (old mid new : Option (List ℕ)) (words rest : List ℕ) (before done result : Result (Unit {0}) E)
    → IsPutAfter old mid before words done → IsPutAfter mid new done rest result → IsPutAfter old new before (words ++ rest) result
put_both old mid new words rest (Ok before) done result first then = put_on old mid new words rest done result first then
put_both old mid new words rest (Err fault) done result (same, is) then =
    let after : IsPutAfter mid new (Err fault) rest result = subst (λ d. IsPutAfter mid new d rest result) is then in
    (after.0 ∙ same, after.1)

-- what was put was reported
pub put_reported : {E : Type 0} (old new : Option (List ℕ)) (words : List ℕ) (result : Result (Unit {0}) E) → IsPut old new words result → IsReported old new words
put_reported old new words (Ok done) whole = (length words, subst (Appends old new) (sym (take-length words)) whole)
put_reported old new words (Err fault) front = front
