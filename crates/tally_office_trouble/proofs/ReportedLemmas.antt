-- What is reported where texts were written, or a front of them.
use Rattle.std.proofs.Common.{◌≡◌, ◌∙◌, ◌++◌, ◌+◌, ℕ, List, Option, length, take, drop, subst, sym, ap, append_assoc, take-append-drop}
use Rattle.std.proofs.KnownBytes.{Appends-trans}
use Rattle.std.proofs.Math.Seq.{take-append-add, take-append_seam}
use Rattle.std.specs.Io.KnownBytes.{Appends}
use Rattle.tally_office_trouble.specs.Reported.{IsReported}

-- a front of the first of two texts is one of both
pub reported-front : (old new : Option (List ℕ)) (words rest : List ℕ) → (n : ℕ) × Appends old new (take n words) → IsReported old new (words ++ rest)
reported-front old new words rest (n, front) =
    let text = take n words in
    let split : words ++ rest ≡ text ++ (drop n words ++ rest) =
    ap (λ (l : List ℕ). l ++ rest) (sym (take-append-drop n words)) ∙ append_assoc text (drop n words) rest in
    (length text, subst (Appends old new) (sym (ap (take (length text)) split ∙ take-append_seam text (drop n words ++ rest))) front)

-- the first of two texts was written, and after it the second or a prefix of it
pub reported-behind : (old mid new : Option (List ℕ)) (words rest : List ℕ) → Appends old mid words → IsReported mid new rest → IsReported old new (words ++ rest)
reported-behind old mid new words rest whole (n, front) =
    (length words + n, subst (Appends old new) (sym (take-append-add words rest n)) (Appends-trans old mid new words (take n rest) whole front))
