-- What came of an input that is read as a whole.
use Rattle.std.proofs.Common.{◌≡◌, ◌<◌, ◌≤◌, ◌++◌, ◌∙◌, ℕ, List, [], Option, Some, None, Bool, false, length, take, refl, sym, ap, subst, arith}
use Rattle.std.specs.Prelude.{IfSome}
use Rattle.std.specs.Io.KnownBytes.{Consumes}
use Rattle.std.proofs.lemmas.List.{length-take-le, take-take}
use Rattle.tally_import_records.specs.Given.{Came}
use Rattle.tally_import_records.specs.Input.{GaveWithin, size_limit}
use Rattle.tally_import_records.specs.declared.end.Stop.{Stop}
use Rattle.tally_import_records.specs.declared.end.Stop.TheVariants.{TooLong, Read}
use Rattle.tally_import_records.specs.declared.end.End.{End}
use Rattle.tally_import_records.specs.declared.held.HeldText.{HeldText}
use Rattle.tally_import_records.specs.declared.separator.Sep.{Sep}
use Rattle.tally_import_records.specs.internal.Pieces.{FillsHeld, text_of_piece, text_rows}
use Rattle.tally_import_records.proofs.ComingLemmas.{some-record}
use Rattle.tally_import_records.proofs.InputLemmas.{past}

-- a text with a field begun after it has a record
pub some-row : (sep : Sep) (whole : Bool) (text last : List ℕ) → last ≡ text_of_piece whole sep text → whole ≡ false → 0 < length (text_rows sep last)
some-row sep whole text last is not =
    let found = some-record sep text in
    subst (λ t. 0 < length (text_rows sep t)) (sym (is ∙ ap (λ w. text_of_piece w sep text) not)) (omega (arith, ap length found.2))

Consumes-none : (o : Option (List ℕ)) → Consumes o o []
Consumes-none None = tt
Consumes-none (Some t) = refl

-- what an empty room took up
pub came_of : (old left : Option (List ℕ)) (none new : HeldText) (end : Option End) → none.bytes.items ≡ [] → none.taken ≡ 0 → FillsHeld old left none new end
    → Came old left new.bytes.items new.taken end
came_of old left none new end empty zero fills =
    let all : new.bytes.items ≡ fills.0 = fills.1 ∙ ap (λ l. l ++ fills.0) empty in
    subst (λ l. Came old left l new.taken end) (sym all) (fills.2 old [] (Consumes-none old) zero)

-- more came than the limit
consumed : (limit : ℕ) (t : List ℕ) (left : Option (List ℕ)) (bytes : List ℕ) → Consumes (Some t) left bytes → limit < length bytes
    → (take limit bytes ≡ take limit t) × (limit < length t)
consumed limit t None bytes given more = absurd given
consumed limit t (Some rest) bytes given more = past limit t bytes rest given more

cut_of : (limit : ℕ) → limit < size_limit → (t : List ℕ) (left : Option (List ℕ)) (bytes : List ℕ) (stop : Option Stop) → GaveWithin size_limit t left bytes stop → limit < length bytes
    → (take limit bytes ≡ take limit t) × (limit < length t)
cut_of limit below t left bytes None gave more = (ap (take limit) gave.0, omega (arith, ap length gave.0, more))
cut_of limit below t left bytes (Some TooLong) gave more =
    (ap (take limit) gave.0 ∙ take-take limit size_limit t (omega (arith, below)), omega (arith, below, gave.1))
cut_of limit below t left bytes (Some Read) gave more = consumed limit t left bytes gave.0 more

pub too_long : (limit : ℕ) → limit < size_limit → (old left : Option (List ℕ)) (bytes cut : List ℕ) (taken : ℕ) (end : Option End) → Came old left bytes taken end
    → limit < length bytes → cut ≡ take limit bytes → IfSome old (λ t. GaveWithin limit t left cut (Some TooLong))
too_long limit below None left bytes cut taken end came more is = tt
too_long limit below (Some t) left bytes cut taken None came more is =
    let h = consumed limit t left bytes came.0 more in
    (is ∙ h.0, h.1)
too_long limit below (Some t) left bytes cut taken (Some end) came more is =
    let h = cut_of limit below t left bytes end.stop came more in
    (is ∙ h.0, h.1)

-- no more came, and the input ended
within : (limit : ℕ) → limit < size_limit → (t : List ℕ) (left : Option (List ℕ)) (bytes : List ℕ) (stop : Option Stop) → GaveWithin size_limit t left bytes stop → length bytes ≤ limit
    → GaveWithin limit t left bytes stop
within limit below t left bytes None gave few = (gave.0, omega (arith, ap length gave.0, few))
within limit below t left bytes (Some TooLong) gave few =
    absurd (omega (arith, below, few, ap length gave.0, length-take-le size_limit t (omega (arith, gave.1))))
within limit below t left bytes (Some Read) gave few = (gave.0, few)

pub ended_within : (limit : ℕ) → limit < size_limit → (old left : Option (List ℕ)) (bytes : List ℕ) (taken : ℕ) (end : End) → Came old left bytes taken (Some end) → length bytes ≤ limit
    → IfSome old (λ t. GaveWithin limit t left bytes end.stop)
ended_within limit below None left bytes taken end came few = tt
ended_within limit below (Some t) left bytes taken end came few = within limit below t left bytes end.stop came few
