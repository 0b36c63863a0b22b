-- What came of a text that goes on past the limit.
use Rattle.std.proofs.Common.{◌≡◌, ◌<◌, ◌≤◌, ◌+◌, ◌-◌, ◌++◌, ◌∷◌, ◌∙◌, ℕ, suc, List, [], Option, Some, None, length, take, sym, ap, subst, arith, append_assoc, length-append}
use Rattle.std.specs.Prelude.{IfSome}
use Rattle.std.specs.Io.KnownBytes.{Consumes}
use Rattle.std.proofs.lemmas.List.{take-append-le}
use Rattle.tally_import_records.specs.Input.{Gave, size_limit}
use Rattle.tally_import_records.specs.declared.end.Stop.TheVariants.{TooLong}
use Rattle.tally_import_records.specs.declared.end.End.{End}
use Rattle.tally_import_records.specs.declared.held.HeldText.{HeldText}
use Rattle.tally_import_records.specs.internal.Pieces.{Ends, FillsHeld, HoldsMore}

pub past : (limit : ℕ) (text bytes rest : List ℕ) → text ≡ bytes ++ rest → limit < length bytes → (take limit bytes ≡ take limit text) × (limit < length text)
past limit text bytes rest is more =
    (sym (ap (take limit) is ∙ take-append-le limit bytes rest (omega arith)), omega (arith, ap length is, length-append bytes rest))

pub Gave-too_long : (text left : Option (List ℕ)) (last : Option (List ℕ)) (bytes cut : List ℕ)
    → Consumes text left bytes → size_limit < length bytes → cut ≡ take size_limit bytes
    → IfSome text (λ t. Gave t last cut (Some TooLong))
Gave-too_long None left last bytes cut given more is = tt
Gave-too_long (Some t) None last bytes cut given more is = absurd given
Gave-too_long (Some t) (Some rest) last bytes cut given more is =
    let h = past size_limit t bytes rest given more in
    (is ∙ h.0, h.1)

pub take-behind : (xs ys : List ℕ) (k : ℕ) → take (length xs + k) (xs ++ ys) ≡ xs ++ take k ys
take-behind [] ys k = let same : 0 + k ≡ k = omega arith in ap (λ n. take n ys) same
take-behind (x ∷ xs) ys k =
    let more : length (x ∷ xs) + k ≡ suc (length xs + k) = omega arith in
    ap (λ n. take n (x ∷ (xs ++ ys))) more ∙ ap (λ l. x ∷ l) (take-behind xs ys k)

-- the last byte of those that came was one too many
pub Fills-too_long : (old_left left : Option (List ℕ)) (old items cut came : List ℕ) (taken n : ℕ)
    → items ≡ old ++ came → cut ≡ take n items → n + 1 ≡ length items → taken + length came ≡ 16777217 → 0 < length came
    → ((text : Option (List ℕ)) (bytes : List ℕ) → Consumes text old_left bytes → Consumes text left (bytes ++ came))
    → (kept : List ℕ) × (cut ≡ old ++ kept)
    × ((text : Option (List ℕ)) (bytes : List ℕ) → Consumes text old_left bytes → taken ≡ length bytes → IfSome text (λ t. Gave t left (bytes ++ kept) (Some TooLong)))
Fills-too_long old_left left old items cut came taken n same is one count some consumes = (
  take (length came - 1) came,
  is ∙ ap (take n) same ∙ cut_at old n (omega (arith, one, ap length same, length-append old came, some)),
  (λ text bytes given counted.
      Gave-too_long text left left (bytes ++ came) (bytes ++ take (length came - 1) came) (consumes text bytes given)
      (omega (arith, length-append bytes came, count, counted)) (sym (cut_at bytes 16777216 (omega (arith, count, counted, some))))),
)
  where
    cut_at : (xs : List ℕ) (n : ℕ) → n ≡ length xs + (length came - 1) → take n (xs ++ came) ≡ xs ++ take (length came - 1) came
    cut_at xs n at = ap (λ k. take k (xs ++ came)) at ∙ take-behind xs came (length came - 1)

-- what came before, and what came then
pub Consumes-on : (text old left : Option (List ℕ)) (bytes more : List ℕ) → Consumes text old bytes → Consumes old left more → Consumes text left (bytes ++ more)
Consumes-on None old left bytes more one two = tt
Consumes-on (Some t) None left bytes more one two = absurd one
Consumes-on (Some t) (Some o) None bytes more one two = absurd two
Consumes-on (Some t) (Some o) (Some l) bytes more one two = one ∙ ap (λ r. bytes ++ r) two ∙ sym (append_assoc bytes more l)

-- what came is within the limit
pub HoldsMore-fills : (old_left left : Option (List ℕ)) (old new : HeldText) → HoldsMore old_left left old new → new.taken ≤ size_limit → FillsHeld old_left left old new None
HoldsMore-fills old_left left old new came within =
    (came.0, came.1, λ text bytes given counted. (came.3 text bytes given, omega (arith, came.2, counted, length-append bytes came.0), within))

-- what came, and then what came after it
pub HoldsMore-on : (old_left mid_left left : Option (List ℕ)) (old mid new : HeldText)
    → HoldsMore old_left mid_left old mid → HoldsMore mid_left left mid new → HoldsMore old_left left old new
HoldsMore-on old_left mid_left left old mid new one two = (
  one.0 ++ two.0,
  two.1 ∙ ap (λ l. l ++ two.0) one.1 ∙ append_assoc old.bytes.items one.0 two.0,
  omega (arith, one.2, two.2, length-append one.0 two.0),
  λ text bytes given. subst (Consumes text left) (append_assoc bytes one.0 two.0) (two.3 text (bytes ++ one.0) (one.3 text bytes given)),
)

-- and then the end
pub HoldsMore-end : (old_left mid_left left : Option (List ℕ)) (old mid new : HeldText) (end : End)
    → HoldsMore old_left mid_left old mid → mid.taken ≤ size_limit → new ≡ mid → Ends mid_left left end.stop → FillsHeld old_left left old new (Some end)
HoldsMore-end old_left mid_left left old mid new end one within same ends = (
  one.0,
  ap (λ (held : HeldText). held.bytes.items) same ∙ one.1,
  λ text bytes given counted. ends text (bytes ++ one.0) (one.3 text bytes given) (omega (arith, within, one.2, counted, length-append bytes one.0)),
)
