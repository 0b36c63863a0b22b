-- Texts in UTF-8, as a test has them.
use Rattle.std.proofs.Common.{◌≡◌, ℕ, Bool, true, false, List, refl}
use Rattle.std.specs.Str.{IsUtf8, is_utf8}
use Rattle.std.proofs.lemmas.Str.{IsUtf8-from_is_utf8, is_utf8-from_IsUtf8}

pub is_text : (bytes : List ℕ) → IsUtf8 bytes → is_utf8 bytes ≡ true
is_text bytes h = is_utf8-from_IsUtf8 bytes h

pub is_no_text : (bytes : List ℕ) → (IsUtf8 bytes → ⊥) → is_utf8 bytes ≡ false
is_no_text bytes none = by_case (is_utf8 bytes) (IsUtf8-from_is_utf8 bytes)
  where
    by_case : (b : Bool) → (b ≡ true → IsUtf8 bytes) → b ≡ false
    by_case true is = absurd (none (is refl))
    by_case false is = refl
