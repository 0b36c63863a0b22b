-- A code is text, and its bytes fit the field that keeps them.
use Rattle.std.proofs.Common.{◌≡◌, ◌<◌, ◌≤◌, ◌-◌, ◌++◌, ◌∷◌, ℕ, zero, suc, List, [], Bool, true, false, length, take, drop, replicate, arith, ◌∙◌, ap, refl, length-append, length-drop}
use Rattle.std.specs.Prelude.{◌==◌, ◌&&◌, IsUtf8, nat_le}
use Rattle.std.specs.List.{list_all}
use Rattle.std.specs.Str.{IsAscii}
use Rattle.std.proofs.lemmas.Str.{IsUtf8-from_ascii}
use Rattle.std.proofs.lemmas.Grind.{common_steps}
use Rattle.std.proofs.lemmas.Bool.{leb-true, le-leb}
use Rattle.std.proofs.lemmas.List.{length-replicate, drop-replicate}
use Rattle.std.proofs.Math.Seq.{take-append_seam, drop-append_seam}
use Rattle.tally_setup.specs.Code.{is_code, is_code_character}

small : (c : ℕ) → is_code_character c ≡ true → c < 128
small c e = grind (arith, common_steps)

front : (a b : Bool) → (a && b) ≡ true → a ≡ true
front true b e = refl
front false b e = cc

back : (a b : Bool) → (a && b) ≡ true → b ≡ true
back true b e = e
back false b e = cc

ascii : (text : List ℕ) → list_all is_code_character text ≡ true → IsAscii text
ascii [] e i = omega arith
ascii (c ∷ text) e zero = small c (front _ _ e)
ascii (c ∷ text) e (suc i) = ascii text (back _ _ e) i

-- a code is text
pub IsUtf8-code : (text : List ℕ) → is_code text ≡ true → IsUtf8 text
IsUtf8-code text e = IsUtf8-from_ascii text (ascii text (back _ _ e))

-- a code has at most 16 characters
pub length-code : (text : List ℕ) → is_code text ≡ true → length text ≤ 16
length-code text e = leb-true _ _ (back _ _ (front _ _ e))

-- a text that is not empty has a character
pub length-not_empty : (n : ℕ) → (n == 0) ≡ false → 1 ≤ n
length-not_empty zero e = cc
length-not_empty (suc n) e = omega arith

-- a text of 1 to 16 characters is a code where each of them may occur in one
pub is_code-within : (text : List ℕ) → 1 ≤ length text → length text ≤ 16 → is_code text ≡ list_all is_code_character text
is_code-within text some few =
    ap (λ b. (b && nat_le (length text) 16) && list_all is_code_character text) (le-leb 1 (length text) some)
    ∙ ap (λ b. b && list_all is_code_character text) (le-leb (length text) 16 few)

-- what the field of 16 bytes holds once a code has been copied into zeros
pub length-padded : (text : List ℕ) → length text ≤ 16 → length (text ++ drop (length text) (replicate 16 0)) ≡ 16
length-padded text few =
    let zeros : List ℕ = replicate 16 0 in omega (arith, length-append text (drop (length text) zeros), length-drop (length text) zeros, length-replicate {A = ℕ} 16 0)

pub take-padded : (text : List ℕ) → take (length text) (text ++ drop (length text) (replicate 16 0)) ≡ text
take-padded text = take-append_seam text _

pub drop-padded : (text : List ℕ) → drop (length text) (text ++ drop (length text) (replicate 16 0)) ≡ replicate (16 - length text) 0
drop-padded text = drop-append_seam text _ ∙ drop-replicate (length text) 16 0
