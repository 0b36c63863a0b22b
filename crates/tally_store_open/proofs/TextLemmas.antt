-- A text that is a setup is in UTF-8.
use Rattle.std.proofs.Common.{◌≡◌, ℕ, Bool, true, false, List, Ok, refl}
use Rattle.std.specs.Prelude.{nat_lt, length}
use Rattle.std.specs.Str.{IsUtf8, is_utf8}
use Rattle.std.proofs.lemmas.Str.{IsUtf8-from_is_utf8}
use Rattle.tally_setup.specs.Constituency.{Constituency}
use Rattle.tally_rules.specs.Reading.{document_of, setup_of_text}

pub setup_is_utf8 : (text : List ℕ) (setup : List Constituency) → setup_of_text text ≡ Ok setup → IsUtf8 text
unfolding document_of setup_of_text
setup_is_utf8 text setup is = IsUtf8-from_is_utf8 text (by_case (is_utf8 text) refl (nat_lt 8388608 (length text)) refl)
  where
    by_case : (b : Bool) → is_utf8 text ≡ b → (long : Bool) → nat_lt 8388608 (length text) ≡ long → b ≡ true
    by_case true utf8 long bound = refl
    by_case false not_utf8 true bound = let no = rw bound at is in cc
    by_case false not_utf8 false bound = let no = rw (bound, not_utf8) at is in cc
