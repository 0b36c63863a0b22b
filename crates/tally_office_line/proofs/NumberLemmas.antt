-- A number that is read from a text is the one that the text writes.
use Rattle.std.proofs.Common.{◌≡◌, ◌<◌, ◌≤◌, ◌^◌, ℕ, Bool, cond, true, false, refl, sym, ap, subst, Some, None, is_some, true≢false, arith}
use Rattle.std.specs.Prelude.{unwrap_or}
use Rattle.std.specs.Str.Parse.{IsNumeral, digits_value, without_leading_plus}
use Rattle.clap.specs.Values.{IsUnsignedIn}
use Rattle.clap.specs.ValueTests.{is_unsigned_in}
use Rattle.clap.specs.Walk.{Text}
use Rattle.clap.specs.declared.builder.ValueParser.TheVariants as vp
use Rattle.clap.proofs.ValueTestLemmas.{Accepts-accepts, accepts-Accepts}
use Rattle.tally_office_line.specs.Line.{number_in_range}

passes : (b : Bool) (n : ℕ) → is_some (cond b (Some n) None) ≡ true → b ≡ true
passes true n e = refl
passes false n e = absurd (true≢false (sym e))

-- a text that has a number is one within the limits
pub number_lies : (low high : ℕ) (text : Text) → is_some (number_in_range low high text) ≡ true → IsUnsignedIn low high text
number_lies low high text e = accepts-Accepts false (vp.Unsigned low high) text (passes (is_unsigned_in low high text) _ e)

pub number_is : (low high : ℕ) (text : Text) (n : ℕ) → is_some (number_in_range low high text) ≡ true → n ≡ digits_value 10 (without_leading_plus text)
    → number_in_range low high text ≡ Some n
number_is low high text n e is = rw (passes (is_unsigned_in low high text) _ e) (ap Some (sym is))

-- the number that a text writes, where it is at most this
pub number_within_most : (most : ℕ) (text : Text) (n : ℕ) → IsNumeral 10 (without_leading_plus text) → digits_value 10 (without_leading_plus text) < 2 ^ 64 → n ≡ digits_value 10 (without_leading_plus text)
    → n ≤ most → n ≡ unwrap_or (number_in_range 0 most text) 0
number_within_most most text n numeral below is few =
    let taken : is_unsigned_in 0 most text ≡ true =
    Accepts-accepts false (vp.Unsigned 0 most) text (numeral, below, omega arith, subst (λ (m : ℕ). m ≤ most) is few) in
    rw taken is

-- and 0, where it writes none
pub no_number : (most : ℕ) (text : Text) → ¬ (IsNumeral 10 (without_leading_plus text) × (digits_value 10 (without_leading_plus text) < 2 ^ 64)) → 0 ≡ unwrap_or (number_in_range 0 most text) 0
no_number most text none = go (is_unsigned_in 0 most text) refl
  where
    go : (b : Bool) → is_unsigned_in 0 most text ≡ b → 0 ≡ unwrap_or (number_in_range 0 most text) 0
    go true is = let in' = accepts-Accepts false (vp.Unsigned 0 most) text is in absurd (none (in'.0, in'.1))
    go false is = rw is refl
