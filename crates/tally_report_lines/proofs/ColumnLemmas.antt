-- What a format's width writes is a column.
use Rattle.std.proofs.Common.{◌≡◌, ℕ, zero, suc, ◌+◌, ◌-◌, ◌/◌, ◌%◌, List, [], ◌∷◌, ◌++◌, Bool, true, false, length, length-append, append_assoc, refl, sym, ap, arith}
use Rattle.std.specs.Prelude.{◌==◌, ◌&&◌, if◌then◌else◌}
use Rattle.std.specs.List.{repeat}
use Rattle.std.specs.Char.{encode_utf8}
use Rattle.std.specs.Fmt.{char_count, decimal, format_spec, padded_integral, styled_decimal}
use Rattle.std.proofs.lemmas.Bool.{eqb-true}
use Rattle.std.proofs.lemmas.Fmt.{decimal_digit}
use Rattle.std.proofs.lemmas.List.{append-nil}
use Rattle.tally_report_lines.specs.Columns.{number, right_cell, spaces}
use Rattle.tally_report_lines.specs.Votes.{hundredths}

repeat-space : (n : ℕ) → repeat n (32 ∷ []) ≡ spaces n
repeat-space zero = refl
repeat-space (suc n) = ap (λ s. 32 ∷ s) (repeat-space n)

space-is : encode_utf8 32 ≡ 32 ∷ []
unfolding encode_utf8
space-is = refl

-- as the format lays it out
laid : (short : ℕ) (left : ℕ) (space : List ℕ) (digits : List ℕ) → space ≡ 32 ∷ [] → left ≡ short → repeat left space ++ [] ++ [] ++ [] ++ (digits ++ repeat (left - left) space) ≡ spaces short ++ digits
laid short left space digits is same =
    let none : left - left ≡ 0 = omega arith in
    rw none (rw is (rw same (rw repeat-space (simp append-nil))))

padded : (width : ℕ) (digits : List ℕ) → padded_integral (format_spec 32 3 0 width 18446744073709551615) false [] digits ≡ right_cell width digits
unfolding padded_integral char_count
padded width digits = laid (width - length digits) (width - length digits - 0 - 0) (encode_utf8 32) digits space-is (omega arith)

by_width : (width n : ℕ) (none : Bool) → (width == 0) ≡ none
    → (if none && true && true then decimal n else padded_integral (format_spec 32 3 0 width 18446744073709551615) false [] (decimal n)) ≡ number width n
by_width width n true is = let short : width - length (decimal n) ≡ 0 = omega (arith, eqb-true width 0 is) in sym (ap (λ k. spaces k ++ decimal n) short)
by_width width n false is = padded width (decimal n)

pub number-is : (width n : ℕ) → styled_decimal (format_spec 32 3 0 width 18446744073709551615) n ≡ number width n
number-is width n = by_width width n (width == 0) refl

-- a whole part of five places, a point and two digits are a column of eight
pointed : (w a b : List ℕ) (x y : ℕ) → a ≡ x ∷ [] → b ≡ y ∷ [] → right_cell 5 w ++ 46 ∷ (a ++ b) ≡ right_cell 8 (w ++ 46 ∷ [] ++ a ++ b)
pointed w a b x y one two = rw one (rw two (rw short (simp append_assoc)))
  where
    long : length (w ++ 46 ∷ [] ++ x ∷ [] ++ y ∷ []) ≡ length w + 3
    long = omega (arith, length-append (w ++ 46 ∷ [] ++ x ∷ []) (y ∷ []), length-append (w ++ 46 ∷ []) (x ∷ []), length-append w (46 ∷ []))

    short : 8 - length (w ++ 46 ∷ [] ++ x ∷ [] ++ y ∷ []) ≡ 5 - length w
    short = omega (arith, long)

pub hundredths-is : (n : ℕ) → number 5 (n / 100) ++ 46 ∷ (decimal (n / 10 % 10) ++ decimal (n % 10)) ≡ right_cell 8 (hundredths n)
hundredths-is n =
    pointed (decimal (n / 100)) (decimal (n / 10 % 10)) (decimal (n % 10)) (48 + n / 10 % 10) (48 + n % 10)
    (decimal_digit (n / 10 % 10) (omega arith)) (decimal_digit (n % 10) (omega arith))
