-- A number of few digits.
use Rattle.std.proofs.Common.{◌≡◌, ◌<◌, ◌≤◌, ◌+◌, ◌*◌, ◌^◌, ◌-◌, ◌∙◌, ℕ, Bool, true, false, List, [], Option, Some, None, length, drop, get_or, refl, sym, ap, arith, add-one}
use Rattle.std.specs.Char.{is_ascii_digit}
use Rattle.std.specs.Prelude.{if◌then◌else◌}
use Rattle.std.proofs.lemmas.Grind.{common_steps}
use Rattle.std.proofs.Math.Nat.{pow-le-pow_right, pow-suc}
use Rattle.tally_import.specs.Rows.{first_unread, is_number_text}
use Rattle.tally_import.proofs.HeaderLemmas.{drop-at}

-- a number of at most 8 digits
pub small_number : (n digits : ℕ) → n < 10 ^ digits → digits ≤ 8 → n < 100000000
small_number n digits below few =
    let ten : 0 < 10 = omega arith in
    let most : 10 ^ digits ≤ 10 ^ 8 = pow-le-pow_right ten few in
    omega (arith, most)

-- one digit more
pub one_more : (n digits digit : ℕ) → n < 10 ^ digits → digit ≤ 9 → 10 * n + digit < 10 ^ (digits + 1)
one_more n digits digit below last =
    let more : 10 ^ (digits + 1) ≡ 10 ^ digits * 10 = rw (add-one digits) (pow-suc 10 digits) in
    omega (arith, more)

-- what a digit writes
pub digit_small : (c : ℕ) → is_ascii_digit c ≡ true → c - 48 ≤ 9
digit_small c e = grind (arith, common_steps)

-- a text that was read as a number
pub read-number : (is : Bool) (value n : ℕ) (r : Option ℕ) → r ≡ (if is then Some value else None) → r ≡ Some n → (is ≡ true) × (n ≡ value)
read-number true value n r read some = (refl, let same : Some n ≡ Some value = sym some ∙ read in cc)
read-number false value n r read some = absurd (let never : None ≡ Some n = sym read ∙ some in cc)

-- one number more was read
pub unread-more : (place : ℕ) (texts : List (List ℕ)) → place < length texts → is_number_text (get_or texts place []) ≡ true
    → first_unread (place + 1) (drop (place + 1) texts) ≡ first_unread place (drop place texts)
unread-more place texts within is =
    sym (ap (first_unread place) (drop-at texts place within) ∙ ap (λ b. if b then first_unread (place + 1) (drop (place + 1) texts) else Some place) is)
