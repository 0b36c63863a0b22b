-- A number of at most 10 digits.
use Rattle.std.proofs.Common.{◌≡◌, ◌<◌, ◌≤◌, ◌+◌, ◌*◌, ◌^◌, ◌-◌, ℕ, true, arith, add-one}
use Rattle.std.specs.Char.{is_ascii_digit}
use Rattle.std.proofs.lemmas.Grind.{common_steps}
use Rattle.std.proofs.Math.Nat.{pow-le-pow_right, pow-suc}

-- a number of at most 9 digits
pub small_number : (n digits : ℕ) → n < 10 ^ digits → digits ≤ 9 → n < 1000000000
small_number n digits below few =
    let ten : 0 < 10 = omega arith in
    let most : 10 ^ digits ≤ 10 ^ 9 = pow-le-pow_right ten few in
    omega (arith, most)

-- one digit more
pub one_more : (n digits digit : ℕ) → n < 10 ^ digits → digit ≤ 9 → 10 * n + digit < 10 ^ (digits + 1)
one_more n digits digit below last =
    let more : 10 ^ (digits + 1) ≡ 10 ^ digits * 10 = rw (add-one digits) (pow-suc 10 digits) in
    omega (arith, more)

-- what a digit writes
pub digit_small : (c : ℕ) → is_ascii_digit c ≡ true → c - 48 ≤ 9
digit_small c e = grind (arith, common_steps)
