use Rattle.std.proofs.Common.{◌≡◌, ◌<◌, ◌≤◌, ◌+◌, ◌*◌, ◌-◌, ◌∙◌, sym, get_or, true, arith, refl}
use Rattle.std.specs.Char.{is_ascii_digit}
use Rattle.std.proofs.lemmas.List.Folds.{list_all_more}
use Rattle.std.proofs.lemmas.List.Sums.{fold_more}
use Rattle.tally_import_votes.proofs.NumberLemmas.{small_number, digit_small, one_more}
use Rattle.tally_import_votes.proofs.votes.votes_number.Goals as goal

pub overflow_mul-n : goal.overflow_mul-n
overflow_mul-n c =
    let few : c.loop-digit.digit-index ≤ 9 = omega arith in
    let small : c.loop-digit.n < 1000000000 = small_number _ _ c.loop-digit.invariant.below few in
    omega arith

pub overflow_add-n : goal.overflow_add-n
overflow_add-n c =
    let few : c.loop-digit.digit-index ≤ 9 = omega arith in
    let small : c.loop-digit.n < 1000000000 = small_number _ _ c.loop-digit.invariant.below few in
    let last = digit_small (get_or c.args.text.now c.loop-digit.digit-index 0) (sym c.is_ascii_digit.ensures.value ∙ c.if-not-is_ascii_digit.false) in
    omega (arith, last, c.from.ensures)

pub loop-digit-preserved : goal.loop-digit-preserved
loop-digit-preserved c =
    let text = c.args.text.now in
    let at = c.loop-digit.digit-index in
    let is : is_ascii_digit (get_or text at 0) ≡ true = sym c.is_ascii_digit.ensures.value ∙ c.if-not-is_ascii_digit.false in
    let all = list_all_more is_ascii_digit text at 0 c.loop-digit-test.true in
    let value = fold_more (λ n digit. 10 * n + (digit - 48)) 0 text at 0 c.loop-digit-test.true in
    let last : c.from.result ≤ 9 = omega (arith, digit_small (get_or text at 0) is, c.from.ensures) in
    record {
      digits = rw (all, c.loop-digit.invariant.digits, is) refl;
      value = rw (value, ← c.loop-digit.invariant.value, c.from.ensures) refl;
      below = one_more c.loop-digit.n at c.from.result c.loop-digit.invariant.below last;
    }
