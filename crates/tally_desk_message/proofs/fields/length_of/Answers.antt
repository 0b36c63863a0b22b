use Rattle.std.proofs.Common.{◌≡◌, ◌+◌, ◌<◌, true, sym, ◌∙◌, arith}
use Rattle.std.specs.Str.Parse.{digits_value}
use Rattle.std.proofs.lemmas.Int.Digits.{digits_value_more}
use Rattle.tally_desk_message.specs.Message.{is_content_length, body_limit}
use Rattle.tally_desk_message.proofs.FieldLemmas.{digit_at, front_value, too_long}
use Rattle.tally_desk_message.proofs.fields.length_of.Goals as goal

pub returns-then-number-gt-BODY_LIMIT : goal.returns-then-number-gt-BODY_LIMIT
returns-then-number-gt-BODY_LIMIT c =
    let v = c.args.value.now in
    let i = c.loop-digit.digit-index in
    let is : is_content_length v ≡ true = sym c.is_length.ensures ∙ c.if-not-is_length.false in
    let within = c.loop-digit-test.true in
    let digit = digit_at v i is within in
    let step = digits_value_more 10 v i within in
    let front = front_value v (i + 1) in
    let long : body_limit < digits_value 10 v = omega (arith, digit, step, front, c.from.ensures, c.loop-digit.invariant.value, c.if-number-gt-BODY_LIMIT.true) in
    sym (too_long v is long)

pub loop-digit-preserved : goal.loop-digit-preserved
loop-digit-preserved c =
    let v = c.args.value.now in
    let i = c.loop-digit.digit-index in
    let is : is_content_length v ≡ true = sym c.is_length.ensures ∙ c.if-not-is_length.false in
    let within = c.loop-digit-test.true in
    let digit = digit_at v i is within in
    let step = digits_value_more 10 v i within in
    record {
      value = omega (arith, digit, step, c.from.ensures, c.loop-digit.invariant.value);
      small = omega (arith, c.if-number-gt-BODY_LIMIT.false);
    }
