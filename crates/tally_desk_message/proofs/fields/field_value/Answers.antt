use Rattle.std.proofs.Common.{rules, subst, ◌≡◌, List, ℕ, Option, Some, None, is_some, option_map, Ok, Err, true, true≢false, sym, ap, ◌∙◌, arith, refl}
use Rattle.std.specs.Str.{str_eq_ignore_ascii_case}
use Rattle.tally_desk_message.specs.Message.{single_value}
use Rattle.tally_desk_message.specs.internal.Fields.{SeenAs, values_in}
use Rattle.tally_desk_message.proofs.FieldLemmas.{twice_at}
use Rattle.tally_desk_message.proofs.fields.field_value.Goals as goal

some_value : {X Y : Type 0} (f : X → Y) (o : Option X) → is_some o ≡ true → (y : Y) × (option_map f o ≡ Some y)
some_value f None is = absurd (true≢false (sym is))
some_value f (Some x) is = (f x, refl)

pub returns-in_err-first_value : goal.returns-in_err-first_value
returns-in_err-first_value c =
    let named : str_eq_ignore_ascii_case c.of.result.now c.args.name.now ≡ true = sym c.is_same_name.ensures ∙ c.if-is_same_name.true in
    let first = some_value (λ v. v.now) c.loop-header.found c.in_err-first_value.ensures.again.0 in
    let fault = c.in_err-first_value.field-0.0 in
    let is : c.from_residual.result ≡ Err fault = search rules in
    let ensured : single_value (values_in c.args.bytes.now c.args.headers.now c.args.name.now) ≡ Err fault =
    twice_at c.args.name.now c.args.bytes.now c.args.headers.now c.loop-header.header-index _ first.0 (omega (arith, c.loop-header-test.true))
    (ap (λ (x : List ℕ). str_eq_ignore_ascii_case x c.args.name.now) (sym c.of.ensures) ∙ named) (c.loop-header.invariant ∙ ap Ok first.1) ∙ ap Err (sym c.in_err-first_value.ensures.again.1) in
    subst (λ r. SeenAs r (single_value (values_in c.args.bytes.now c.args.headers.now c.args.name.now))) (sym is) ensured
