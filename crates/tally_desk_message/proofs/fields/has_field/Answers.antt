use Rattle.std.proofs.Common.{◌≡◌, List, ℕ, true, sym, ap, ◌∙◌, arith}
use Rattle.std.specs.Str.{str_eq_ignore_ascii_case}
use Rattle.tally_desk_message.proofs.FieldLemmas.{named_at}
use Rattle.tally_desk_message.proofs.fields.has_field.Goals as goal

pub returns-then-is_same_name : goal.returns-then-is_same_name
returns-then-is_same_name c =
    let named : str_eq_ignore_ascii_case c.of.result.now c.args.name.now ≡ true = sym c.is_same_name.ensures ∙ c.if-is_same_name.true in
    sym (named_at c.args.name.now c.args.bytes.now c.args.headers.now c.loop-header.header-index _ (omega (arith, c.loop-header-test.true)) (ap (λ (x : List ℕ). str_eq_ignore_ascii_case x c.args.name.now) (sym c.of.ensures) ∙ named))
