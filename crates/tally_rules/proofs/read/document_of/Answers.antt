use Rattle.std.proofs.Common.{◌≡◌, Some, None, ap, ◌∙◌, sym, true, length, arith, refl, subst}
use Rattle.std.proofs.lemmas.Bool.{true≢false}
use Rattle.std.proofs.lemmas.Str.{is_utf8-from_IsUtf8}
use Rattle.std.specs.Str.{is_utf8, IsValidUpTo}
use Rattle.toml.specs.Parse.{parse_document}
use Rattle.toml.specs.View.{table_view}
use Rattle.toml.proofs.Views.{view-Table}
use Rattle.tally_rules.specs.Reading.{document_of}
use Rattle.tally_rules.proofs.ReadLemmas.{not_utf8}
use Rattle.tally_rules.proofs.read.document_of.Goals as goal

pub returns-in-Err-clause-fault : goal.returns-in-Err-clause-fault
unfolding document_of
returns-in-Err-clause-fault c =
    let valid : IsValidUpTo c.args.text.now c.valid_up_to.result = subst (IsValidUpTo c.args.text.now) (sym c.valid_up_to.ensures) c.in-Err.ensures.cases.1 in
    let short = valid.short in
    (rw (not_utf8 c.args.text.now c.in-Err.ensures.cases.0) refl, record { within = omega (arith, short); utf8 = λ _. valid })

pub returns-in-Some-clause-fault : goal.returns-in-Some-clause-fault
unfolding document_of
returns-in-Some-clause-fault c =
    let utf8 : is_utf8 c.args.text.now ≡ true = is_utf8-from_IsUtf8 _ c.in-Ok.ensures.cases.1 in
    let same : c.in-Ok.text.now ≡ c.args.text.now = c.in-Ok.ensures.cases.0 in
    let refused : parse_document c.in-Ok.text.now ≡ None = c.in-Err-table_from_str.ensures.refused (λ memory. true≢false (c.in-Some.ensures.none.1 memory)) in
    let document : parse_document c.args.text.now ≡ None = ap parse_document (sym same) ∙ refused in
    let span = c.in-Err-table_from_str.ensures.span in (
      rw (utf8, document) refl,
      record {
        within = omega (arith, ap length same, c.in-Some.ensures.range.0, span.0, span.1);
        utf8 = λ no. absurd (true≢false (sym utf8 ∙ no));
      },
    )

pub returns-in-Ok-table_from_str-clause-document : goal.returns-in-Ok-table_from_str-clause-document
unfolding document_of
returns-in-Ok-table_from_str-clause-document c =
    let utf8 : is_utf8 c.args.text.now ≡ true = is_utf8-from_IsUtf8 _ c.in-Ok.ensures.cases.1 in
    let document : parse_document c.args.text.now ≡ Some (table_view c.in-Ok-table_from_str.table) = ap parse_document (sym c.in-Ok.ensures.cases.0) ∙ c.in-Ok-table_from_str.ensures.ok in
    rw (utf8, document, view-Table)
