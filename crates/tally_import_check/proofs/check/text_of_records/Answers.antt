use Rattle.std.proofs.Common.{◌≡◌, ◌∙◌, ◌∷◌, [], None, Some, sym, ap, subst, length, arith}
use Rattle.std.specs.Prelude.{IfSome, option_map}
use Rattle.csv.specs.Records.{fields_of}
use Rattle.tally_import.specs.Header.{header_lists}
use Rattle.tally_import_records.specs.Given.{sep_of}
use Rattle.tally_import_records.specs.Input.{AreAll}
use Rattle.tally_import_check.specs.internal.Rounds.{FindsCheckText}
use Rattle.tally_import.specs.declared.fault.CheckFault.TheVariants.{BadHeader}
use Rattle.tally_import_check.proofs.FoundLemmas.{Found-fault, no-lists}
use Rattle.tally_import.proofs.HeaderLemmas.{header-few}
use Rattle.tally_import_records.proofs.WorkLemmas.{HasGiven-partly}
use Rattle.tally_import_check.proofs.check.text_of_records.Goals as goal

pub text_under_header-requires-clause-few : goal.text_under_header-requires-clause-few
text_under_header-requires-clause-few g c =
    let named : Some c.in-Some-2.lists.items ≡ header_lists (fields_of c.next.new.into) = ap (option_map (λ l. l.items)) (sym c.in-Some-2.is) ∙ c.in_ok-lists.ensures in
    omega (arith, header-few (fields_of c.next.new.into) c.in-Some-2.lists.items named, ap length c.as_slice.ensures.value)

pub returns-in-Some-clause-finds : goal.returns-in-Some-clause-finds
returns-in-Some-clause-finds g c text given =
    let left = g.R.Read.remaining c.next.new.input in
    Found-fault (sep_of c.args.records.now) text left [] c.in-Some.end.stop c.no_header.result
    (c.in_ok-end.ensures.all c.in-Some.end c.in-Some.is text [] given) c.no_header.ensures.fault

pub returns-in_default-2-clause-finds : goal.returns-in_default-2-clause-finds
returns-in_default-2-clause-finds g c text given =
    let left = g.R.Read.remaining c.next.new.input in
    let goes : c.in_ok-end.field-0 ≡ None = c.in_default.is in
    let none : c.in_ok-lists.field-0 ≡ None = c.in_default-2.is in
    let header = fields_of c.next.new.into in
    let partly = HasGiven-partly c.next.new.self in
    let all = subst (λ s. AreAll s text left (header ∷ partly.0) partly.1) c.next.ensures.sep
    (partly.2 text left (header ∷ []) (c.in_ok-end.ensures.record goes text [] given)) in
    Found-fault (sep_of c.args.records.now) text left (header ∷ partly.0) partly.1 BadHeader all
    (no-lists header partly.0 partly.1 (sym c.in_ok-lists.ensures ∙ ap (option_map (λ l. l.items)) none))

pub returns-clause-finds : goal.returns-clause-finds
returns-clause-finds g c text given =
    let left = g.R.Read.remaining c.text_under_header.new.reader in
    let header = fields_of c.next.new.into in
    let goes : c.in_ok-end.field-0 ≡ None = c.in_default.is in
    let named : Some c.in-Some-2.lists.items ≡ header_lists header = ap (option_map (λ l. l.items)) (sym c.in-Some-2.is) ∙ c.in_ok-lists.ensures in
    subst (λ s. IfSome text (λ t. FindsCheckText c.args.lines s t left c.text_under_header.result)) c.next.ensures.sep
    (c.text_under_header.ensures.finds header (ap Some c.as_slice.ensures.value ∙ named) text (c.in_ok-end.ensures.record goes text [] given))
