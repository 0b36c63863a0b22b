use Rattle.std.proofs.Common.{◌≡◌, ◌<◌, ◌+◌, ◌++◌, ◌∷◌, ◌∙◌, [], true, false, length, drop, get_or, sym, ap, arith}
use Rattle.std.proofs.lemmas.List.{drop_all}
use Rattle.csv.specs.Records.{fields_of}
use Rattle.tally_setup.specs.Code.{is_code}
use Rattle.tally_import.specs.Header.{header_lists}
use Rattle.tally_import.proofs.HeaderLemmas.{lists_from, stands_in, lists_from-no_code, lists_from-again, lists_from-next, lists_from-end, header_lists-named, drop-at, code_of-some, code_of-none}
use Rattle.tally_import.proofs.header.lists_in_header.Goals as goal

pub loop-place-preserved : goal.loop-place-preserved
loop-place-preserved c =
    let fields = fields_of c.args.fields.now in
    let place = c.loop-place.place in
    let seen = c.loop-place.lists.items in
    let text = get_or fields place [] in
    let within : place < length fields = omega arith in
    let code = code_of-some c.field.result.now c.in-Some.code (sym c.in-Some.ensures) in
    let is : is_code text ≡ true = ap is_code (sym c.field.ensures) ∙ code.0 in
    let same : c.in-Some.code ≡ text = code.1 ∙ c.field.ensures in
    let new : stands_in seen text ≡ false =
    ap (stands_in seen) (sym same) ∙ sym (c.contains.ensures.value ∙ ap (λ l. stands_in l c.in-Some.code) c.deref.ensures.value) ∙ c.if-contains.false in
    c.loop-place.invariant
    ∙ ap (lists_from seen) (drop-at fields place within)
    ∙ lists_from-next seen text (drop (place + 1) fields) is new
    ∙ ap (λ l. lists_from l (drop (place + 1) fields)) (ap (λ x. seen ++ x ∷ []) (sym same) ∙ sym c.in_ok-push.ensures.items)

pub returns-in_default : goal.returns-in_default
returns-in_default c =
    let fields = fields_of c.args.fields.now in
    let place = c.loop-place.place in
    let seen = c.loop-place.lists.items in
    let text = get_or fields place [] in
    let within : place < length fields = omega arith in
    let whole : header_lists fields ≡ lists_from [] (drop 4 fields) =
    header_lists-named fields (omega arith) (omega arith) (sym c.has_fixed_names.ensures ∙ c.if-not-has_fixed_names.false) in
    let no_code : is_code text ≡ false = ap is_code (sym c.field.ensures) ∙ code_of-none c.field.result.now (sym c.new.ensures ∙ c.in_default.is) in
    sym (
    whole ∙ c.loop-place.invariant ∙ ap (lists_from seen) (drop-at fields place within) ∙ lists_from-no_code seen text (drop (place + 1) fields) no_code
    )

pub returns-then-contains : goal.returns-then-contains
returns-then-contains c =
    let fields = fields_of c.args.fields.now in
    let place = c.loop-place.place in
    let seen = c.loop-place.lists.items in
    let text = get_or fields place [] in
    let within : place < length fields = omega arith in
    let whole : header_lists fields ≡ lists_from [] (drop 4 fields) =
    header_lists-named fields (omega arith) (omega arith) (sym c.has_fixed_names.ensures ∙ c.if-not-has_fixed_names.false) in
    let code = code_of-some c.field.result.now c.in-Some.code (sym c.in-Some.ensures) in
    let same : c.in-Some.code ≡ text = code.1 ∙ c.field.ensures in
    let again : stands_in seen text ≡ true =
    ap (stands_in seen) (sym same) ∙ sym (c.contains.ensures.value ∙ ap (λ l. stands_in l c.in-Some.code) c.deref.ensures.value) ∙ c.if-contains.true in
    sym (
    whole ∙ c.loop-place.invariant ∙ ap (lists_from seen) (drop-at fields place within) ∙ lists_from-again seen text (drop (place + 1) fields) again
    )

pub returns : goal.returns
returns c =
    let fields = fields_of c.args.fields.now in
    let place = c.loop-place.place in
    let seen = c.loop-place.lists.items in
    let whole : header_lists fields ≡ lists_from [] (drop 4 fields) =
    header_lists-named fields (omega arith) (omega arith) (sym c.has_fixed_names.ensures ∙ c.if-not-has_fixed_names.false) in
    let all : drop place fields ≡ [] = drop_all place fields (omega arith) in
    sym (whole ∙ c.loop-place.invariant ∙ ap (lists_from seen) all ∙ lists_from-end seen)
