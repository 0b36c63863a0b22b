use Rattle.std.proofs.Common.{◌≡◌, ◌<◌, ◌+◌, ◌∙◌, [], true, false, drop, length, get_or, sym, ap, arith}
use Rattle.std.specs.Prelude.{◌&&◌}
use Rattle.std.specs.Cmp.Lexicographic.{pointwise}
use Rattle.std.proofs.lemmas.List.{length-map}
use Rattle.csv.specs.Records.{fields_of}
use Rattle.tally_setup.specs.Constituency.{list_codes}
use Rattle.tally_import.specs.Header.{same_text}
use Rattle.tally_import.proofs.ConstituencyLemmas.{names-at, code-at, not-true, not-false}
use Rattle.tally_import.proofs.return_rows.is_header.Goals as goal

pub returns-then-ne : goal.returns-then-ne
returns-then-ne c =
    let lists = list_codes c.args.lists.now in
    let fields = fields_of c.args.fields.now in
    let place = c.loop-place.place in
    let within : place < length c.args.lists.now = omega arith in
    let count : length lists ≡ length c.args.lists.now = length-map c.args.lists.now _ in
    let named : get_or lists place [] ≡ c.as_bytes.result.now =
    code-at c.args.lists.now place _ within ∙ ap (λ l. l.code) (sym c.index-lists-place.is) ∙ ap (λ l. l.code) (sym c.list.view_is) ∙ sym c.as_bytes.ensures.text in
    let other : same_text (get_or fields (4 + place) []) (get_or lists place []) ≡ false =
    ap (λ t. same_text t (get_or lists place [])) (sym c.field.ensures) ∙ ap (same_text c.field.result.now) named ∙ not-true _ (sym c.if-ne.true ∙ c.ne.ensures) in
    sym (c.loop-place.invariant ∙ names-at lists fields place (omega (arith, count)) (omega arith)
    ∙ ap (λ b. b && pointwise same_text (drop (4 + (place + 1)) fields) (drop (place + 1) lists)) other)

pub loop-place-preserved : goal.loop-place-preserved
loop-place-preserved c =
    let lists = list_codes c.args.lists.now in
    let fields = fields_of c.args.fields.now in
    let place = c.loop-place.place in
    let within : place < length c.args.lists.now = omega arith in
    let count : length lists ≡ length c.args.lists.now = length-map c.args.lists.now _ in
    let named : get_or lists place [] ≡ c.as_bytes.result.now =
    code-at c.args.lists.now place _ within ∙ ap (λ l. l.code) (sym c.index-lists-place.is) ∙ ap (λ l. l.code) (sym c.list.view_is) ∙ sym c.as_bytes.ensures.text in
    let same : same_text (get_or fields (4 + place) []) (get_or lists place []) ≡ true =
    ap (λ t. same_text t (get_or lists place [])) (sym c.field.ensures) ∙ ap (same_text c.field.result.now) named ∙ not-false _ (sym c.if-ne.false ∙ c.ne.ensures) in
    c.loop-place.invariant ∙ names-at lists fields place (omega (arith, count)) (omega arith)
    ∙ ap (λ b. b && pointwise same_text (drop (4 + (place + 1)) fields) (drop (place + 1) lists)) same
