use Rattle.std.proofs.Common.{◌≡◌, ◌<◌, ◌≤◌, ◌∙◌, ℕ, Bool, [], true, false, true≢false, ap, length, drop, refl, sym, subst, arith, length-drop}
use Rattle.tally_import_records.specs.internal.Pieces.{text_rows}
use Rattle.tally_import_records.specs.internal.Reading.{rows_left}
use Rattle.tally_import_records.specs.internal.Text.{bytes_left}
use Rattle.tally_import_records.proofs.piece.Rest.new.Goals as goal

-- there are as many records as were given
enough : (whole : Bool) (given n : ℕ) → (whole ≡ false → given < n) → (whole ≡ true → given ≤ n) → given ≤ n
enough true given n some all = all refl
enough false given n some all = omega (arith, some refl)

pub unreachable-requires : goal.unreachable-requires
unreachable-requires c =
    let rows = rows_left c.deref_mut.result.now in
    let same : rows ≡ text_rows c.args.sep (bytes_left c.args.text) = ap rows_left c.deref_mut.ensures.value ∙ c.in_ok-reader.ensures.rows in
    let few = subst (λ l. c.args.given ≤ length l) (sym same) (enough c.args.is_whole c.args.given _ c.requires.some c.requires.whole) in
    true≢false (sym (c.in_ok-pass_over.ensures.all few) ∙ c.if-not-branch.true)

pub unreachable-requires-then-not-branch-2 : goal.unreachable-requires-then-not-branch-2
unreachable-requires-then-not-branch-2 c =
    let rows = rows_left c.deref_mut.result.now in
    let none : drop c.args.given rows ≡ [] =
    sym (c.in_ok-pass_over.ensures.rows c.if-not-branch.false) ∙ ap rows_left (sym c.deref_mut-2.ensures.value) ∙ rw c.if-not-branch-2.true at c.in_ok-next_record.ensures.record in
    let same : rows ≡ text_rows c.args.sep (bytes_left c.args.text) = ap rows_left c.deref_mut.ensures.value ∙ c.in_ok-reader.ensures.rows in
    omega (arith, ap length none, length-drop c.args.given rows, c.requires.some c.if-is_whole.false, ap length same)
