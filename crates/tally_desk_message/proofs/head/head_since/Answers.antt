use Rattle.std.proofs.Common.{◌≡◌, ◌+◌, ◌<◌, ◌++◌, ◌∷◌, ◌==◌, ◌&&◌, [], false, suc, length, take, get_or, subst, sym, ap, ◌∙◌, arith}
use Rattle.std.specs.Prelude.{IfNone}
use Rattle.std.proofs.Math.Seq.{take-suc}
use Rattle.httparse.specs.Grammar.{HasNoRequest}
use Rattle.tally_desk_message.specs.internal.Lines.{no_lines, lines_with, lines_after}
use Rattle.tally_desk_message.specs.declared.lines.Lines.{Lines}
use Rattle.tally_desk_message.proofs.LineLemmas.{lines_append, none_in_front, none_with}
use Rattle.tally_desk_message.proofs.head.head_since.Goals as goal
use Rattle.tally_desk_message.proofs.head.head_since.Goals.{then-end_with+in_ok-head+in_default, else-end_with}

pub loop-place-preserved : goal.loop-place-preserved
loop-place-preserved c =
    let bytes = c.args.bytes.now in
    let place = c.loop-place.place in
    let was = c.loop-place.invariant in
    let byte = get_or bytes place 0 in
    let front = take place bytes in
    let inside : place < length bytes = omega (arith, c.loop-place-test.true) in
    let same : place + 1 ≡ suc place = omega arith in
    let next : take (place + 1) bytes ≡ front ++ byte ∷ [] = ap (λ n. take n bytes) same ∙ take-suc bytes place 0 inside in
    record {
      fields = elim c.if-end_with.branch [
        | then-end_with+in_ok-head+in_default w ↦ grind (arith, w.headers-is, was.fields)
        | else-end_with w ↦ grind (arith, w.headers-is, was.fields)
      ];
      lines = c.end_with.ensures.lines ∙ ap (lines_with byte) was.lines ∙ sym (lines_append no_lines front (byte ∷ [])) ∙ ap (lines_after no_lines) (sym next);
      no_head = elim c.if-end_with.branch [
        | then-end_with+in_ok-head+in_default w ↦ none_in_front (place + 1) bytes (subst (λ found. IfNone found (HasNoRequest bytes)) w.in_default.is w.in_ok-head.ensures.none)
        | else-end_with w ↦
            let ended : (((byte == 10) && (lines_after no_lines front).begun) && (lines_after no_lines front).empty) ≡ false =
            ap (λ (l : Lines). ((byte == 10) && l.begun) && l.empty) (sym was.lines) ∙ sym c.end_with.ensures.ended ∙ w.if-end_with.false in
            subst HasNoRequest (sym next) (none_with front byte was.no_head ended)
      ];
    }
