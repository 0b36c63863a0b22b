use Rattle.std.proofs.Common.{◌≡◌, arith, refl, ◌∙◌}
use Rattle.tally_rules.specs.Place.{place_after}
use Rattle.tally_rules.proofs.PlaceLemmas.{place_after-line, place_after-column}
use Rattle.tally_rules.proofs.read.place_after.Goals as goal
use Rattle.tally_rules.proofs.read.place_after.Goals.{then-byte-eq10, else-byte-eq10}

pub loop-byte-preserved : goal.loop-byte-preserved
loop-byte-preserved c =
    let bytes = c.args.before.now in
    let i = c.loop-byte.byte-index in
    let line = c.loop-byte.line in
    let column = c.loop-byte.column in
    elim c.if-byte-eq10.branch [
      | then-byte-eq10 w ↦ (c.loop-byte.invariant.0 ∙ place_after-line bytes i line column c.loop-byte-test.true w.if-byte-eq10.true ∙ rw (w.line-is, w.column-is) refl, omega (arith, c.loop-byte.invariant.1, c.loop-byte.invariant.2, w.line-is, w.column-is), omega (arith, c.loop-byte.invariant.2, w.column-is))
      | else-byte-eq10 w ↦ (c.loop-byte.invariant.0 ∙ place_after-column bytes i line column c.loop-byte-test.true w.if-byte-eq10.false ∙ rw (w.line-is, w.column-is) refl, omega (arith, c.loop-byte.invariant.1, c.loop-byte.invariant.2, w.line-is, w.column-is), omega (arith, c.loop-byte.invariant.2, w.column-is))
    ]
