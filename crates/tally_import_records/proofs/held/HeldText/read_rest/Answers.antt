use Rattle.std.proofs.Common.{◌≡◌, ◌∙◌, [], ◌++◌, None, Some, length, sym, ap, subst, arith, length-append}
use Rattle.tally_import_records.specs.internal.Pieces.{Fills}
use Rattle.tally_import_records.specs.internal.Text.{bytes_of_parts}
use Rattle.tally_import_records.specs.Watch.{flag_after_end}
use Rattle.tally_import_records.proofs.WorkLemmas.{Fills-on, joined-more}
use Rattle.tally_import_records.proofs.held.HeldText.read_rest.Goals as goal

pub returns-in-Some-clause-fills : goal.returns-in-Some-clause-fills
returns-in-Some-clause-fills g c =
    let old = g.R.Read.remaining c.args.input.now in
    let left = g.R.Read.remaining c.loop-part.input in
    let new = g.R.Read.remaining c.fill.new.input in
    let part = c.fill.new.self in
    let joins = ap bytes_of_parts c.in_ok-push_back.ensures.items ∙ joined-more c.loop-part.parts.items part.bytes in
    let came = subst (λ b. Fills left new b c.loop-part.self.taken part.bytes.items part.taken c.in_ok-end.end) c.new.ensures.items c.in_ok-end.ensures.fills in
    subst (λ b. Fills old new [] c.args.self.now.taken b part.taken (Some c.in-Some.end)) (sym joins)
    (subst (λ e. Fills old new [] c.args.self.now.taken (bytes_of_parts c.loop-part.parts.items ++ part.bytes.items) part.taken e) c.in-Some.is
    (Fills-on old left new c.args.self.now.taken c.loop-part.self.taken part.taken (bytes_of_parts c.loop-part.parts.items) part.bytes.items c.in_ok-end.end c.loop-part.invariant.fills came))

pub loop-part-preserved : goal.loop-part-preserved
loop-part-preserved g c =
    let old = g.R.Read.remaining c.args.input.now in
    let left = g.R.Read.remaining c.loop-part.input in
    let new = g.R.Read.remaining c.fill.new.input in
    let part = c.fill.new.self in
    let joins = ap bytes_of_parts c.in_ok-push_back.ensures.items ∙ joined-more c.loop-part.parts.items part.bytes in
    let goes = c.in_default.is in
    let came = subst (λ b. Fills left new b c.loop-part.self.taken part.bytes.items part.taken c.in_ok-end.end) c.new.ensures.items c.in_ok-end.ensures.fills in
    let count = c.in_ok-end.ensures.count goes in
    record {
      limit = c.in_ok-end.ensures.limit goes;
      watch = subst (λ e. c.fill.new.watch.failed ≡ flag_after_end e c.loop-part.watch.failed) goes c.in_ok-end.ensures.failed
          ∙ c.loop-part.invariant.watch;
      bytes = c.loop-part.invariant.bytes;
      count = omega (
        arith,
        c.loop-part.invariant.count,
        count,
        ap length c.new.ensures.items,
        ap length joins,
        length-append (bytes_of_parts c.loop-part.parts.items) part.bytes.items,
      );
      fills = subst (λ b. Fills old new [] c.args.self.now.taken b part.taken None) (sym joins)
          (subst (λ e. Fills old new [] c.args.self.now.taken (bytes_of_parts c.loop-part.parts.items ++ part.bytes.items) part.taken e) goes
          (Fills-on old left new c.args.self.now.taken c.loop-part.self.taken part.taken (bytes_of_parts c.loop-part.parts.items) part.bytes.items c.in_ok-end.end c.loop-part.invariant.fills came));
    }
