use Rattle.std.proofs.Common.{◌≡◌, ◌+◌, ◌++◌, ℕ, option_to_list, take, subst, sym, ap, ◌∙◌, arith}
use Rattle.tally_desk.specs.Serving.{Serves, one_if}
use Rattle.tally_desk.proofs.ServeLemmas.{serves_more}
use Rattle.tally_desk.proofs.serving.serve.Goals as goal
use Rattle.tally_desk.proofs.serving.serve.Goals.{then-serve_next, else-serve_next}

pub loop-at-preserved : goal.loop-at-preserved
loop-at-preserved g c =
    let r = g.R.Responder in
    let was = c.loop-at.invariant in
    let same : c.loop-at.answered + one_if c.serve_next.result ≡ c.if-serve_next.answered =
    elim c.if-serve_next.branch [
      | then-serve_next w ↦ ap (λ b. c.loop-at.answered + one_if b) w.if-serve_next.true ∙ sym w.answered-is
      | else-serve_next w ↦ ap (λ b. c.loop-at.answered + one_if b) w.if-serve_next.false ∙ (let plain : c.loop-at.answered + 0 ≡ c.loop-at.answered = omega arith in plain) ∙ sym w.answered-is
    ] in
    record {
      count = elim c.if-serve_next.branch [
        | then-serve_next w ↦ omega (arith, was.count, w.answered-is, w.failed-is)
        | else-serve_next w ↦ omega (arith, was.count, w.answered-is, w.failed-is)
      ];
      trusted = λ sure. was.trusted (c.serve_next.ensures.trusted sure);
      serves = λ before is.
          let so_far = was.serves before is in
          let next = c.serve_next.ensures.next so_far.0 so_far.1 in
          let more = serves_more r.Answers (r.IsTrusted c.serve_next.new.keeper) (r.content c.args.keeper.now) (r.content c.loop-at.keeper) (r.content c.serve_next.new.keeper)
          (before.ended ++ option_to_list before.current) before.coming so_far.2 c.loop-at.at c.loop-at.answered c.serve_next.result so_far.0 next.0
          so_far.3 so_far.4 (λ sure. so_far.5 (c.serve_next.ensures.trusted sure)) next.2 in (
            next.0,
            next.1,
            more.ended,
            more.before,
            more.coming,
            λ sure. subst (λ (n : ℕ). Serves r.Answers (r.content c.args.keeper.now) (take (c.loop-at.at + 1) before.coming) more.ended n (r.content c.serve_next.new.keeper)) same (more.serves sure),
          );
    }
