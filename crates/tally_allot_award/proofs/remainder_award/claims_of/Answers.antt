use Rattle.std.proofs.Common.{arith}
use Rattle.tally_allot_award.specs.internal.ContestTerms.{hare_terms}
use Rattle.tally_allot_award.proofs.ClaimLemmas.{one_passed, one_pushed}
use Rattle.tally_allot_award.proofs.remainder_award.claims_of.Goals as goal
use Rattle.tally_allot_award.proofs.remainder_award.claims_of.Goals.{then-seats-list+in_ok-push, else-seats-list}

pub loop-list-preserved : goal.loop-list-preserved
loop-list-preserved c =
    let t = c.args.contest.now in
    let n = c.loop-list.list in
    let i = c.loop-list.invariant in
    elim c.if-seats-list.branch [
      | then-seats-list+in_ok-push w ↦
          rw w.claims-is (record {
            order = w.in_ok-push.ensures.heap_order i.order;
            claims = one_pushed (hare_terms t) n c.args.seats.now _ i.claims (omega (arith, w.if-seats-list.true, c.cap.ensures)) w.claim_of.result w.claim_of.ensures.claim w.claim_of.ensures.list _ w.in_ok-push.ensures.permutation;
          })
      | else-seats-list w ↦ rw w.claims-is (record { order = i.order; claims = one_passed (hare_terms t) n c.args.seats.now _ i.claims (omega (arith, w.if-seats-list.false, c.cap.ensures)) })
    ]
