use Rattle.std.proofs.Common.{◌∷◌, length, heap_items, IsPermutation, sym, ◌∙◌, subst}
use Rattle.tally_allot_award.specs.internal.ContestTerms.{divisor_terms}
use Rattle.tally_allot_award.specs.internal.NextPairs.{Keyed}
use Rattle.tally_allot_award.specs.internal.WonSeat.{none_held}
use Rattle.tally_allot_award.proofs.HeapLemmas.{one_passed, one_pushed}
use Rattle.tally_allot_award.proofs.Room.{at-replicate_zero}
use Rattle.tally_allot_award.proofs.heap_award.first_pairs.Goals as goal
use Rattle.tally_allot_award.proofs.heap_award.first_pairs.Goals.{then-is_eligible+in_ok-push, else-is_eligible}

pub loop-list-preserved : goal.loop-list-preserved
loop-list-preserved g c =
    let t = c.args.contest.now in
    let terms = divisor_terms g.D.Divisors.divisor g.D.Divisors.unit_of t in
    let n = c.loop-list.list in
    let count = length t.poll.votes.now in
    let i = c.loop-list.invariant in
    elim c.if-is_eligible.branch [
      | then-is_eligible+in_ok-push w ↦
          let P : Keyed → Type 0 = λ x. IsPermutation (x ∷ heap_items c.loop-list.next) (heap_items w.push.new.self) in
          rw w.next-is (record {
            order = w.in_ok-push.ensures.heap_order i.order;
            next = one_pushed terms n (none_held count) _ i.next (sym c.is_eligible.ensures ∙ w.if-is_eligible.true) (at-replicate_zero count n) _ (subst P w.keyed_pair.ensures w.in_ok-push.ensures.permutation);
          })
      | else-is_eligible w ↦ rw w.next-is (record { order = i.order; next = one_passed terms n (none_held count) _ i.next (sym c.is_eligible.ensures ∙ w.if-is_eligible.false) })
    ]
