use Rattle.std.proofs.Common.{ℕ, ◌≤◌, List, length, sum, heap_items, sym, ap, ◌∙◌, subst}
use Rattle.std.proofs.lemmas.List.{with_items_is}
use Rattle.tally_allot_award.specs.internal.Claims.{AreClaims}
use Rattle.tally_allot_award.specs.internal.ContestTerms.{hare_terms}
use Rattle.tally_allot_award.specs.internal.Race.{CanHold, IsFair}
use Rattle.tally_allot_award.specs.internal.Terms.{AreFairSeats, AreFairSoFar, placed_race}
use Rattle.tally_allot_award.proofs.Room.{left_is, room, sum_within}
use Rattle.tally_allot_award.proofs.remainder_award.award_remainders.Goals as goal

pub total-requires : goal.total-requires
total-requires c = sum_within _ _ _ _ c.deref.ensures.value c.in_ok-seats.ensures.few c.requires.sound.few_seats

pub overflow_sub-left : goal.overflow_sub-left
overflow_sub-left c =
    subst (λ (n : ℕ). n ≤ c.seats.result) (sym c.total.ensures) (subst (λ (n : ℕ). sum c.deref.result.now ≤ n) (sym c.seats.ensures) (subst (λ (a : List ℕ). sum a ≤ c.args.contest.now.seats) (sym c.deref.ensures.value) c.in_ok-seats.ensures.few))

pub claims_of-requires-clause-one_each : goal.claims_of-requires-clause-one_each
claims_of-requires-clause-one_each c = ap length c.deref-2.ensures.value ∙ c.in_ok-seats.ensures.fair.one_each

pub give_to_greatest-requires-clause-fair : goal.give_to_greatest-requires-clause-fair
give_to_greatest-requires-clause-fair c =
    subst (λ (a : List ℕ). AreFairSoFar (hare_terms c.args.contest.now) a) (sym c.deref_mut.ensures.value) c.in_ok-seats.ensures.fair

pub give_to_greatest-requires-clause-room : goal.give_to_greatest-requires-clause-room
give_to_greatest-requires-clause-room c =
    let terms = hare_terms c.args.contest.now in
    let e = c.requires.eligible in
    let q = left_is _ _ _ _ _ _ c.deref_mut.ensures.value c.deref.ensures.value c.seats.ensures c.total.ensures c.in_ok-seats.ensures.few in
    subst (λ (n : ℕ). CanHold (placed_race terms) n) q (room terms c.requires.sound e.0 e.1)

pub give_to_greatest-requires-clause-claims : goal.give_to_greatest-requires-clause-claims
give_to_greatest-requires-clause-claims c =
    let t = c.args.contest.now in
    subst (λ (a : List ℕ). AreClaims (hare_terms t) (length t.poll.votes.now) a (heap_items c.in_ok-claims.claims)) (c.deref-2.ensures.value ∙ sym c.deref_mut.ensures.value) c.in_ok-claims.ensures.claims

pub returns : goal.returns
returns c =
    let terms = hare_terms c.args.contest.now in
    let is = with_items_is c.in_ok-seats.seats c.give_to_greatest.new.seats (c.give_to_greatest.auto.seats ∙ c.deref_mut.ensures.len) in
    let q = left_is _ _ _ _ _ _ c.deref_mut.ensures.value c.deref.ensures.value c.seats.ensures c.total.ensures c.in_ok-seats.ensures.few in
    subst (λ (a : List ℕ). AreFairSeats terms a) (sym is) (subst (λ (n : ℕ). IsFair (placed_race terms) n c.give_to_greatest.new.seats) (sym q) c.give_to_greatest.ensures)
