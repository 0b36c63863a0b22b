use Rattle.std.proofs.Common.{◌≡◌, ℕ, ◌+◌, ◌<◌, ◌≤◌, ◌⊎◌, length, get_or, sum, heap_items, subst, inl, inr, arith}
use Rattle.std.proofs.lemmas.Bool.{cases_lt}
use Rattle.tally_allot_award.specs.internal.KeptPoll.{kept_poll}
use Rattle.tally_allot_award.specs.internal.ContestTerms.{hare_terms}
use Rattle.tally_allot_award.specs.internal.Race.{IsFair}
use Rattle.tally_allot_award.specs.internal.Terms.{placed_race, most_for}
use Rattle.tally_allot_award.proofs.AwardStep as Award
use Rattle.tally_allot_award.proofs.ClaimLemmas.{one_seat, some_claim, popped_listed, popped_runs, popped_highest, popped_rest}
use Rattle.tally_allot_award.proofs.Scan.{cap_small, not_full, runs_within}
use Rattle.tally_allot_award.proofs.TermsRace.{races, within_placed}
use Rattle.tally_allot_award.proofs.remainder_award.give_to_greatest.Goals as goal

pub offset_bounds-seats-list : goal.offset_bounds-seats-list
offset_bounds-seats-list c =
    let t = c.args.contest.now in
    let w = c.loop-seat.invariant in
    omega (arith, popped_listed (hare_terms t) (length t.poll.votes.now) c.loop-seat.seats _ _ _ w.claims c.in-Some.ensures.permutation, t.poll.few_lists)

pub bounds-seats-list : goal.bounds-seats-list
bounds-seats-list c =
    let t = c.args.contest.now in
    let w = c.loop-seat.invariant in
    omega (arith, popped_listed (hare_terms t) (length t.poll.votes.now) c.loop-seat.seats _ _ _ w.claims c.in-Some.ensures.permutation, w.fair.one_each)

pub bounds-seats-list-in-loop-seat : goal.bounds-seats-list-in-loop-seat
bounds-seats-list-in-loop-seat c =
    let t = c.args.contest.now in
    let w = c.loop-seat.invariant in
    omega (arith, popped_listed (hare_terms t) (length t.poll.votes.now) c.loop-seat.seats _ _ _ w.claims c.in-Some.ensures.permutation, w.fair.one_each)

pub overflow_add-seats : goal.overflow_add-seats
overflow_add-seats c =
    let t = c.args.contest.now in
    let w = c.loop-seat.invariant in
    omega (arith, popped_runs (hare_terms t) (length t.poll.votes.now) c.loop-seat.seats _ _ _ w.claims c.in-Some.ensures.permutation, cap_small (hare_terms t) c.requires.sound c.in-Some.claim.list)

pub unreachable-requires : goal.unreachable-requires
unreachable-requires c =
    let t = c.args.contest.now in
    let w = c.loop-seat.invariant in
    let room = c.requires.room in
    not_full (placed_race (hare_terms t)) _ c.loop-seat.seats room.0 w.fair (λ m. full m (cases_lt (get_or c.loop-seat.seats m 0) (most_for (kept_poll t.poll) t.seats m))) room.1 room.2 (omega (arith, room.3, c.loop-seat-test.true))
  where
    full : (m : ℕ) → (get_or c.loop-seat.seats m 0 < most_for (kept_poll c.args.contest.now.poll) c.args.contest.now.seats m) ⊎ (most_for (kept_poll c.args.contest.now.poll) c.args.contest.now.seats m ≤ get_or c.loop-seat.seats m 0) → most_for (kept_poll c.args.contest.now.poll) c.args.contest.now.seats m ≤ get_or c.loop-seat.seats m 0
    full m (inr le) = le
    full m (inl lt) =
        let t = c.args.contest.now in
        let w = c.loop-seat.invariant in
        some_claim (hare_terms t) (length t.poll.votes.now) c.loop-seat.seats (heap_items c.loop-seat.claims) w.claims (omega (arith, c.in-None.ensures.none, c.loop-seat.claims.data.ok.0)) m (runs_within (hare_terms t) c.requires.sound m (get_or c.loop-seat.seats m 0) (w.fair.low m) lt)

pub loop-seat-preserved : goal.loop-seat-preserved
loop-seat-preserved c =
    let t = c.args.contest.now in
    let poll = kept_poll t.poll in
    let terms = hare_terms t in
    let r = races terms c.requires.sound in
    let a = c.loop-seat.seats in
    let l = c.in-Some.claim.list in
    let n = length t.poll.votes.now in
    let w = c.loop-seat.invariant in
    let pop = c.in-Some.ensures in
    let listed = popped_listed terms n a _ _ _ w.claims pop.permutation in
    let runs = popped_runs terms n a _ _ _ w.claims pop.permutation in
    let highest = popped_highest terms n a _ _ _ w.claims pop.permutation (λ m lt. runs_within terms c.requires.sound m (get_or a m 0) (w.fair.low m) lt) (pop.heap_order w.order).1 in
    let P : ℕ → Type 0 = λ k. IsFair (placed_race terms) k (Award.one_more a l) in
    let e : sum c.args.seats.now + c.loop-seat._seat + 1 ≡ sum c.args.seats.now + (c.loop-seat._seat + 1) = omega arith in
    record {
      fair = subst P e (Award.award (placed_race terms) r.placed (within_placed terms r) _ a l w.fair highest);
      order = (pop.heap_order w.order).0;
      claims = popped_rest terms n a _ _ _ w.claims pop.permutation (omega (arith, listed, w.fair.one_each)) (omega (arith, one_seat poll t.seats l (get_or a l 0) runs, w.fair.low l));
    }
