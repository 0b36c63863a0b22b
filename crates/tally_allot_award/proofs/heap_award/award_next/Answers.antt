use Rattle.std.proofs.Common.{◌≡◌, ℕ, ◌+◌, ◌*◌, ◌<◌, ◌≤◌, ◌∷◌, length, refl, ◌∙◌, sym, Fits, w64, heap_items, IsPermutation, arith, subst}
use Rattle.tally_allot_award.specs.internal.ContestTerms.{divisor_terms}
use Rattle.tally_allot_award.specs.internal.NextPairs.{Keyed}
use Rattle.tally_allot_award.proofs.HeapLemmas.{popped_listed, popped_eligible, popped_few, popped_highest, popped_seat, pushed_next, some_next}
use Rattle.tally_allot_award.proofs.heap_award.award_next.Goals as goal

listed_fits : (l n : ℕ) → l < n → n ≤ 60 → Fits w64 (l * 4)
listed_fits l n lt few = omega arith

inside : (l m n : ℕ) → n ≡ m → l < m → l < n
inside l m n e lt = omega arith

one-le : (k : ℕ) → 1 ≤ k + 1
one-le k = omega arith

pub overflow_add-seat : goal.overflow_add-seat
overflow_add-seat g c =
    let t = c.args.contest.now in
    omega (arith, popped_few (divisor_terms g.D.Divisors.divisor g.D.Divisors.unit_of t) (length t.poll.votes.now) c.args.seats.now _ _ _ c.requires.next c.in-Some.ensures.permutation t.seats c.requires.room t.few_seats)

pub keyed_pair-requires-clause-listed : goal.keyed_pair-requires-clause-listed
keyed_pair-requires-clause-listed g c =
    let t = c.args.contest.now in
    popped_listed (divisor_terms g.D.Divisors.divisor g.D.Divisors.unit_of t) (length t.poll.votes.now) c.args.seats.now _ _ _ c.requires.next c.in-Some.ensures.permutation

pub keyed_pair-requires-clause-eligible : goal.keyed_pair-requires-clause-eligible
keyed_pair-requires-clause-eligible g c =
    let t = c.args.contest.now in
    popped_eligible (divisor_terms g.D.Divisors.divisor g.D.Divisors.unit_of t) (length t.poll.votes.now) c.args.seats.now _ _ _ c.requires.next c.in-Some.ensures.permutation

pub keyed_pair-requires-clause-last : goal.keyed_pair-requires-clause-last
keyed_pair-requires-clause-last g c =
    let t = c.args.contest.now in
    popped_few (divisor_terms g.D.Divisors.divisor g.D.Divisors.unit_of t) (length t.poll.votes.now) c.args.seats.now _ _ _ c.requires.next c.in-Some.ensures.permutation t.seats c.requires.room t.few_seats

pub returns-clause-highest : goal.returns-clause-highest
returns-clause-highest g c =
    let t = c.args.contest.now in
    popped_highest (divisor_terms g.D.Divisors.divisor g.D.Divisors.unit_of t) (length t.poll.votes.now) c.args.seats.now _ _ _ c.requires.next c.in-Some.ensures.permutation t.seats c.requires.keys c.requires.sound.poll.listed c.requires.room t.few_seats (c.in-Some.ensures.heap_order c.requires.order).1

pub returns-clause-next : goal.returns-clause-next
returns-clause-next g c =
    let t = c.args.contest.now in
    let terms = divisor_terms g.D.Divisors.divisor g.D.Divisors.unit_of t in
    let inside = popped_listed terms (length t.poll.votes.now) c.args.seats.now _ _ _ c.requires.next c.in-Some.ensures.permutation in
    let P : Keyed → Type 0 = λ x. IsPermutation (x ∷ heap_items c.pop.new.self) (heap_items c.push.new.self) in
    pushed_next terms (length t.poll.votes.now) c.args.seats.now _ _ _ c.requires.next c.in-Some.ensures.permutation _ (omega (arith, inside, c.requires.fair.one_each)) (subst P c.keyed_pair.ensures c.in_ok-push.ensures.permutation)

pub unreachable-requires : goal.unreachable-requires
unreachable-requires g c =
    let t = c.args.contest.now in
    let e = c.requires.eligible in
    some_next (divisor_terms g.D.Divisors.divisor g.D.Divisors.unit_of t) (length t.poll.votes.now) c.args.seats.now _ c.requires.next (sym c.args.next.now.data.ok.0 ∙ c.in-None.ensures.none) e.0 (c.requires.sound.poll.listed e.0 e.1) e.1

pub offset_bounds-seats-list : goal.offset_bounds-seats-list
offset_bounds-seats-list g c =
    let t = c.args.contest.now in
    listed_fits _ _ (popped_listed (divisor_terms g.D.Divisors.divisor g.D.Divisors.unit_of t) (length t.poll.votes.now) c.args.seats.now _ _ _ c.requires.next c.in-Some.ensures.permutation) t.poll.few_lists

pub bounds-seats-list : goal.bounds-seats-list
bounds-seats-list g c =
    let t = c.args.contest.now in
    inside _ _ _ c.requires.fair.one_each (popped_listed (divisor_terms g.D.Divisors.divisor g.D.Divisors.unit_of t) (length t.poll.votes.now) c.args.seats.now _ _ _ c.requires.next c.in-Some.ensures.permutation)

pub keyed_pair-requires-clause-first : goal.keyed_pair-requires-clause-first
keyed_pair-requires-clause-first g c = one-le _

pub returns-clause-seat : goal.returns-clause-seat
returns-clause-seat g c =
    let t = c.args.contest.now in
    popped_seat (divisor_terms g.D.Divisors.divisor g.D.Divisors.unit_of t) (length t.poll.votes.now) c.args.seats.now _ _ _ c.requires.next c.in-Some.ensures.permutation

pub returns-clause-seats : goal.returns-clause-seats
returns-clause-seats g c = refl

pub returns-clause-order : goal.returns-clause-order
returns-clause-order g c = c.in_ok-push.ensures.heap_order (c.in-Some.ensures.heap_order c.requires.order).0
