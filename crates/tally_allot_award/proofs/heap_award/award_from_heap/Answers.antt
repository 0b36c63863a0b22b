use Rattle.std.proofs.Common.{◌≡◌, ℕ, ◌+◌, ◌<◌, List, [], ◌∷◌, ◌++◌, length, get_or, set, take, drop, heap_items, sum, sym, ap, ◌∙◌, subst, arith}
use Rattle.std.proofs.Math.Seq.{take-append_seam}
use Rattle.std.proofs.lemmas.List.{length-set}
use Rattle.tally_allot_award.specs.internal.ContestTerms.{divisor_terms}
use Rattle.tally_allot_award.specs.declared.won.WonSeat.{WonSeat}
use Rattle.tally_allot_award.specs.internal.NextPairs.{AreNext}
use Rattle.tally_allot_award.specs.internal.Race.{IsFair, IsHighestNext}
use Rattle.tally_allot_award.specs.internal.Terms.{AreFairSoFar, placed_race}
use Rattle.tally_allot_award.specs.internal.WonSeat.{AreWon, none_held}
use Rattle.tally_allot_award.specs.internal.KeptPoll.{kept_poll}
use Rattle.tally_allot_award.proofs.Floors.{at_end, none_fair, none_won}
use Rattle.tally_allot_award.proofs.AwardStep.{award, one_more}
use Rattle.tally_allot_award.proofs.TermsRace.{races, within_placed, total_placed}
use Rattle.tally_allot_award.proofs.WonLemmas.{won_more}
use Rattle.tally_allot_award.proofs.heap_award.award_from_heap.Goals as goal

room_for : (a b : List ℕ) (n m k : ℕ) → a ≡ b → sum b ≡ n → n < m → m ≡ k → sum a < k
room_for a b n m k e t lt q = omega (arith, ap sum e)

pub loop-seat-preserved : goal.loop-seat-preserved
loop-seat-preserved g c =
    let t = c.args.contest.now in
    let terms = divisor_terms g.D.Divisors.divisor g.D.Divisors.unit_of t in
    let r = races terms c.requires.sound in
    let a = c.loop-seat.seats.items in
    let n = c.loop-seat._seat in
    let w = c.in_ok-award_next.field-0 in
    let step = c.in_ok-award_next.ensures in
    let i = c.loop-seat.invariant in
    let h : IsHighestNext (placed_race terms) a w.list = rw c.deref_mut.ensures.value at step.highest in
    let seat : w.seat ≡ get_or a w.list 0 + 1 = rw c.deref_mut.ensures.value at step.seat in
    let given : c.award_next.new.seats ≡ one_more a w.list = step.seats ∙ ap (λ xs. set xs w.list w.seat) c.deref_mut.ensures.value ∙ ap (set a w.list) seat in
    let long : c.loop-seat.seats.len ≡ length c.award_next.new.seats = omega (arith, c.loop-seat.seats.ok.0, ap length given, length-set a w.list (get_or a w.list 0 + 1)) in
    let back : take c.loop-seat.seats.len (c.award_next.new.seats ++ drop (length c.award_next.new.seats) a) ≡ c.award_next.new.seats = ap (λ k. take k (c.award_next.new.seats ++ drop (length c.award_next.new.seats) a)) long ∙ take-append_seam c.award_next.new.seats (drop (length c.award_next.new.seats) a) in
    let same : take c.loop-seat.seats.len (c.award_next.new.seats ++ drop (length c.award_next.new.seats) a) ≡ one_more a w.list = back ∙ given in
    let fair : IsFair (placed_race terms) (n + 1) (one_more a w.list) = award (placed_race terms) r.placed (within_placed terms r) n a w.list i.fair h in
    let won = won_more (placed_race terms) r.placed (within_placed terms r) (total_placed terms r c.requires.proper) n a i.fair w.list h c.loop-seat.pairs.items i.won in
    let A : List ℕ → Type 0 = λ s. IsFair (placed_race terms) (n + 1) s in
    let B : ℕ → Type 0 = λ k. AreWon (placed_race terms) (one_more a w.list) (c.loop-seat.pairs.items ++ record { list = w.list; seat = k } ∷ []) in
    let C : List WonSeat → Type 0 = λ pairs. AreWon (placed_race terms) (one_more a w.list) pairs in
    let D : List ℕ → Type 0 = λ s. AreWon (placed_race terms) s c.push.new.self.items in
    let E : List ℕ → Type 0 = λ s. AreNext terms (length t.poll.votes.now) s (heap_items c.award_next.new.next) in
    record {
      fair = subst A (sym same) fair;
      won = subst D (sym same) (subst C (sym c.in_ok-push.ensures.items) (subst B (sym seat) won));
      order = step.order;
      next = subst E (sym back) step.next;
    }

pub loop-seat-init : goal.loop-seat-init
loop-seat-init g c =
    let t = c.args.contest.now in
    let terms = divisor_terms g.D.Divisors.divisor g.D.Divisors.unit_of t in
    let e = c.in_ok-seats.ensures ∙ ap none_held c.count.ensures.count in
    record {
      fair = subst (λ (a : List ℕ). IsFair (placed_race terms) 0 a) (sym e) (none_fair (g.D.Divisors.divisor t.divisors) t.lot_rule (kept_poll t.poll) t.lot.now t.seats);
      won = subst (λ (a : List ℕ). AreWon (placed_race terms) a c.in_ok-pairs.pairs.items) (sym e) (subst (λ (rows : List WonSeat). AreWon (placed_race terms) (none_held (length t.poll.votes.now)) rows) (sym c.in_ok-pairs.ensures.items) (none_won (placed_race terms) (length t.poll.votes.now)));
      order = c.in_ok-next.ensures.order;
      next = subst (λ (a : List ℕ). AreNext terms (length t.poll.votes.now) a (heap_items c.in_ok-next.next)) (sym e) c.in_ok-next.ensures.next;
    }

pub award_next-requires-clause-fair : goal.award_next-requires-clause-fair
award_next-requires-clause-fair g c =
    let terms = divisor_terms g.D.Divisors.divisor g.D.Divisors.unit_of c.args.contest.now in
    let i = c.loop-seat.invariant.fair in
    subst (λ (a : List ℕ). AreFairSoFar terms a) (sym c.deref_mut.ensures.value) (subst (λ (n : ℕ). IsFair (placed_race terms) n c.loop-seat.seats.items) (sym i.total) i)

pub award_next-requires-clause-room : goal.award_next-requires-clause-room
award_next-requires-clause-room g c = room_for _ _ _ _ _ c.deref_mut.ensures.value c.loop-seat.invariant.fair.total c.loop-seat-test.true c.seats-seat-end.ensures

pub award_next-requires-clause-order : goal.award_next-requires-clause-order
award_next-requires-clause-order g c = c.loop-seat.invariant.order

pub award_next-requires-clause-next : goal.award_next-requires-clause-next
award_next-requires-clause-next g c =
    let t = c.args.contest.now in
    subst (λ (a : List ℕ). AreNext (divisor_terms g.D.Divisors.divisor g.D.Divisors.unit_of t) (length t.poll.votes.now) a (heap_items c.loop-seat.next)) (sym c.deref_mut.ensures.value) c.loop-seat.invariant.next

pub returns-clause-fair : goal.returns-clause-fair
returns-clause-fair g c =
    let all = at_end _ _ _ c.loop-seat-test.false c.loop-seat.auto._seat-end c.seats-seat-end.ensures in
    subst (λ (n : ℕ). IsFair (placed_race (divisor_terms g.D.Divisors.divisor g.D.Divisors.unit_of c.args.contest.now)) n c.loop-seat.seats.items) all c.loop-seat.invariant.fair

pub returns-clause-won : goal.returns-clause-won
returns-clause-won g c = c.loop-seat.invariant.won
