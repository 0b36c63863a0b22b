use Rattle.std.proofs.Common.{ℕ, List, refl, sym, subst}
use Rattle.std.proofs.lemmas.Bool.{false≢true}
use Rattle.tally_allot_award.specs.internal.ContestTerms.{divisor_terms}
use Rattle.tally_allot_award.specs.internal.KeptPoll.{kept_poll}
use Rattle.tally_allot_award.specs.internal.Terms.{AreFairSeats}
use Rattle.tally_allot_award.proofs.TermsRace.{races, from_placed}
use Rattle.tally_allot.proofs.AwardLemmas.{rows_of_won}
use Rattle.tally_allot.proofs.KeyLemmas.{have_keys, few_in_lot}
use Rattle.tally_allot.proofs.OrderLemmas.{proper_if_may, wrong_unless_may}
use Rattle.tally_allot.proofs.under_lot.award_in.Goals as goal

pub returns-then-not-may_be_taken-clause-fault : goal.returns-then-not-may_be_taken-clause-fault
returns-then-not-may_be_taken-clause-fault g c =
    let terms = divisor_terms g.D.Divisors.divisor g.D.Divisors.unit_of c.args.contest.now in
    let eligible = c.if-not-has_eligible.ensures.0 refl in
    (eligible, wrong_unless_may terms c.requires.sound eligible (λ may. false≢true (c.if-not-may_be_taken.ensures.1 may)))

pub award_from_heap-requires-clause-proper : goal.award_from_heap-requires-clause-proper
award_from_heap-requires-clause-proper g c =
    let t = c.args.contest.now in
    proper_if_may (kept_poll t.poll) t.lot.now (c.if-not-may_be_taken.ensures.0 refl)

pub award_from_heap-requires-clause-keys : goal.award_from_heap-requires-clause-keys
award_from_heap-requires-clause-keys g c =
    let t = c.args.contest.now in
    let sound = c.requires.sound in
    have_keys (divisor_terms g.D.Divisors.divisor g.D.Divisors.unit_of t) sound.rule.0 (g.met.D.Divisors.at_most t.divisors) sound.poll t.poll.few_votes t.poll.few_lists (few_in_lot (kept_poll t.poll) sound.poll t.lot.now (c.if-not-may_be_taken.ensures.0 refl))

pub returns-clause-allotment : goal.returns-clause-allotment
returns-clause-allotment g c =
    let t = c.args.contest.now in
    let terms = divisor_terms g.D.Divisors.divisor g.D.Divisors.unit_of t in
    let proper = proper_if_may (kept_poll t.poll) t.lot.now (c.if-not-may_be_taken.ensures.0 refl) in
    from_placed terms (races terms c.requires.sound) proper c.in_ok-awarded.awarded.seats.items c.in_ok-awarded.ensures.fair

pub returns-clause-rows : goal.returns-clause-rows
returns-clause-rows g c =
    let t = c.args.contest.now in
    rows_of_won (g.D.Divisors.divisor t.divisors) t.lot_rule (kept_poll t.poll) c.requires.sound.poll t.lot.now t.seats c.requires.sound.few_seats c.in_ok-awarded.awarded.seats.items c.in_ok-awarded.awarded.pairs.items c.in_ok-awarded.ensures.won

pub returns-clause-proper : goal.returns-clause-proper
returns-clause-proper g c =
    let t = c.args.contest.now in
    proper_if_may (kept_poll t.poll) t.lot.now (c.if-not-may_be_taken.ensures.0 refl)

pub returns-then-not-has_eligible-clause-fault : goal.returns-then-not-has_eligible-clause-fault
returns-then-not-has_eligible-clause-fault g c = λ e. false≢true (c.if-not-has_eligible.ensures.1 e)

pub award_from_heap-requires-clause-eligible : goal.award_from_heap-requires-clause-eligible
award_from_heap-requires-clause-eligible g c = c.if-not-has_eligible.ensures.0 refl

pub check_lot-requires-clause-eligible : goal.check_lot-requires-clause-eligible
check_lot-requires-clause-eligible g c = c.if-not-has_eligible.ensures.0 refl

pub check_lot-requires-clause-fair : goal.check_lot-requires-clause-fair
check_lot-requires-clause-fair g c =
    subst (λ (a : List ℕ). AreFairSeats (divisor_terms g.D.Divisors.divisor g.D.Divisors.unit_of c.args.contest.now) a) (sym c.deref.ensures.value) c.in_ok-awarded.ensures.fair

pub returns-clause-won : goal.returns-clause-won
returns-clause-won g c = c.in_ok-awarded.ensures.won

pub returns-clause-lot_taken : goal.returns-clause-lot_taken
returns-clause-lot_taken g c = c.in_ok-check_lot.ensures.taken

pub returns-clause-eligible : goal.returns-clause-eligible
returns-clause-eligible g c = c.if-not-has_eligible.ensures.0 refl
