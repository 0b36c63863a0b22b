use Rattle.std.proofs.Common.{ℕ, List, refl, sym, subst}
use Rattle.std.proofs.lemmas.Bool.{false≢true}
use Rattle.tally_allot_award.specs.internal.Terms.{AreFairSeats}
use Rattle.tally_allot_award.specs.internal.ContestTerms.{hare_terms}
use Rattle.tally_allot_award.proofs.TermsRace.{races, from_placed}
use Rattle.tally_allot.proofs.LotLaws.{proper_if_taken}
use Rattle.tally_allot.proofs.under_lot.seats_by_remainders.Goals as goal

pub returns-clause-allotment : goal.returns-clause-allotment
returns-clause-allotment c =
    let terms = hare_terms c.args.contest.now in
    let r = races terms c.requires.sound in
    from_placed terms r (proper_if_taken terms r c.in_ok-check_lot.ensures.taken) c.in_ok-seats.seats.items c.in_ok-seats.ensures

pub returns-then-not-has_eligible-clause-fault : goal.returns-then-not-has_eligible-clause-fault
returns-then-not-has_eligible-clause-fault c = λ e. false≢true (c.if-not-has_eligible.ensures.1 e)

pub award_remainders-requires-clause-eligible : goal.award_remainders-requires-clause-eligible
award_remainders-requires-clause-eligible c = c.if-not-has_eligible.ensures.0 refl

pub check_lot-requires-clause-eligible : goal.check_lot-requires-clause-eligible
check_lot-requires-clause-eligible c = c.if-not-has_eligible.ensures.0 refl

pub check_lot-requires-clause-fair : goal.check_lot-requires-clause-fair
check_lot-requires-clause-fair c =
    subst (λ (a : List ℕ). AreFairSeats (hare_terms c.args.contest.now) a) (sym c.deref.ensures.value) c.in_ok-seats.ensures

pub returns-clause-lot_taken : goal.returns-clause-lot_taken
returns-clause-lot_taken c = c.in_ok-check_lot.ensures.taken

pub returns-clause-eligible : goal.returns-clause-eligible
returns-clause-eligible c = c.if-not-has_eligible.ensures.0 refl
