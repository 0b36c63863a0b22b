use Rattle.std.proofs.Common.{◌≡◌, sum, refl}
use Rattle.std.proofs.lemmas.Bool.{false≢true}
use Rattle.tally_allot.proofs.Verdicts.{is_under_lot, fair_under_lot, faulty_under_lot}
use Rattle.tally_allot.proofs.allotment.is_allotment_in.Goals as goal

pub returns-then-not-is_fair : goal.returns-then-not-is_fair
returns-then-not-is_fair g c = (λ t. absurd (false≢true t), λ u. c.if-not-is_fair.ensures.1 (fair_under_lot (g.C.Contest.terms c.args.contest.now) c.requires.sound c.args.given.now u))

pub check_lot-requires-clause-eligible : goal.check_lot-requires-clause-eligible
check_lot-requires-clause-eligible g c = c.if-not-has_eligible.ensures.0 refl

pub returns-in-Ok : goal.returns-in-Ok
returns-in-Ok g c =
    let whole : sum c.args.given.now ≡ (g.C.Contest.terms c.args.contest.now).seats = cc in
    (λ t. is_under_lot (g.C.Contest.terms c.args.contest.now) c.requires.sound c.args.given.now (c.if-not-has_eligible.ensures.0 refl) (c.if-not-is_fair.ensures.0 refl) whole c.in-Ok.ensures.taken, λ u. refl)

pub returns-in-Err : goal.returns-in-Err
returns-in-Err g c =
    (λ t. absurd (false≢true t), λ u. absurd (faulty_under_lot (g.C.Contest.terms c.args.contest.now) c.requires.sound c.args.given.now c.in-Err.field-0 c.in-Err.ensures.fault c.in-Err.ensures.never_memory u))
