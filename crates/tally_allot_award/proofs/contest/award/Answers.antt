use Rattle.std.proofs.Common.{◌≡◌, ℕ, ◌+◌, sum, subst, arith}
use Rattle.tally_allot_award.specs.internal.Race.{IsFair}
use Rattle.tally_allot_award.specs.internal.Terms.{placed_race}
use Rattle.tally_allot_award.proofs.TermsRace.{races, within_placed, within_from_fair}
use Rattle.tally_allot_award.proofs.AwardStep as Award
use Rattle.tally_allot_award.proofs.Scan.{cap_small, not_full}
use Rattle.tally_allot_award.proofs.contest.award.Goals as goal

pub highest_next-requires-clause-within : goal.highest_next-requires-clause-within
highest_next-requires-clause-within g c = within_from_fair (placed_race (g.C.Contest.terms c.args.contest.now)) _ c.loop-seat.seats c.loop-seat.invariant

pub overflow_add-seats : goal.overflow_add-seats
overflow_add-seats g c =
    let highest = c.in-Some.ensures in
    omega (arith, cap_small (g.C.Contest.terms c.args.contest.now) c.requires.sound c.in-Some.list, highest.runs)

pub unreachable-requires : goal.unreachable-requires
unreachable-requires g c =
    let room = c.requires.room in
    not_full (placed_race (g.C.Contest.terms c.args.contest.now)) _ c.loop-seat.seats room.0 c.loop-seat.invariant c.in-None.ensures room.1 room.2 (omega (arith, room.3))

pub loop-seat-preserved : goal.loop-seat-preserved
loop-seat-preserved g c =
    let terms = g.C.Contest.terms c.args.contest.now in
    let r = races terms c.requires.sound in
    let P : ℕ → Type 0 = λ n. IsFair (placed_race terms) n (Award.one_more c.loop-seat.seats c.in-Some.list) in
    let e : sum c.args.seats.now + c.loop-seat._seat + 1 ≡ sum c.args.seats.now + (c.loop-seat._seat + 1) = omega arith in
    subst P e (Award.award (placed_race terms) r.placed (within_placed terms r) _ c.loop-seat.seats c.in-Some.list c.loop-seat.invariant c.in-Some.ensures)

pub returns : goal.returns
returns g c =
    let terms = g.C.Contest.terms c.args.contest.now in
    let P : ℕ → Type 0 = λ n. IsFair (placed_race terms) (sum c.args.seats.now + n) c.loop-seat.seats in
    subst P (omega arith) c.loop-seat.invariant
