use Rattle.tally_allot_award.specs.internal.Terms.{AreDivisors}
use Rattle.tally_allot_award.proofs.PollLemmas.{sound_by_divisors}
use Rattle.tally_allot_award.proofs.divisor_contest.DivisorContest.new.Goals as goal

pub returns-clause-sound : goal.returns-clause-sound
returns-clause-sound g c =
    let p = c.args.poll.now in
    let d : AreDivisors (g.D.Divisors.divisor c.args.divisors) = record { positive = g.met.D.Divisors.positive c.args.divisors; rises = g.met.D.Divisors.rises c.args.divisors } in
    sound_by_divisors (g.D.Divisors.divisor c.args.divisors) (g.D.Divisors.unit_of c.args.divisors) c.args.lot_rule d (g.met.D.Divisors.unit_from_one c.args.divisors) p.threshold p.base p.votes.now c.args.lot.now c.args.seats c.requires.some_seat c.requires.few_seats p.few_lists
