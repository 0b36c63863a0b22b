use Rattle.std.proofs.Common.{◌≡◌, length, sym, subst}
use Rattle.tally_allot_award.specs.internal.KeptPoll.{kept_poll}
use Rattle.tally_law.specs.Allotment.{divisors}
use Rattle.tally_law.specs.Poll.{Poll}
use Rattle.tally_allot_award.specs.internal.Terms.{AreDivisors}
use Rattle.tally_allot_award.proofs.PollLemmas.{sound_under}
use Rattle.tally_allot_award.proofs.DivisorRace.{by_votes_from_allotment}
use Rattle.tally_allot.specs.internal.ShortSteps.{AreAnswers, IsByVotes}
use Rattle.tally_allot.proofs.ShortLemmas.{without_unit}
use Rattle.tally_allot.proofs.short.short_by.Goals as goal

pub numbers_of-requires-clause-allotment : goal.numbers_of-requires-clause-allotment
numbers_of-requires-clause-allotment g c =
    let p = c.args.poll.now in
    let poll : Poll = kept_poll p in
    let nth = g.D.Divisors.divisor c.args.divisors in
    let unit = g.D.Divisors.unit_of c.args.divisors in
    let some_unit = g.met.D.Divisors.unit_from_one c.args.divisors in
    let d : AreDivisors (g.D.Divisors.divisor c.args.divisors) = record { positive = g.met.D.Divisors.positive c.args.divisors; rises = g.met.D.Divisors.rises c.args.divisors } in
    let held = c.in_ok-held.held.items in
    let by_votes = by_votes_from_allotment nth d poll (sound_under p.threshold p.base p.votes.now) c.args.seats unit some_unit c.args.lot_rule c.args.lot.now c.args.seats held c.in_ok-held.ensures.allotment in
    subst (IsByVotes nth poll c.args.seats) (sym c.deref.ensures.value) (without_unit unit some_unit nth poll c.args.seats held by_votes)

pub returns-clause-numbers : goal.returns-clause-numbers
returns-clause-numbers g c =
    let p = c.args.poll.now in
    let poll : Poll = kept_poll p in
    let rule = divisors (g.D.Divisors.divisor c.args.divisors) (g.D.Divisors.unit_of c.args.divisors) c.args.lot_rule in
    let held = c.in_ok-held.held.items in
    let answers : AreAnswers rule poll c.args.seats held (length held) c.in_ok-numbers.numbers.items = subst (λ a. AreAnswers rule poll c.args.seats a (length a) c.in_ok-numbers.numbers.items) c.deref.ensures.value (c.in_ok-numbers.ensures c.args.lot_rule) in
    let e : length held ≡ length p.votes.now = c.in_ok-held.ensures.allotment.shares.one_each in
    (held, c.in_ok-held.ensures.allotment, subst (λ n. AreAnswers rule poll c.args.seats held n c.in_ok-numbers.numbers.items) e answers)
