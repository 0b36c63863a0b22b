use Rattle.std.proofs.Common.{◌≡◌, ℕ, ◌+◌, List, Option, length, sym, subst, arith}
use Rattle.tally_allot_award.specs.internal.KeptPoll.{kept_poll}
use Rattle.tally_law.specs.Allotment.{divisors}
use Rattle.tally_law.specs.Poll.{Poll}
use Rattle.tally_allot.specs.internal.ShortSteps.{AreAnswers}
use Rattle.tally_allot.proofs.ShortLemmas.{answers_push}
use Rattle.tally_allot.proofs.short.numbers_of.Goals as goal

pub loop-list-preserved : goal.loop-list-preserved
loop-list-preserved g c =
    let p = c.args.poll.now in
    let poll : Poll = kept_poll p in
    λ lot_rule.
    let rule = divisors (g.D.Divisors.divisor c.args.divisors.now) (g.D.Divisors.unit_of c.args.divisors.now) lot_rule in
    let P : List (Option ℕ) → Type 0 = AreAnswers rule poll c.args.seats c.args.held.now (c.loop-list.list + 1) in
    subst P (sym c.in_ok-push.ensures.items) (answers_push rule poll c.args.seats c.args.held.now c.loop-list.list c.loop-list.numbers.items c.number_of.result (c.loop-list.invariant lot_rule) (c.number_of.ensures lot_rule))

pub returns : goal.returns
returns g c =
    let p = c.args.poll.now in
    let poll : Poll = kept_poll p in
    λ lot_rule.
    let rule = divisors (g.D.Divisors.divisor c.args.divisors.now) (g.D.Divisors.unit_of c.args.divisors.now) lot_rule in
    let e : c.loop-list.list ≡ length c.args.held.now = omega (arith, c.loop-list-test.false, c.loop-list.auto.list-end) in
    subst (λ n. AreAnswers rule poll c.args.seats c.args.held.now n c.loop-list.numbers.items) e (c.loop-list.invariant lot_rule)
