use Rattle.std.proofs.Common.{◌∙◌, ◌≤◌, IsTrue, length, refl, sym, subst, arith}
use Rattle.std.proofs.lemmas.Bool.{false≢true}
use Rattle.tally_allot_award.specs.internal.KeptPoll.{kept_poll}
use Rattle.tally_law.specs.Poll.{IsEligible}
use Rattle.tally_allot_award.proofs.PollLemmas.{sound_under}
use Rattle.tally_allot.proofs.NextLemmas.{next_above, next_found}
use Rattle.tally_allot.proofs.next.is_next.Goals as goal

pub returns-then-not-has_next_above : goal.returns-then-not-has_next_above
returns-then-not-has_next_above g c =
    let rule = c.args.divisors.now in
    let above = next_above (g.D.Divisors.divisor rule) (g.D.Divisors.unit_of rule) (g.met.D.Divisors.unit_from_one rule) (kept_poll c.args.poll.now) c.args.held.now c.args.list in
    let eligible : IsEligible (kept_poll c.args.poll.now) c.loop-other.other = sym c.is_eligible-else-other-list.ensures ∙ c.if-not-is_eligible-2.false in (
      λ none. absurd (false≢true none),
      λ next. subst IsTrue c.if-not-has_next_above.true (c.has_next_above.ensures.1 (above next c.loop-other.other eligible c.if-other-list.false)),
    )

pub returns : goal.returns
returns g c =
    let rule = c.args.divisors.now in
    let p = c.args.poll.now in
    let eligible : IsEligible (kept_poll p) c.args.list = sym c.is_eligible.ensures ∙ c.if-not-is_eligible.false in
    let all : length p.votes.now ≤ c.loop-other.other = omega (arith, c.loop-other-test.false, c.requires.held.one_each) in (
      λ yes. next_found (g.D.Divisors.divisor rule) (g.D.Divisors.unit_of rule) (g.met.D.Divisors.unit_from_one rule) (kept_poll p) c.args.held.now c.args.list
          (sound_under p.threshold p.base p.votes.now) c.loop-other.other all eligible c.loop-other.invariant,
      λ next. refl,
    )
