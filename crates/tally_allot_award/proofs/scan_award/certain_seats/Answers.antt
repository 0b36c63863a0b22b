use Rattle.std.proofs.Common.{ℕ, ◌+◌, ◌<◌, ◌∙◌, ap, sym, subst}
use Rattle.tally_allot_award.specs.internal.Terms.{placed_race}
use Rattle.tally_allot_award.proofs.Floors.{at_end, floors_fair, pushed_floor}
use Rattle.tally_allot_award.proofs.Room.{floors_sum}
use Rattle.tally_allot_award.proofs.scan_award.certain_seats.Goals as goal

pub loop-list-preserved : goal.loop-list-preserved
loop-list-preserved g c =
    let terms = g.C.Contest.terms c.args.contest.now in
    let i = c.loop-list.invariant in
    record {
      long = c.in_ok-push.ensures.len ∙ ap (λ n. n + 1) i.long;
      each = pushed_floor (placed_race terms).floor c.loop-list.seats.items _ c.loop-list.list _ (sym c.loop-list.seats.ok.0 ∙ i.long) i.each c.floor.ensures c.in_ok-push.ensures.items;
    }

pub returns-clause-fair : goal.returns-clause-fair
returns-clause-fair g c =
    let all = at_end _ _ _ c.loop-list-test.false c.loop-list.auto.list-end c.count-list-end.ensures.count in
    floors_fair (g.C.Contest.terms c.args.contest.now) c.requires.sound c.loop-list.seats.items c.loop-list.list (sym c.loop-list.seats.ok.0 ∙ c.loop-list.invariant.long) all c.loop-list.invariant.each

pub returns-clause-few : goal.returns-clause-few
returns-clause-few g c =
    let e = c.requires.eligible in
    let all = at_end _ _ _ c.loop-list-test.false c.loop-list.auto.list-end c.count-list-end.ensures.count in
    let long = sym c.loop-list.seats.ok.0 ∙ c.loop-list.invariant.long in
    floors_sum (g.C.Contest.terms c.args.contest.now) c.requires.sound e.0 e.1 c.loop-list.seats.items (long ∙ all) (λ k lt. c.loop-list.invariant.each k (subst (λ (n : ℕ). k < n) long lt))
