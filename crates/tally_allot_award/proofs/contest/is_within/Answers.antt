use Rattle.std.proofs.Common.{ℕ, ◌≤◌, get_or, refl, subst, below_more}
use Rattle.std.proofs.lemmas.Bool.{false≢true}
use Rattle.tally_allot_award.specs.internal.Terms.{placed_race}
use Rattle.tally_allot_award.proofs.Floors.{within_if_each, not_low, not_high}
use Rattle.tally_allot_award.proofs.contest.is_within.Goals as goal
use Rattle.tally_allot_award.proofs.contest.is_within.Goals.{then-held-floor-via-then-held-floor, then-held-floor-via-else-held-floor+then-held-cap}

pub returns-then-held-floor : goal.returns-then-held-floor
returns-then-held-floor g c =
    let race = placed_race (g.C.Contest.terms c.args.contest.now) in
    elim c.then-held-floor.branch [
      | then-held-floor-via-then-held-floor w ↦ (λ f. absurd (false≢true f), λ h. absurd (not_low race c.args.seats.now h c.loop-list.list _ c.floor.ensures w.if-held-floor.true))
      | then-held-floor-via-else-held-floor+then-held-cap w ↦ (λ f. absurd (false≢true f), λ h. absurd (not_high race c.args.seats.now h c.loop-list.list _ w.cap.ensures w.if-held-cap.true))
    ]

pub loop-list-preserved : goal.loop-list-preserved
loop-list-preserved g c =
    let held = get_or c.args.seats.now c.loop-list.list 0 in
    below_more _ _ c.loop-list.invariant (subst (λ (n : ℕ). n ≤ held) c.floor.ensures c.if-held-floor.false, subst (λ (n : ℕ). held ≤ n) c.cap.ensures c.if-held-cap.false)

pub returns : goal.returns
returns g c =
    let terms = g.C.Contest.terms c.args.contest.now in
    (λ _. within_if_each terms c.requires.sound c.args.seats.now c.loop-list.list c.requires.one_each (subst (λ (n : ℕ). n ≤ c.loop-list.list) c.count-list-end.ensures.count c.loop-list-test.false) c.loop-list.invariant, λ _. refl)
