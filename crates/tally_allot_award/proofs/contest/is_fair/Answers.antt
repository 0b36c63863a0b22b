use Rattle.std.proofs.Common.{ℕ, ◌<◌, ◌≤◌, get_or, refl, sym, subst, below_more}
use Rattle.std.proofs.lemmas.Bool.{false≢true}
use Rattle.tally_allot_award.specs.internal.Terms.{placed_race}
use Rattle.tally_allot_award.proofs.Floors.{fair_if_each, not_won}
use Rattle.tally_allot_award.proofs.TermsRace.{within_from_fair}
use Rattle.tally_allot_award.proofs.contest.is_fair.Goals as goal
use Rattle.tally_allot_award.proofs.contest.is_fair.Goals.{else-seats-list-via-then-seats-list+else-not-is_last_fair, else-seats-list-via-else-seats-list}

pub returns-then-not-is_within : goal.returns-then-not-is_within
returns-then-not-is_within g c = (λ f. absurd (false≢true f), λ h. c.if-not-is_within.ensures.1 (within_from_fair (placed_race (g.C.Contest.terms c.args.contest.now)) _ c.args.seats.now h))

pub is_last_fair-requires-clause-within : goal.is_last_fair-requires-clause-within
is_last_fair-requires-clause-within g c = c.is_within.ensures.0 c.if-not-is_within.false

pub is_last_fair-requires-clause-wins : goal.is_last_fair-requires-clause-wins
is_last_fair-requires-clause-wins g c = subst (λ (n : ℕ). n < get_or c.args.seats.now c.loop-list.list 0) c.floor.ensures c.if-seats-list.true

pub returns-then-not-is_last_fair : goal.returns-then-not-is_last_fair
returns-then-not-is_last_fair g c =
    let wins = subst (λ (n : ℕ). n < get_or c.args.seats.now c.loop-list.list 0) c.floor.ensures c.if-seats-list.true in
    (λ f. absurd (false≢true f), λ h. c.if-not-is_last_fair.ensures.1 (λ m ne runs. h.last_not_below_next c.loop-list.list m ne wins runs))

pub loop-list-preserved : goal.loop-list-preserved
loop-list-preserved g c =
    let race = placed_race (g.C.Contest.terms c.args.contest.now) in
    elim c.else-seats-list.branch [
      | else-seats-list-via-then-seats-list+else-not-is_last_fair w ↦ below_more _ _ c.loop-list.invariant (λ _. w.is_last_fair.ensures.0 w.if-not-is_last_fair.false)
      | else-seats-list-via-else-seats-list w ↦ below_more _ _ c.loop-list.invariant (λ win. absurd (not_won race c.args.seats.now c.loop-list.list _ c.floor.ensures w.if-seats-list.false win))
    ]

pub returns : goal.returns
returns g c =
    let terms = g.C.Contest.terms c.args.contest.now in
    let within = c.is_within.ensures.0 c.if-not-is_within.false in
    let past = subst (λ (n : ℕ). n ≤ c.loop-list.list) c.count-list-end.ensures.count c.loop-list-test.false in
    (λ _. fair_if_each terms c.args.seats.now c.loop-list.list within (subst (λ (n : ℕ). n ≤ c.loop-list.list) (sym c.requires.one_each) past) c.loop-list.invariant, λ _. refl)
