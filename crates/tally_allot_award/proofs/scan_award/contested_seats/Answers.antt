use Rattle.std.proofs.Common.{ℕ, ◌≤◌, List, sum, sym, ◌∙◌, subst}
use Rattle.std.proofs.lemmas.List.{with_items_is}
use Rattle.tally_allot_award.specs.internal.Race.{CanHold, IsFair}
use Rattle.tally_allot_award.specs.internal.Terms.{AreFairSeats, AreFairSoFar, placed_race}
use Rattle.tally_allot_award.proofs.Room.{left_is, room, sum_within}
use Rattle.tally_allot_award.proofs.scan_award.contested_seats.Goals as goal

pub total-certain-requires : goal.total-certain-requires
total-certain-requires g c = sum_within _ _ _ _ c.deref.ensures.value c.in_ok-seats.ensures.few c.requires.sound.few_seats

pub overflow_sub-seats : goal.overflow_sub-seats
overflow_sub-seats g c =
    subst (λ (n : ℕ). n ≤ c.seats.result) (sym c.total-certain.ensures) (subst (λ (n : ℕ). sum c.deref.result.now ≤ n) (sym c.seats.ensures) (subst (λ (a : List ℕ). sum a ≤ (g.C.Contest.terms c.args.contest.now).seats) (sym c.deref.ensures.value) c.in_ok-seats.ensures.few))

pub award-requires-clause-fair : goal.award-requires-clause-fair
award-requires-clause-fair g c =
    subst (λ (a : List ℕ). AreFairSoFar (g.C.Contest.terms c.args.contest.now) a) (sym c.deref_mut.ensures.value) c.in_ok-seats.ensures.fair

pub award-requires-clause-room : goal.award-requires-clause-room
award-requires-clause-room g c =
    let terms = g.C.Contest.terms c.args.contest.now in
    let e = c.requires.eligible in
    let q = left_is _ _ _ _ _ _ c.deref_mut.ensures.value c.deref.ensures.value c.seats.ensures c.total-certain.ensures c.in_ok-seats.ensures.few in
    subst (λ (n : ℕ). CanHold (placed_race terms) n) q (room terms c.requires.sound e.0 e.1)

pub returns : goal.returns
returns g c =
    let terms = g.C.Contest.terms c.args.contest.now in
    let is = with_items_is c.in_ok-seats.seats c.award.new.seats (c.award.auto.seats ∙ c.deref_mut.ensures.len) in
    let q = left_is _ _ _ _ _ _ c.deref_mut.ensures.value c.deref.ensures.value c.seats.ensures c.total-certain.ensures c.in_ok-seats.ensures.few in
    subst (λ (a : List ℕ). AreFairSeats terms a) (sym is) (subst (λ (n : ℕ). IsFair (placed_race terms) n c.award.new.seats) (sym q) c.award.ensures)
