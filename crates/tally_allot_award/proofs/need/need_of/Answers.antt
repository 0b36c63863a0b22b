use Rattle.std.proofs.Common.{ℕ, subst, sym, ◌∙◌}
use Rattle.std.proofs.lemmas.Bool.{false≢true}
use Rattle.tally_law.specs.LotNeed.{IsNeed}
use Rattle.tally_allot_award.specs.internal.Terms.{HaveVotes, IsClassOf, placed_race}
use Rattle.tally_allot_award.proofs.NeedInPlaces.{decided_without_last, decided_without_next, decided_if_above, need_unless_above, few_lists_of, last_is_pair, last_listed, listed_fits, listed_in, next_fits, next_is_pair, next_listed}
use Rattle.tally_allot_award.proofs.TermsRace.{within_from_fair}
use Rattle.tally_allot_award.proofs.need.need_of.Goals as goal

pub lowest_last-requires-clause-within : goal.lowest_last-requires-clause-within
lowest_last-requires-clause-within g c = within_from_fair (placed_race (g.C.Contest.terms c.args.contest.now)) _ c.args.seats.now c.requires.fair

pub highest_next-requires-clause-within : goal.highest_next-requires-clause-within
highest_next-requires-clause-within g c = within_from_fair (placed_race (g.C.Contest.terms c.args.contest.now)) _ c.args.seats.now c.requires.fair

pub offset_bounds-seats-last : goal.offset_bounds-seats-last
offset_bounds-seats-last g c = listed_fits (g.C.Contest.terms c.args.contest.now) c.requires.sound c.args.seats.now c.requires.fair c.in-Some.last (last_listed (g.C.Contest.terms c.args.contest.now) c.requires.sound c.args.seats.now c.requires.fair c.in-Some.last c.in-Some.ensures)

pub bounds-seats-last : goal.bounds-seats-last
bounds-seats-last g c = last_listed (g.C.Contest.terms c.args.contest.now) c.requires.sound c.args.seats.now c.requires.fair c.in-Some.last c.in-Some.ensures

pub offset_bounds-seats-next : goal.offset_bounds-seats-next
offset_bounds-seats-next g c = listed_fits (g.C.Contest.terms c.args.contest.now) c.requires.sound c.args.seats.now c.requires.fair c.in-Some-highest_next.next (next_listed (g.C.Contest.terms c.args.contest.now) c.requires.sound c.args.seats.now c.requires.fair c.in-Some-highest_next.next c.in-Some-highest_next.ensures)

pub bounds-seats-next : goal.bounds-seats-next
bounds-seats-next g c = next_listed (g.C.Contest.terms c.args.contest.now) c.requires.sound c.args.seats.now c.requires.fair c.in-Some-highest_next.next c.in-Some-highest_next.ensures

pub overflow_add-next_held : goal.overflow_add-next_held
overflow_add-next_held g c = next_fits (g.C.Contest.terms c.args.contest.now) c.requires.sound c.args.seats.now c.requires.fair c.in-Some-highest_next.next c.in-Some-highest_next.ensures

pub is_above_by_votes-requires-clause-list : goal.is_above_by_votes-requires-clause-list
is_above_by_votes-requires-clause-list g c = listed_in (g.C.Contest.terms c.args.contest.now) c.requires.sound c.args.seats.now c.requires.fair c.in-Some.last (last_listed (g.C.Contest.terms c.args.contest.now) c.requires.sound c.args.seats.now c.requires.fair c.in-Some.last c.in-Some.ensures)

pub is_above_by_votes-requires-clause-other : goal.is_above_by_votes-requires-clause-other
is_above_by_votes-requires-clause-other g c = listed_in (g.C.Contest.terms c.args.contest.now) c.requires.sound c.args.seats.now c.requires.fair c.in-Some-highest_next.next (next_listed (g.C.Contest.terms c.args.contest.now) c.requires.sound c.args.seats.now c.requires.fair c.in-Some-highest_next.next c.in-Some-highest_next.ensures)

pub is_above_by_votes-requires-clause-pair : goal.is_above_by_votes-requires-clause-pair
is_above_by_votes-requires-clause-pair g c = last_is_pair (g.C.Contest.terms c.args.contest.now) c.requires.sound c.args.seats.now c.requires.fair c.in-Some.last c.in-Some.ensures

pub is_above_by_votes-requires-clause-other_pair : goal.is_above_by_votes-requires-clause-other_pair
is_above_by_votes-requires-clause-other_pair g c = next_is_pair (g.C.Contest.terms c.args.contest.now) c.requires.sound c.args.seats.now c.requires.fair c.in-Some-highest_next.next c.in-Some-highest_next.ensures

pub votes-tied_votes-requires : goal.votes-tied_votes-requires
votes-tied_votes-requires g c = listed_in (g.C.Contest.terms c.args.contest.now) c.requires.sound c.args.seats.now c.requires.fair c.in-Some.last (last_listed (g.C.Contest.terms c.args.contest.now) c.requires.sound c.args.seats.now c.requires.fair c.in-Some.last c.in-Some.ensures)

pub returns-in_default : goal.returns-in_default
returns-in_default g c = decided_without_last (g.C.Contest.terms c.args.contest.now) c.requires.sound c.args.seats.now c.requires.fair c.in_default.ensures

pub returns-in_default-highest_next : goal.returns-in_default-highest_next
returns-in_default-highest_next g c = decided_without_next (g.C.Contest.terms c.args.contest.now) c.requires.sound c.args.seats.now c.requires.fair c.in_default-highest_next.ensures

pub returns-then-is_above_by_votes : goal.returns-then-is_above_by_votes
returns-then-is_above_by_votes g c =
    decided_if_above (g.C.Contest.terms c.args.contest.now) c.requires.sound c.args.seats.now c.requires.fair c.in-Some.last c.in-Some-highest_next.next c.in-Some.ensures c.in-Some-highest_next.ensures (c.is_above_by_votes.ensures.0 c.if-is_above_by_votes.true)

pub count_holding-requires : goal.count_holding-requires
count_holding-requires g c = few_lists_of (g.C.Contest.terms c.args.contest.now) c.requires.sound c.args.seats.now c.requires.fair

pub returns : goal.returns
returns g c =
    let terms = g.C.Contest.terms c.args.contest.now in
    let P : ℕ → Type 0 = λ votes. HaveVotes terms.poll votes c.lists_with-group.result in
    let class : IsClassOf terms.poll c.in-Some.last c.lists_with-group.result = subst P c.votes-tied_votes.ensures c.lists_with-group.ensures in
    let need = need_unless_above terms c.requires.sound c.args.seats.now c.requires.fair c.in-Some.last c.in-Some-highest_next.next c.in-Some.ensures c.in-Some-highest_next.ensures (λ above. false≢true (sym c.if-is_above_by_votes.false ∙ c.is_above_by_votes.ensures.1 above)) c.lists_with-group.result class in
    let Q : ℕ → Type 0 = λ n. IsNeed terms.rule terms.poll terms.seats c.lists_with-group.result n in
    subst Q (sym c.count_holding.ensures) need
