use Rattle.std.proofs.Common.{◌≡◌, ℕ, ◌+◌, ◌-◌, ◌*◌, ◌<◌, ◌≤◌, List, length, get_or, sum, Fits, w32, w64, inl, inr, sym, ◌∙◌, subst, arith}
use Rattle.std.proofs.lemmas.Bool.{false≢true}
use Rattle.tally_frac.specs.Limits.{greatest_divisor, last_divisor, most_seats}
use Rattle.tally_setup.specs.declared.profile.LotRule.TheVariants.{Fixed}
use Rattle.tally_allot_award.specs.internal.KeptPoll.{kept_poll}
use Rattle.tally_law.specs.Allotment.{divisors}
use Rattle.tally_law.specs.Poll.{Poll, IsEligible}
use Rattle.tally_allot_award.specs.internal.Terms.{AreDivisors}
use Rattle.tally_allot_award.proofs.PollLemmas.{sound_under}
use Rattle.tally_allot_award.proofs.Vectors.{get_or-le-sum}
use Rattle.tally_allot.specs.internal.ShortSteps.{IsLowestOther, IsNumberOf}
use Rattle.tally_allot.proofs.ShortLemmas.{other_holds, more_is, number_is, fewest_same}
use Rattle.tally_allot.proofs.short.number_of.Goals as goal
use Rattle.tally_allot.proofs.short.number_of.Goals.{then-not-is_eligible-via-then-not-is_eligible, then-not-is_eligible-via-else-not-is_eligible+then-held-list}

one-le : (k : ℕ) → 1 ≤ k + 1
one-le k = omega arith

listed : (l n m : ℕ) → n ≡ m → l < n → l < m
listed l n m e lt = omega arith

place_fits : (l n : ℕ) → l < n → n ≤ 60 → Fits w64 (l * 4)
place_fits l n lt few = omega arith

module _ (a : List ℕ) (seats : ℕ) (whole : sum a ≡ seats) (few : seats ≤ most_seats) where
  few_each : (l : ℕ) → get_or a l 0 ≤ most_seats
  few_each l = omega (arith, get_or-le-sum a l)

  few_now : (l : ℕ) → get_or a l 0 ≤ last_divisor
  few_now l = omega (arith, few_each l)

  next_few : (l : ℕ) → get_or a l 0 + 1 ≤ last_divisor
  next_few l = omega (arith, few_each l)

  next_fits : (l : ℕ) → Fits w32 (get_or a l 0 + 1)
  next_fits l = omega (arith, few_each l)

pub unreachable-requires : goal.unreachable-requires
unreachable-requires g c =
    let p = c.args.poll.now in
    let nth = g.D.Divisors.divisor c.args.divisors.now in
    let d : AreDivisors (g.D.Divisors.divisor c.args.divisors.now) = record { positive = g.met.D.Divisors.positive c.args.divisors.now; rises = g.met.D.Divisors.rises c.args.divisors.now } in
    let poll : Poll = kept_poll p in
    let a = c.args.held.now in
    let m = c.args.list in
    let not_all : get_or c.args.held.now c.args.list 0 < c.args.seats = omega (arith, get_or-le-sum a m, c.requires.allotment.shares.whole, c.if-held-list.false) in
    other_holds nth d poll a m c.args.seats c.requires.allotment not_all (subst (IsLowestOther (g.D.Divisors.divisor c.args.divisors.now) (kept_poll c.args.poll.now) a m (length a)) c.in_default.is c.lowest_other.ensures)

pub overflow_sub-result : goal.overflow_sub-result
overflow_sub-result g c =
    let p = c.args.poll.now in
    let nth = g.D.Divisors.divisor c.args.divisors.now in
    let d : AreDivisors (g.D.Divisors.divisor c.args.divisors.now) = record { positive = g.met.D.Divisors.positive c.args.divisors.now; rises = g.met.D.Divisors.rises c.args.divisors.now } in
    let poll : Poll = kept_poll p in
    let a = c.args.held.now in
    let m = c.args.list in
    let s = sound_under p.threshold p.base p.votes.now in
    let em : IsEligible (kept_poll c.args.poll.now) c.args.list = sym c.is_eligible.ensures ∙ c.if-not-is_eligible.false in
    let other = c.in-Some.other in
    let y = c.fewest_above-enough.result in
    let r = subst (IsLowestOther (g.D.Divisors.divisor c.args.divisors.now) (kept_poll c.args.poll.now) a m (length a)) c.in-Some.is c.lowest_other.ensures in
    let f = fewest_same y c.nth.ensures c.votes_of.ensures.votes c.nth-2.ensures c.fewest_above-enough.ensures in
    omega (arith, more_is nth d poll a m (g.D.Divisors.unit_of c.args.divisors.now) (g.met.D.Divisors.unit_from_one c.args.divisors.now) Fixed s c.args.seats c.requires.allotment em other r y f, c.votes_of-2.ensures.votes)

pub returns : goal.returns
returns g c =
    let p = c.args.poll.now in
    let nth = g.D.Divisors.divisor c.args.divisors.now in
    let d : AreDivisors (g.D.Divisors.divisor c.args.divisors.now) = record { positive = g.met.D.Divisors.positive c.args.divisors.now; rises = g.met.D.Divisors.rises c.args.divisors.now } in
    let poll : Poll = kept_poll p in
    let a = c.args.held.now in
    let m = c.args.list in
    let s = sound_under p.threshold p.base p.votes.now in
    let em : IsEligible (kept_poll c.args.poll.now) c.args.list = sym c.is_eligible.ensures ∙ c.if-not-is_eligible.false in
    let other = c.in-Some.other in
    let y = c.fewest_above-enough.result in
    let r = subst (IsLowestOther (g.D.Divisors.divisor c.args.divisors.now) (kept_poll c.args.poll.now) a m (length a)) c.in-Some.is c.lowest_other.ensures in
    let f = fewest_same y c.nth.ensures c.votes_of.ensures.votes c.nth-2.ensures c.fewest_above-enough.ensures in
    let not_all : get_or c.args.held.now c.args.list 0 < c.args.seats = omega (arith, get_or-le-sum a m, c.requires.allotment.shares.whole, c.if-held-list.false) in
    λ lot_rule.
    let number = number_is nth d poll a m (g.D.Divisors.unit_of c.args.divisors.now) (g.met.D.Divisors.unit_from_one c.args.divisors.now) lot_rule s c.args.seats c.requires.allotment em other r y f not_all c.requires.slowly (λ l. omega (arith, get_or-le-sum p.votes.now l, p.few_votes)) in
    subst (λ v. IsNumberOf (divisors (g.D.Divisors.divisor c.args.divisors.now) (g.D.Divisors.unit_of c.args.divisors.now) lot_rule) (kept_poll c.args.poll.now) c.args.seats c.args.held.now c.args.list (c.fewest_above-enough.result - v)) (sym c.votes_of-2.ensures.votes) number

pub is_eligible-requires : goal.is_eligible-requires
is_eligible-requires g c = listed _ _ _ c.requires.allotment.shares.one_each c.requires.list

pub offset_bounds-held-list : goal.offset_bounds-held-list
offset_bounds-held-list g c = place_fits _ _ (listed _ _ _ c.requires.allotment.shares.one_each c.requires.list) c.args.poll.now.few_lists

pub bounds-held-list : goal.bounds-held-list
bounds-held-list g c = c.requires.list

pub lowest_other-requires-clause-few_seats : goal.lowest_other-requires-clause-few_seats
lowest_other-requires-clause-few_seats g c = few_each c.args.held.now c.args.seats c.requires.allotment.shares.whole c.requires.few_seats

pub lowest_other-requires-clause-one_each : goal.lowest_other-requires-clause-one_each
lowest_other-requires-clause-one_each g c = c.requires.allotment.shares.one_each

pub offset_bounds-held-list-2 : goal.offset_bounds-held-list-2
offset_bounds-held-list-2 g c = place_fits _ _ (listed _ _ _ c.requires.allotment.shares.one_each c.requires.list) c.args.poll.now.few_lists

pub bounds-held-list-2 : goal.bounds-held-list-2
bounds-held-list-2 g c = c.requires.list

pub overflow_add-held : goal.overflow_add-held
overflow_add-held g c = next_fits c.args.held.now c.args.seats c.requires.allotment.shares.whole c.requires.few_seats c.args.list

pub nth-requires-clause-last : goal.nth-requires-clause-last
nth-requires-clause-last g c = next_few c.args.held.now c.args.seats c.requires.allotment.shares.whole c.requires.few_seats c.args.list

pub votes_of-requires : goal.votes_of-requires
votes_of-requires g c =
    let r = subst (IsLowestOther (g.D.Divisors.divisor c.args.divisors.now) (kept_poll c.args.poll.now) c.args.held.now c.args.list (length c.args.held.now)) c.in-Some.is c.lowest_other.ensures in
    r.0

pub offset_bounds-held-other : goal.offset_bounds-held-other
offset_bounds-held-other g c =
    let r = subst (IsLowestOther (g.D.Divisors.divisor c.args.divisors.now) (kept_poll c.args.poll.now) c.args.held.now c.args.list (length c.args.held.now)) c.in-Some.is c.lowest_other.ensures in
    place_fits _ _ r.0 c.args.poll.now.few_lists

pub bounds-held-other : goal.bounds-held-other
bounds-held-other g c =
    let r = subst (IsLowestOther (g.D.Divisors.divisor c.args.divisors.now) (kept_poll c.args.poll.now) c.args.held.now c.args.list (length c.args.held.now)) c.in-Some.is c.lowest_other.ensures in
    listed _ _ _ (sym c.requires.allotment.shares.one_each) r.0

pub nth-requires-2-clause-first : goal.nth-requires-2-clause-first
nth-requires-2-clause-first g c =
    let r = subst (IsLowestOther (g.D.Divisors.divisor c.args.divisors.now) (kept_poll c.args.poll.now) c.args.held.now c.args.list (length c.args.held.now)) c.in-Some.is c.lowest_other.ensures in
    r.2

pub nth-requires-2-clause-last : goal.nth-requires-2-clause-last
nth-requires-2-clause-last g c = few_now c.args.held.now c.args.seats c.requires.allotment.shares.whole c.requires.few_seats _

pub fewest_above-enough-requires-clause-divisor : goal.fewest_above-enough-requires-clause-divisor
fewest_above-enough-requires-clause-divisor g c =
    let held = get_or c.args.held.now c.args.list 0 in
    subst (λ (n : ℕ). n ≤ greatest_divisor) (sym c.nth.ensures) (g.met.D.Divisors.at_most c.args.divisors.now (held + 1) (one-le held) (next_few c.args.held.now c.args.seats c.requires.allotment.shares.whole c.requires.few_seats c.args.list))

pub fewest_above-enough-requires-clause-other_votes : goal.fewest_above-enough-requires-clause-other_votes
fewest_above-enough-requires-clause-other_votes g c = c.votes_of.ensures.few

pub fewest_above-enough-requires-clause-other_divisor : goal.fewest_above-enough-requires-clause-other_divisor
fewest_above-enough-requires-clause-other_divisor g c =
    let r = subst (IsLowestOther (g.D.Divisors.divisor c.args.divisors.now) (kept_poll c.args.poll.now) c.args.held.now c.args.list (length c.args.held.now)) c.in-Some.is c.lowest_other.ensures in
    subst (λ (n : ℕ). 1 ≤ n) (sym c.nth-2.ensures) (g.met.D.Divisors.positive c.args.divisors.now _ r.2)

pub votes_of-requires-2 : goal.votes_of-requires-2
votes_of-requires-2 g c = listed _ _ _ c.requires.allotment.shares.one_each c.requires.list

pub returns-then-not-is_eligible : goal.returns-then-not-is_eligible
returns-then-not-is_eligible g c =
    elim c.then-not-is_eligible.branch [
      | then-not-is_eligible-via-then-not-is_eligible w ↦ λ _. inl (λ e. false≢true (sym w.if-not-is_eligible.true ∙ c.is_eligible.ensures ∙ e))
      | then-not-is_eligible-via-else-not-is_eligible+then-held-list w ↦ λ _. inr w.if-held-list.true
    ]
