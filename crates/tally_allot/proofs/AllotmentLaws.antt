-- The laws of the allotment.
use Rattle.std.proofs.Common.{◌≡◌, ℕ, ◌+◌, ◌-◌, ◌%◌, ◌<◌, ◌≤◌, ◌≢◌, ◌⊎◌, ◌↔◌, List, [], Bool, true, false, length, get_or, sum, refl, sym, ap, ◌∙◌, subst, inl, inr, arith, map}
use Rattle.std.specs.List.{range_with_len}
use Rattle.std.proofs.lemmas.Bool.{cases_lt, cases_eq}
use Rattle.std.proofs.lemmas.List.{get_or_past, length-map}
use Rattle.std.proofs.lemmas.List.FromFn.{get_or-map-range_with_len, length-range_with_len}
use Rattle.tally_law.specs.Poll.{Poll, IsEligible, votes_of}
use Rattle.tally_setup.specs.declared.profile.LotRule.{LotRule}
use Rattle.tally_setup.specs.declared.profile.LotRule.TheVariants.{Fixed, Alternating}
use Rattle.tally_law.specs.Lot.{place_of, is_named, IsTurned, ComesFirst, IsOrderOf}
use Rattle.tally_law.specs.Allotment.{Rule, IsAllotment, IsAllotmentByVotes}
use Rattle.tally_law.specs.Poll.{HasEligible}
use Rattle.tally_law.specs.LotNeed.{IsNeed, IsInGroup}
use Rattle.tally_allot_award.specs.internal.Race.{IsFair, IsTie, CanHold}
use Rattle.tally_allot_award.specs.internal.Sums.{sum_before}
use Rattle.tally_allot_award.specs.internal.Terms.{Terms, IsRule, IsSound, IsProperLot, lot_rule_of, vote_race, placed_race}
use Rattle.tally_allot_award.proofs.AwardStep.{further}
use Rattle.tally_allot_award.proofs.Sums.{sum-is, sum_before-same}
use Rattle.tally_allot_award.proofs.Ties.{IsMoved, loses, gains, moved, tie_alike, class_differs, ties_are_one}
use Rattle.tally_allot_award.proofs.DivisorRace.{eligible_or_not}
use Rattle.tally_allot_award.proofs.TermsRace.{AreRaces, are_races, from_placed, within_placed}
use Rattle.tally_allot_award.proofs.Room.{room_of, floors_of}
use Rattle.tally_allot.proofs.OrderOfChoice.{order_before, in_order, order_of_group, first_placed}
use Rattle.tally_allot.proofs.LotLaws.{group_is_class, named_if_marked, some_in_group}

abbrev terms_of : Rule → Poll → List ℕ → ℕ → Terms
terms_of rule poll lot seats = record { rule = rule; poll = poll; lot = lot; seats = seats }

-- one number for each list
abbrev each_of : (ℕ → ℕ) → ℕ → List ℕ
each_of f n = map f (range_with_len 0 n)

length-each_of : (f : ℕ → ℕ) (n : ℕ) → length (each_of f n) ≡ n
length-each_of f n = length-map (range_with_len 0 n) f ∙ length-range_with_len 0 n

at-each_of : (f : ℕ → ℕ) (n l : ℕ) → l < n → get_or (each_of f n) l 0 ≡ f l
at-each_of f n l lt = get_or-map-range_with_len f 0 n l l 0 lt (omega arith)

module _ (terms : Terms) (r : AreRaces terms) (s : IsSound terms.poll) where
  floor_le_cap : (l : ℕ) → (placed_race terms).floor l ≤ (placed_race terms).cap l
  floor_le_cap l = by_test (eligible_or_not terms.poll l)
    where
      by_test : IsEligible terms.poll l ⊎ ¬ IsEligible terms.poll l → (placed_race terms).floor l ≤ (placed_race terms).cap l
      by_test (inl e) = omega (arith, r.runs_if_eligible l e, r.same_floor l, r.same_cap l)
      by_test (inr ne) = omega (arith, r.ineligible l ne, r.same_floor l)

  floor_past : (l : ℕ) → length terms.poll.votes ≤ l → (placed_race terms).floor l ≡ 0
  floor_past l ge = omega (arith, r.ineligible l (λ e. absurd (omega (arith, s.listed l e))), r.same_floor l)

  start_at : (l : ℕ) → get_or (each_of (placed_race terms).floor (length terms.poll.votes)) l 0 ≡ (placed_race terms).floor l
  start_at l = by_cases (cases_lt l (length terms.poll.votes))
    where
      by_cases : (l < length terms.poll.votes) ⊎ (length terms.poll.votes ≤ l) → get_or (each_of (placed_race terms).floor (length terms.poll.votes)) l 0 ≡ (placed_race terms).floor l
      by_cases (inl lt) = at-each_of (placed_race terms).floor (length terms.poll.votes) l lt
      by_cases (inr ge) = omega (arith, get_or_past (each_of (placed_race terms).floor (length terms.poll.votes)) l 0 (omega (arith, length-each_of (placed_race terms).floor (length terms.poll.votes))), floor_past l ge)

  -- what each list holds in any case is a vector that the race allows
  start_fair : IsFair (placed_race terms) (sum (each_of (placed_race terms).floor (length terms.poll.votes))) (each_of (placed_race terms).floor (length terms.poll.votes))
  start_fair =
      record {
        one_each = omega (arith, length-each_of (placed_race terms).floor (length terms.poll.votes), r.same_count, r.count_is);
        low = λ l. omega (arith, start_at l);
        high = λ l. omega (arith, start_at l, floor_le_cap l);
        total = refl;
        last_not_below_next = λ l m ne win room. absurd (omega (arith, start_at l));
      }

  start_sum : sum (each_of (placed_race terms).floor (length terms.poll.votes)) ≡ sum_before (placed_race terms).floor (length terms.poll.votes)
  start_sum =
      let long = length-each_of (placed_race terms).floor (length terms.poll.votes) in
      let e : sum_before (placed_race terms).floor (length (each_of (placed_race terms).floor (length terms.poll.votes))) ≡ sum_before (placed_race terms).floor (length terms.poll.votes) = ap (sum_before (placed_race terms).floor) long in
      sum-is (each_of (placed_race terms).floor (length terms.poll.votes)) ∙ sum_before-same _ (placed_race terms).floor _ (λ i _. start_at i) ∙ e

  exists_fair : (seats : ℕ) → sum_before (placed_race terms).floor (length terms.poll.votes) ≤ seats → CanHold (placed_race terms) seats → (a : List ℕ) × IsFair (placed_race terms) seats a
  exists_fair seats few room =
      let start = each_of (placed_race terms).floor (length terms.poll.votes) in
      let start_few : sum start ≤ seats = omega (arith, start_sum, few) in
      let more = further (placed_race terms) r.placed (within_placed terms r) (sum start) start room.0 start_fair room.2 room.1 (seats - sum start) (omega (arith, room.3)) in
      let whole : sum start + (seats - sum start) ≡ seats = omega arith in
      let P : ℕ → Type 0 = λ k. IsFair (placed_race terms) k more.0 in
      (more.0, subst P whole more.1)

pub exists : (rule : Rule) (poll : Poll) (lot : List ℕ) (seats : ℕ) → IsRule rule → IsSound poll → 1 ≤ seats → HasEligible poll → IsProperLot poll lot → (a : List ℕ) × IsAllotment rule poll lot seats a
exists rule poll lot seats d s some e proper =
    let r = are_races rule poll lot seats d s some in
    let w = exists_fair (terms_of rule poll lot seats) r s seats (floors_of rule poll lot seats e.0 s e.1) (room_of rule poll lot seats e.0 s e.1) in
    (w.0, from_placed (terms_of rule poll lot seats) r proper w.0 w.1)

pub by_votes : (rule : Rule) (poll : Poll) (lot : List ℕ) (seats : ℕ) (a : List ℕ) → IsRule rule → IsSound poll → 1 ≤ seats → IsAllotment rule poll lot seats a → IsAllotmentByVotes rule poll seats a
by_votes rule poll lot seats a d s some w = (are_races rule poll lot seats d s some).to_by_votes a w

-- where the seats of two lists differ between allotments by the votes
-- alone, the lists have equal votes
module _ (terms : Terms) (r : AreRaces terms) where
  abbrev pub Moved : List ℕ → List ℕ → ℕ → Type 0
  Moved a b l = IsMoved (vote_race terms) r.by_votes r.within (votes_of terms.poll) r.classes a b l

  pub move_of : (a b : List ℕ) → IsAllotmentByVotes terms.rule terms.poll terms.seats a → IsAllotmentByVotes terms.rule terms.poll terms.seats b → (l : ℕ) → get_or b l 0 ≢ get_or a l 0 → Moved a b l
  move_of a b wa wb l ne = moved (vote_race terms) r.by_votes r.within (votes_of terms.poll) r.classes terms.seats a b l (r.to_fair a wa) (r.to_fair b wb) ne

  -- of a list that moves: eligible, and with the votes of each tie
  moved_votes : (a b : List ℕ) → IsAllotmentByVotes terms.rule terms.poll terms.seats a → (l x y : ℕ) → IsTie (vote_race terms) a x y → Moved a b l → IsEligible terms.poll l × (votes_of terms.poll l ≡ votes_of terms.poll x)
  moved_votes a b wa l x y t (loses z _ u) =
      let f = r.to_fair a wa in
      (r.eligible_if_runs l ((vote_race terms).floor l) (omega (arith, f.high l, u.wins)), (ties_are_one (vote_race terms) r.by_votes r.within (votes_of terms.poll) r.classes terms.seats a x y l z f t u).0)
  moved_votes a b wa l x y t (gains z _ u) =
      let f = r.to_fair a wa in
      let alike = tie_alike (vote_race terms) r.by_votes r.within (votes_of terms.poll) r.classes terms.seats a z l f u in
      (r.eligible_if_runs l (get_or a l 0) u.runs, sym alike.0 ∙ (ties_are_one (vote_race terms) r.by_votes r.within (votes_of terms.poll) r.classes terms.seats a x y z l f t u).0)

  pub tie_of : (a b : List ℕ) (l : ℕ) → Moved a b l → (x : ℕ) × (y : ℕ) × IsTie (vote_race terms) a x y
  tie_of a b l (loses y _ t) = (l, y, t)
  tie_of a b l (gains y _ t) = (y, l, t)

  -- a list whose seats differ anywhere moves from a too
  pub moves_from : (a : List ℕ) → IsAllotmentByVotes terms.rule terms.poll terms.seats a → (l : ℕ) → IsInGroup terms.rule terms.poll terms.seats l → (b : List ℕ) × Moved a b l
  moves_from a wa l w = by_cases (cases_eq (get_or w.0 l 0) (get_or a l 0))
    where
      by_cases : (get_or w.0 l 0 ≡ get_or a l 0) ⊎ (get_or w.0 l 0 ≡ get_or a l 0 → ⊥) → (b : List ℕ) × Moved a b l
      by_cases (inl e) = (w.1, move_of a w.1 wa w.3 l (λ e'. w.4 (e ∙ sym e')))
      by_cases (inr ne) = (w.0, move_of a w.0 wa w.2 l ne)

module _ (terms : Terms) (r : AreRaces terms) (group : List Bool) (in_question : ℕ) (need : IsNeed terms.rule terms.poll terms.seats group in_question) where
  in_class : (a : List ℕ) → IsAllotmentByVotes terms.rule terms.poll terms.seats a → (x y k : ℕ) → IsTie (vote_race terms) a x y → votes_of terms.poll k ≡ votes_of terms.poll x → (l : ℕ) → get_or group l false ≡ true → IsEligible terms.poll l × (votes_of terms.poll l ≡ votes_of terms.poll k)
  in_class a wa x y k t same l marked =
      let b = moves_from terms r a wa l ((need.group_is l).0 marked) in
      let v = moved_votes terms r a b.0 wa l x y t b.1 in
      (v.0, v.1 ∙ sym same)

  group_votes : (l : ℕ) × IsEligible terms.poll l × ((m : ℕ) → (get_or group m false ≡ true) ↔ (IsEligible terms.poll m × (votes_of terms.poll m ≡ votes_of terms.poll l)))
  group_votes =
      let some_list = some_in_group terms r group in_question need in
      let w = (need.group_is some_list.0).0 some_list.1 in
      let m = move_of terms r w.0 w.1 w.2 w.3 some_list.0 (λ e. w.4 (sym e)) in
      let t = tie_of terms r w.0 w.1 some_list.0 m in
      let v = moved_votes terms r w.0 w.1 w.2 some_list.0 t.0 t.1 t.2 m in
      (some_list.0, v.0, λ l. (in_class w.0 w.2 t.0 t.1 some_list.0 t.2 v.1 l, λ e. group_is_class terms r group in_question need some_list.0 l e.0 (sym e.1) some_list.1))

pub group_of_votes : (rule : Rule) (poll : Poll) (seats : ℕ) (group : List Bool) (in_question : ℕ) → IsRule rule → IsSound poll → 1 ≤ seats → IsNeed rule poll seats group in_question → (l : ℕ) × IsEligible poll l × ((m : ℕ) → (get_or group m false ≡ true) ↔ (IsEligible poll m × (votes_of poll m ≡ votes_of poll l)))
group_of_votes rule poll seats group in_question d s some need = group_votes (terms_of rule poll [] seats) (are_races rule poll [] seats d s some) group in_question need

-- Each allotment by the votes alone comes from an order of the group,
-- at a tie of its: lists x and y.
module _ (terms : Terms) (r : AreRaces terms) (group : List Bool) (in_question : ℕ) (need : IsNeed terms.rule terms.poll terms.seats group in_question) (a : List ℕ) (wa : IsAllotmentByVotes terms.rule terms.poll terms.seats a) (x y : ℕ) (t : IsTie (vote_race terms) a x y) where
  fa : IsFair (vote_race terms) terms.seats a
  fa = r.to_fair a wa

  -- both lists of a tie are in the group, and hold the seat in question and one less
  tied_in_group : (l m : ℕ) → IsTie (vote_race terms) a l m → (get_or group l false ≡ true) × (get_or group m false ≡ true) × (get_or a l 0 ≡ get_or a x 0) × (get_or a m 0 + 1 ≡ get_or a x 0)
  tied_in_group l m u =
      let one = ties_are_one (vote_race terms) r.by_votes r.within (votes_of terms.poll) r.classes terms.seats a x y l m fa t u in
      let alike = tie_alike (vote_race terms) r.by_votes r.within (votes_of terms.poll) r.classes terms.seats a l m fa u in
      let el : IsEligible terms.poll l = r.eligible_if_runs l ((vote_race terms).floor l) (omega (arith, fa.high l, u.wins)) in
      let em : IsEligible terms.poll m = r.eligible_if_runs m (get_or a m 0) u.runs in
      let dl = class_differs (vote_race terms) r.by_votes r.within (votes_of terms.poll) r.classes terms.seats a l m l fa u (r.runs_if_eligible l el) refl in
      let ml : get_or group l false ≡ true = (need.group_is l).1 (dl.0, a, r.from_fair dl.0 dl.1, wa, dl.2) in
      (ml, group_is_class terms r group in_question need l m em alike.0 ml, one.1, omega (arith, alike.1, one.1))

  -- a lot under which those that hold the seat in question come first gives these seats
  choice_is : ((l m : ℕ) → get_or group l false ≡ true → get_or group m false ≡ true → get_or a l 0 ≡ get_or a x 0 → get_or a m 0 + 1 ≡ get_or a x 0 → ComesFirst (lot_rule_of terms.rule) terms.lot l m (get_or a x 0)) → IsAllotment terms.rule terms.poll terms.lot terms.seats a
  choice_is first = r.from_choice a fa choice
    where
      choice : (l m : ℕ) → IsTie (vote_race terms) a l m → ComesFirst (lot_rule_of terms.rule) terms.lot l m (get_or a l 0)
      choice l m u =
          let g = tied_in_group l m u in
          let P : ℕ → Type 0 = λ k. ComesFirst (lot_rule_of terms.rule) terms.lot l m k in
          subst P (sym g.2) (first l m g.0 g.1 g.2 g.3)

-- whether a lot of this rule, in which both lists are named, is turned round at the k-th seat
turned_at : (lot_rule : LotRule) (k : ℕ) → ((lot : List ℕ) (l m : ℕ) → is_named lot l ≡ true → is_named lot m ≡ true → IsTurned lot_rule lot l m k) ⊎ ((lot : List ℕ) (l m : ℕ) → ¬ IsTurned lot_rule lot l m k)
turned_at Fixed k = inr (λ lot l m t. t)
turned_at Alternating k = by_test (cases_eq (k % 2) 0)
  where
    by_test : (k % 2 ≡ 0) ⊎ (k % 2 ≡ 0 → ⊥) → ((lot : List ℕ) (l m : ℕ) → is_named lot l ≡ true → is_named lot m ≡ true → IsTurned Alternating lot l m k) ⊎ ((lot : List ℕ) (l m : ℕ) → ¬ IsTurned Alternating lot l m k)
    by_test (inl even) = inl (λ lot l m nl nm. (nl, nm, even))
    by_test (inr odd) = inr (λ lot l m t. odd t.2)

pub choice_of_order : (rule : Rule) (poll : Poll) (seats : ℕ) (group : List Bool) (in_question : ℕ) (a : List ℕ) → IsRule rule → IsSound poll → 1 ≤ seats → IsNeed rule poll seats group in_question → IsAllotmentByVotes rule poll seats a → (lot : List ℕ) × IsOrderOf group lot × IsAllotment rule poll lot seats a
choice_of_order rule poll seats group in_question a d s some need w =
    let r = are_races rule poll [] seats d s some in
    let some_list = some_in_group (terms_of rule poll [] seats) r group in_question need in
    let m = moves_from (terms_of rule poll [] seats) r a w some_list.0 ((need.group_is some_list.0).0 some_list.1) in
    let t = tie_of (terms_of rule poll [] seats) r a m.0 some_list.0 m.1 in
    from_tie t.0 t.1 t.2
  where
    inside : (x : ℕ) → get_or group x false ≡ true → x < length poll.votes
    inside x marked = let v = group_of_votes rule poll seats group in_question d s some need in s.listed x ((v.2 x).0 marked).0

    n : ℕ
    n = length poll.votes

    same_tie : (rule : Rule) (x y : ℕ) → IsTie (vote_race (terms_of rule poll [] seats)) a x y → (lot : List ℕ) → IsTie (vote_race (terms_of rule poll lot seats)) a x y
    same_tie rule x y t lot = t

    -- where the order is turned round the lists that hold one seat less come first in the lot
    from_tie : (x y : ℕ) → IsTie (vote_race (terms_of rule poll [] seats)) a x y → (lot : List ℕ) × IsOrderOf group lot × IsAllotment rule poll lot seats a
    from_tie x y t = by_turn (turned_at (lot_rule_of rule) (get_or a x 0))
      where
        with_first : (k : ℕ) → ((lot : List ℕ) → IsOrderOf group lot → ((l m : ℕ) → get_or group l false ≡ true → get_or group m false ≡ true → get_or a l 0 ≡ k → get_or a m 0 ≢ k → place_of lot l < place_of lot m) → (l m : ℕ) → get_or group l false ≡ true → get_or group m false ≡ true → get_or a l 0 ≡ get_or a x 0 → get_or a m 0 + 1 ≡ get_or a x 0 → ComesFirst (lot_rule_of rule) lot l m (get_or a x 0)) → (lot : List ℕ) × IsOrderOf group lot × IsAllotment rule poll lot seats a
        with_first k first =
            let lot = order_before group a k n in
            let o = in_order group a k n in
            let order = order_of_group group a k n inside lot o in
            let r = are_races rule poll lot seats d s some in
            (lot, order, choice_is (terms_of rule poll lot seats) r group in_question need a w x y (same_tie rule x y t lot) (first lot order (λ l m ml mm hl hm. first_placed group a k n inside lot o l m ml mm hl hm)))

        by_turn : ((lot : List ℕ) (l m : ℕ) → is_named lot l ≡ true → is_named lot m ≡ true → IsTurned (lot_rule_of rule) lot l m (get_or a x 0)) ⊎ ((lot : List ℕ) (l m : ℕ) → ¬ IsTurned (lot_rule_of rule) lot l m (get_or a x 0)) → (lot : List ℕ) × IsOrderOf group lot × IsAllotment rule poll lot seats a
        by_turn (inr straight) = with_first (get_or a x 0) (λ lot order placed l m ml mm hl hm. inl (straight lot l m, placed l m ml mm hl (omega (arith, hm))))
        by_turn (inl round) =
            with_first (get_or a x 0 - 1) (λ lot order placed l m ml mm hl hm. inr (round lot l m (named_if_marked group lot order l ml) (named_if_marked group lot order m mm), placed m l mm ml (omega (arith, hm)) (omega (arith, hl, hm))))
