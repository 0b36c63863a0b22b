-- The laws, of the rule and the poll of a profile.
use Rattle.std.proofs.Common.{◌≡◌, ℕ, ◌+◌, ◌<◌, ◌≤◌, ◌⊎◌, List, [], ◌∷◌, Bool, false, length, get_or, map, sum, refl, sym, ap, ◌∙◌, subst, inl, inr, arith}
use Rattle.std.proofs.lemmas.Bool.{cases_lt}
use Rattle.std.proofs.lemmas.List.{get_or-map, length-map, get_or_past}
use Rattle.tally_setup.specs.Threshold.{is_eligible, base_of}
use Rattle.tally_setup.specs.declared.profile.Base.{Base}
use Rattle.tally_setup.specs.declared.profile.Base.TheVariants.{Valid, Lists}
use Rattle.tally_setup.specs.declared.profile.Profile.{Profile}
use Rattle.tally_law.specs.Poll.{Poll, SharesOut}
use Rattle.tally_law.specs.Lot.{IsOrderOf}
use Rattle.tally_law.specs.Allotment.{Rule, divisors, hare, IsAllotment, IsAllotmentByVotes}
use Rattle.tally_law.specs.LotNeed.{IsDecidedByVotes, IsNeed}
use Rattle.tally_law.specs.Rules.{rule_of, poll_of}
use Rattle.tally_allot_award.specs.internal.Terms.{IsRule, IsSound}
use Rattle.tally_allot_award.proofs.Vectors.{Exchange, equal_or_exchange, get_or-le-sum}
use Rattle.tally_allot_award.proofs.Sums.{sum-is}
use Rattle.tally_allot_award.proofs.PollLemmas.{sound_under}
use Rattle.tally_allot_award.proofs.TermsRace.{are_races, one_allotment}
use Rattle.tally_law.specs.Reordering.{IsReordering, numbers_in_order}
use Rattle.tally_law.specs.LawStatements.{AllotmentsAreUnique, AllotmentsExist, LotsChooseAmongWhatVotesAllow, VotesDecideOrALotIsNeeded, NoLotIsNeededWhereVotesDecide, GroupsAreOfOneNumberOfVotes, EachOrderGivesAChoice, EachChoiceComesFromAnOrder, TheOrderOfTheSetupIsNothingWhereVotesDecide}
use Rattle.tally_allot.proofs.DivisorRuleLemmas.{rule_by-is}
use Rattle.tally_allot.proofs.LotLaws.{decided_not_needed, proper_if_taken, proper_without_lot}
use Rattle.tally_allot.proofs.AllotmentLaws.{exists, by_votes, choice_of_order, group_of_votes}
use Rattle.tally_allot.proofs.DecidedOrNeeded.{decided-or_need}
use Rattle.tally_allot.proofs.Reordered.{reordered_poll, sum_over, setup_order_is_nothing, setup_order_decides}

rule-is : (profile : Profile) → IsRule (rule_of profile)
rule-is profile = rule_by-is profile.method profile.lot

poll-sound : (profile : Profile) (votes : List ℕ) (blank : ℕ) → IsSound (poll_of profile votes blank)
poll-sound profile votes blank = sound_under profile.threshold (base_of profile.base votes blank) votes

shares_of : (rule : Rule) (poll : Poll) (lot : List ℕ) (seats : ℕ) (a : List ℕ) → IsAllotment rule poll lot seats a → SharesOut poll seats a
shares_of (divisors nth unit lot_rule) poll lot seats a w = w.shares
shares_of hare poll lot seats a w = w.shares

-- no premise on places, and none on seats: no seats are shared out in one way
unique : (rule : Rule) (poll : Poll) (lot : List ℕ) (seats : ℕ) (a b : List ℕ) → IsRule rule → IsSound poll → IsAllotment rule poll lot seats a → IsAllotment rule poll lot seats b → a ≡ b
unique rule poll lot seats a b d s wa wb = by_seats (cases_lt 0 seats)
  where
    none : Exchange a b → seats ≤ 0 → ⊥
    none x le = omega (arith, x.more, get_or-le-sum a x.l, (shares_of rule poll lot seats a wa).whole)

    by_vector : seats ≤ 0 → (a ≡ b) ⊎ Exchange a b → a ≡ b
    by_vector le (inl e) = e
    by_vector le (inr x) = absurd (none x le)

    by_seats : (0 < seats) ⊎ (seats ≤ 0) → a ≡ b
    by_seats (inl some) = one_allotment (record { rule = rule; poll = poll; lot = lot; seats = seats }) (are_races rule poll lot seats d s some) a b wa wb
    by_seats (inr le) =
        let sa = shares_of rule poll lot seats a wa in
        let sb = shares_of rule poll lot seats b wb in
        by_vector le (equal_or_exchange a b (omega (arith, sa.one_each, sb.one_each)) (omega (arith, sa.whole, sb.whole)))

order_gives : (rule : Rule) (poll : Poll) (seats : ℕ) (group : List Bool) (in_question : ℕ) (lot : List ℕ) → IsRule rule → IsSound poll → 1 ≤ seats → IsNeed rule poll seats group in_question → IsOrderOf group lot → (a : List ℕ) × IsAllotment rule poll lot seats a × IsAllotmentByVotes rule poll seats a
order_gives rule poll seats group in_question lot d s some need order =
    let v = group_of_votes rule poll seats group in_question d s some need in
    let w = exists rule poll lot seats d s some (v.0, v.1) (proper_if_taken (record { rule = rule; poll = poll; lot = lot; seats = seats }) (are_races rule poll lot seats d s some) (inr (group, in_question, need, order))) in
    (w.0, w.1, by_votes rule poll lot seats w.0 d s some w.1)

-- the poll of a profile whose lists are in another order
module _ (profile : Profile) (votes : List ℕ) (blank : ℕ) (order : List ℕ) (perm : IsReordering (length votes) order) where
  same_sum : sum (numbers_in_order votes order) ≡ sum votes
  same_sum = sum_over (poll_of profile votes blank) order perm (λ l. get_or votes l 0) ∙ sym (sum-is votes)

  same_base : (base : Base) → base_of base (numbers_in_order votes order) blank ≡ base_of base votes blank
  same_base Valid = ap (λ n. n + blank) same_sum
  same_base Lists = same_sum

  mark_at : (t base l : ℕ) → is_eligible t base (get_or votes l 0) ≡ get_or (map (is_eligible t base) votes) l false
  mark_at t base l = by_cases (cases_lt l (length votes))
    where
      by_cases : (l < length votes) ⊎ (length votes ≤ l) → is_eligible t base (get_or votes l 0) ≡ get_or (map (is_eligible t base) votes) l false
      by_cases (inl lt) = sym (get_or-map (is_eligible t base) votes l 0 false lt)
      by_cases (inr ge) = ap (is_eligible t base) (get_or_past votes l 0 ge) ∙ sym (get_or_past (map (is_eligible t base) votes) l false (omega (arith, length-map votes (is_eligible t base))))

  marks : (t base : ℕ) (ls : List ℕ) → map (is_eligible t base) (map (λ l. get_or votes l 0) ls) ≡ map (λ l. get_or (map (is_eligible t base) votes) l false) ls
  marks t base [] = refl
  marks t base (l ∷ ls) = λ i. mark_at t base l i ∷ marks t base ls i

  profile_reordered : poll_of profile (numbers_in_order votes order) blank ≡ reordered_poll (poll_of profile votes blank) order
  profile_reordered =
      let e : map (is_eligible profile.threshold (base_of profile.base (numbers_in_order votes order) blank)) (numbers_in_order votes order) ≡ map (λ l. get_or (map (is_eligible profile.threshold (base_of profile.base votes blank)) votes) l false) order =
      ap (λ base. map (is_eligible profile.threshold base) (numbers_in_order votes order)) (same_base profile.base) ∙ marks profile.threshold (base_of profile.base votes blank) order in
      λ i. record { votes = numbers_in_order votes order; eligible = e i }

-- the laws

pub allotments-unique : AllotmentsAreUnique
allotments-unique profile votes blank lot seats a b = unique (rule_of profile) (poll_of profile votes blank) lot seats a b (rule-is profile) (poll-sound profile votes blank)

pub allotments-exist : AllotmentsExist
allotments-exist profile votes blank seats some has = exists (rule_of profile) (poll_of profile votes blank) [] seats (rule-is profile) (poll-sound profile votes blank) some has (proper_without_lot (poll_of profile votes blank))

pub lots-choose : LotsChooseAmongWhatVotesAllow
lots-choose profile votes blank lot seats a some = by_votes (rule_of profile) (poll_of profile votes blank) lot seats a (rule-is profile) (poll-sound profile votes blank) some

pub votes-decide-or-not : VotesDecideOrALotIsNeeded
votes-decide-or-not profile votes blank seats some = decided-or_need (rule_of profile) (poll_of profile votes blank) seats (rule-is profile) (poll-sound profile votes blank) some

pub never-both : NoLotIsNeededWhereVotesDecide
never-both profile votes blank seats = decided_not_needed (record { rule = rule_of profile; poll = poll_of profile votes blank; lot = []; seats = seats })

pub groups-of-votes : GroupsAreOfOneNumberOfVotes
groups-of-votes profile votes blank seats group in_question some = group_of_votes (rule_of profile) (poll_of profile votes blank) seats group in_question (rule-is profile) (poll-sound profile votes blank) some

pub orders-give : EachOrderGivesAChoice
orders-give profile votes blank seats group in_question lot some = order_gives (rule_of profile) (poll_of profile votes blank) seats group in_question lot (rule-is profile) (poll-sound profile votes blank) some

pub choices-come : EachChoiceComesFromAnOrder
choices-come profile votes blank seats group in_question a some = choice_of_order (rule_of profile) (poll_of profile votes blank) seats group in_question a (rule-is profile) (poll-sound profile votes blank) some

pub setup-order : TheOrderOfTheSetupIsNothingWhereVotesDecide
setup-order profile votes blank seats order a some perm decided is =
    let rule = rule_of profile in
    let poll = poll_of profile votes blank in
    let d = rule-is profile in
    let s = poll-sound profile votes blank in
    let P : Poll → Type 0 = λ p. IsDecidedByVotes rule p seats × IsAllotment rule p [] seats (numbers_in_order a order) in
    subst P (sym (profile_reordered profile votes blank order perm)) (setup_order_decides rule poll seats order a d s some perm decided is, setup_order_is_nothing rule poll seats order a d s some perm decided is)
