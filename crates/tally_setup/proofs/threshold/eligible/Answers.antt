use Rattle.std.proofs.Common.{◌≡◌, ◌≤◌, ◌<◌, ◌+◌, ◌++◌, ◌∷◌, ◌∙◌, [], ℕ, Bool, List, ap, sym, map, take, length, get_or, sum, arith}
use Rattle.std.proofs.lemmas.List.{map-append, take_all, take_more}
use Rattle.std.proofs.lemmas.List.Sums.{get_or-le-sum_by}
use Rattle.tally_setup.specs.Threshold.{is_eligible}
use Rattle.tally_setup.proofs.threshold.eligible.Goals as goal

-- one more list
more_tested : (test : ℕ → Bool) (votes : List ℕ) (i : ℕ) (before after : List Bool) (tested : Bool) → after ≡ before ++ tested ∷ [] → before ≡ map test (take i votes) → tested ≡ test (get_or votes i 0) → i < length votes → after ≡ map test (take (i + 1) votes)
more_tested test votes i before after tested pushed invariant is within =
    pushed
    ∙ ap (λ ls. ls ++ tested ∷ []) invariant
    ∙ ap (λ t. map test (take i votes) ++ t ∷ []) is
    ∙ sym (ap (map test) (take_more votes i 0 within) ∙ map-append test (take i votes) (get_or votes i 0 ∷ []))

pub is_eligible-requires-clause-few_votes : goal.is_eligible-requires-clause-few_votes
is_eligible-requires-clause-few_votes c =
    let within : get_or c.args.votes.now c.loop-list.list-index 0 ≤ sum c.args.votes.now = get_or-le-sum_by (λ v. v) c.args.votes.now c.loop-list.list-index 0 c.loop-list-test.true in
    omega (arith, within, c.requires.votes)

pub loop-list-preserved : goal.loop-list-preserved
loop-list-preserved c =
    more_tested (is_eligible c.args.profile.now.threshold c.base_of-base.result) c.args.votes.now _ _ _ _ c.in_ok-push.ensures.items c.loop-list.invariant c.is_eligible.ensures c.loop-list-test.true

pub returns : goal.returns
returns c =
    c.loop-list.invariant
    ∙ ap (map (is_eligible c.args.profile.now.threshold c.base_of-base.result)) (take_all _ _ c.loop-list-test.false)
    ∙ ap (λ base. map (is_eligible c.args.profile.now.threshold base) c.args.votes.now) c.base_of-base.ensures.value
