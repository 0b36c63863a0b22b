-- Awards are of the lists that have votes.
use Rattle.std.proofs.Common.{◌≡◌, ◌≤◌, ◌<◌, ◌⊎◌, ◌∙◌, ℕ, List, Bool, false, Option, Some, None, length, get_or, sym, inl, inr, arith}
use Rattle.std.proofs.lemmas.Bool.{cases_lt, false≢true}
use Rattle.std.proofs.lemmas.List.{get_or_past, length-map}
use Rattle.tally_frac.specs.declared.divisors.DivisorRule.{DivisorRule}
use Rattle.tally_frac.specs.internal.DivisorLaws.{divisors-positive}
use Rattle.tally_allot.specs.Awards.{AreAwardsBy}
use Rattle.tally_allot.specs.declared.award.Award.{Award}
use Rattle.tally_law.specs.Poll.{IsEligible}
use Rattle.tally_law.specs.Rules.{poll_of, rule_with}
use Rattle.tally_setup.specs.Threshold.{base_of, is_eligible}
use Rattle.tally_setup.specs.declared.profile.LotRule.{LotRule}
use Rattle.tally_setup.specs.declared.profile.Profile.{Profile}
use Rattle.tally_report_lines.specs.internal.Awards.{IsAwardAmong}

-- an eligible list is one of those that have votes
listed : (profile : Profile) (votes : List ℕ) (blank l : ℕ) → IsEligible (poll_of profile votes blank) l → l < length votes
listed profile votes blank l e = by_cases (cases_lt l (length votes))
  where
    test : ℕ → Bool
    test = is_eligible profile.threshold (base_of profile.base votes blank)

    by_cases : (l < length votes) ⊎ (length votes ≤ l) → l < length votes
    by_cases (inl lt) = lt
    by_cases (inr ge) = absurd (false≢true (sym (get_or_past (poll_of profile votes blank).eligible l false (omega (arith, ge, length-map votes test))) ∙ e))

-- awards are of these lists
pub each-among : (found : Option DivisorRule) (lot_rule : LotRule) (profile : Profile) (votes : List ℕ) (blank : ℕ) (lot : List ℕ) (seats : ℕ) (awards : List Award) (n : ℕ)
    → AreAwardsBy (rule_with found lot_rule) (poll_of profile votes blank) lot seats awards → length votes ≡ n
    → (i : ℕ) (d : Award) → i < length awards → IsAwardAmong n (get_or awards i d)
each-among (Some rule) lot_rule profile votes blank lot seats awards n are lists i d lt =
    let e = are.2.each i d lt in
    let award = get_or awards i d in
    record { from_one = omega (arith, e.1.list_is); listed = omega (arith, e.1.list_is, lists, listed profile votes blank e.0 e.1.eligible); divisor = omega (arith, e.1.den_is, divisors-positive rule award.k e.1.from_one) }
each-among None lot_rule profile votes blank lot seats awards n are lists i d lt = absurd are
