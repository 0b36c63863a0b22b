use Rattle.std.proofs.Common.{◌≡◌, ℕ, ◌<◌, ◌≤◌, ◌⊎◌, List, Bool, true, false, length, get_or, replicate, inl, inr, sym, ◌∙◌, ap, arith}
use Rattle.std.proofs.lemmas.Bool.{cases_lt, false≢true}
use Rattle.std.proofs.lemmas.List.{get_or_past, get_or-replicate, length-replicate}
use Rattle.tally_allot_award.proofs.need.lists_with.Goals as goal

none_marked : (marks : List Bool) (x : ℕ) → marks ≡ replicate 60 false → get_or marks x false ≡ true → x < 0
none_marked marks x e t = by_cases (cases_lt x 60)
  where
    at : get_or (replicate 60 false) x false ≡ true
    at = sym (ap (λ m. get_or m x false) e) ∙ t

    by_cases : (x < 60) ⊎ (60 ≤ x) → x < 0
    by_cases (inl lt) = absurd (false≢true (sym (get_or-replicate 60 x false false lt) ∙ at))
    by_cases (inr ge) = absurd (false≢true (sym (get_or_past (replicate 60 false) x false (omega (arith, length-replicate 60 false))) ∙ at))

pub loop-list-init : goal.loop-list-init
loop-list-init g c = record {
  long = ap length c.empty-lists.ensures ∙ length-replicate 60 false;
  marked = λ x. ((λ t. absurd (omega (arith, none_marked _ x c.empty-lists.ensures t))), (λ w. absurd (omega (arith, w.0))));
}
