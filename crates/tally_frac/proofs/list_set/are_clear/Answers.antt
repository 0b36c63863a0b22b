use Rattle.std.proofs.Common.{◌≡◌, ℕ, ◌<◌, ◌≤◌, ◌⊎◌, false, get_or, inl, inr, arith, refl}
use Rattle.std.proofs.lemmas.Bool.{cases_lt}
use Rattle.std.proofs.lemmas.List.{get_or_past}
use Rattle.tally_frac.proofs.list_set.are_clear.Goals as goal

pub returns : goal.returns
returns c = ((λ _ l. by_cases l (cases_lt l c.loop-list.list)), λ _. refl)
  where
    by_cases : (l : ℕ) → (l < c.loop-list.list) ⊎ (c.loop-list.list ≤ l) → get_or c.args.marks.now l false ≡ false
    by_cases l (inl lt) = c.loop-list.invariant l lt
    by_cases l (inr ge) = get_or_past c.args.marks.now l false (omega arith)
