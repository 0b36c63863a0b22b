use Rattle.std.proofs.Common.{◌≡◌, ◌≤◌, ◌<◌, ◌⊎◌, ◌∙◌, ℕ, suc, ◌+◌, true, false, get_or, inl, inr, sym, ap, arith}
use Rattle.std.proofs.lemmas.Bool.{cases_lt, false≢true}
use Rattle.tally_frac.specs.ListSet.{has_place}
use Rattle.tally_machine_law.specs.Holders.{is_among}
use Rattle.tally_machine_law.proofs.LotLemmas.{all_marked-fails, all_marked-from, among-turned}
use Rattle.tally_machine.proofs.list_order.names_all.Goals as goal

pub returns-then-not-contains : goal.returns-then-not-contains
returns-then-not-contains c =
    let here : c.loop-list.list + 1 ≡ suc c.loop-list.list = omega arith in
    let marked : get_or c.args.group.now c.loop-list.list false ≡ true = sym (ap (has_place c.args.group.now) here) ∙ sym c.has.ensures ∙ c.if-has.true in
    let fails : is_among (1 + c.loop-list.list) c.args.places.now ≡ false =
    ap (λ p. is_among p c.args.places.now) (let s : 1 + c.loop-list.list ≡ c.loop-list.list + 1 = omega arith in s)
    ∙ sym (among-turned (c.loop-list.list + 1) c.args.places.now)
    ∙ sym c.contains.ensures.value
    ∙ c.if-not-contains.true in
    all_marked-fails (λ place. is_among place c.args.places.now) c.args.group.now 1 c.loop-list.list marked fails

pub returns : goal.returns
returns c = sym (all_marked-from (λ place. is_among place c.args.places.now) c.args.group.now 1 (λ l marked. by_cases l marked (cases_lt l c.args.lists)))
  where
    by_cases : (l : ℕ) → get_or c.args.group.now l false ≡ true → (l < c.args.lists) ⊎ (c.args.lists ≤ l) → is_among (1 + l) c.args.places.now ≡ true
    by_cases l marked (inl lt) =
        ap (λ p. is_among p c.args.places.now) (let s : 1 + l ≡ l + 1 = omega arith in s) ∙ c.loop-list.invariant l (omega (arith, lt, c.loop-list-test.false)) marked
    by_cases l marked (inr ge) = absurd (false≢true (sym (c.requires l ge) ∙ marked))
