use Rattle.std.proofs.Common.{◌≡◌, ◌+◌, ◌<◌, ◌≤◌, ◌⊎◌, ◌∙◌, ℕ, List, Bool, inl, inr, slice_index, length, refl, sym, ap, subst, arith}
use Rattle.std.specs.Prelude.{Option, SomeIff, slice_set}
use Rattle.std.proofs.Math.Nat.{eq-or-lt_of_le}
use Rattle.std.proofs.lemmas.List.{get_or-set_other, get_or-set_same, length-set}
use Rattle.tally_keeper.specs.MovedSum.{CanMove, moved_sum}
use Rattle.tally_keeper.proofs.SumLemmas.{mapped-is}
use Rattle.tally_store_commands.specs.internal.Sums.{FitEach}
use Rattle.tally_store_commands.proofs.sums.move_votes.Goals as goal
use Rattle.tally_store_commands.proofs.sums.move_votes.Invariants.{Moved}

-- one place more is moved
step : (place : ℕ) (old new by : List ℕ) (add : Bool) (sum : ℕ) → place < length old → Moved place old new by add → CanMove (slice_index new place) (slice_index by place) add
    → sum ≡ moved_sum (slice_index new place) (slice_index by place) add → Moved (place + 1) old (slice_set new place sum) by add
step place old new by add sum within so_far fits is = record {
  lists = length-set new place sum ∙ so_far.lists;
  fit = λ k less. fit k (eq-or-lt_of_le (omega (arith, less)));
  before = λ k less. before k (eq-or-lt_of_le (omega (arith, less)));
  behind = λ k more. get_or-set_other new place k sum 0 (omega (arith, more)) ∙ so_far.behind k (omega (arith, more));
}
  where
    was : slice_index new place ≡ slice_index old place
    was = so_far.behind place (omega arith)

    fit : (k : ℕ) → (k ≡ place) ⊎ (k < place) → CanMove (slice_index old k) (slice_index by k) add
    fit k (inl same) = subst (λ q. CanMove (slice_index old q) (slice_index by q) add) (sym same) (subst (λ n. CanMove n (slice_index by place) add) was fits)
    fit k (inr less) = so_far.fit k less

    before : (k : ℕ) → (k ≡ place) ⊎ (k < place) → slice_index (slice_set new place sum) k ≡ moved_sum (slice_index old k) (slice_index by k) add
    before k (inl same) =
        subst (λ q. slice_index (slice_set new place sum) q ≡ moved_sum (slice_index old q) (slice_index by q) add) (sym same)
        (get_or-set_same new place sum 0 (omega (arith, within, so_far.lists)) ∙ is ∙ ap (λ n. moved_sum n (slice_index by place) add) was)
    before k (inr less) = get_or-set_other new place k sum 0 (omega (arith, less)) ∙ so_far.before k less

pub loop-place-preserved : goal.loop-place-preserved
loop-place-preserved c =
    step c.loop-place.place c.args.votes.now c.loop-place.votes c.args.by.now c.args.add c.in_ok-votes.field-0 c.loop-place-test.true c.loop-place.invariant c.in_ok-votes.ensures.0 c.in_ok-votes.ensures.1

pub returns-in_err-votes-clause-fit : goal.returns-in_err-votes-clause-fit
returns-in_err-votes-clause-fit c =
    let place = c.loop-place.place in
    subst (λ (r : Option (Unit {0})). SomeIff r (FitEach c.args.votes.now c.args.by.now c.args.add) tt) (sym c.from_residual.ensures) (λ fit.
    c.in_err-votes.ensures (subst (λ n. CanMove n (slice_index c.args.by.now place) c.args.add) (sym (c.loop-place.invariant.behind place (omega arith))) (fit.each place c.loop-place-test.true)))

pub returns-clause-fit : goal.returns-clause-fit
returns-clause-fit c =
    let all : length c.args.votes.now ≤ c.loop-place.place = omega (arith, c.loop-place-test.false, c.loop-place.invariant.lists) in
    (record { lists = sym c.if-votes-by.false; each = λ k within. c.loop-place.invariant.fit k (omega (arith, within, all)) }, refl)

pub returns-clause-moved : goal.returns-clause-moved
returns-clause-moved c =
    let old = c.args.votes.now in
    let all : length old ≤ c.loop-place.place = omega (arith, c.loop-place-test.false, c.loop-place.invariant.lists) in
    mapped-is c.loop-place.votes (λ place. moved_sum (slice_index old place) (slice_index c.args.by.now place) c.args.add) (length old) c.loop-place.invariant.lists
    (λ k within. c.loop-place.invariant.before k (omega (arith, within, all)))
