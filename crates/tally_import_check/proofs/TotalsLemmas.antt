-- Totals of returns stay small, and grow by one return.
use Rattle.std.proofs.Common.{◌≡◌, ◌<◌, ◌≤◌, ◌+◌, ◌*◌, ◌++◌, ◌∷◌, ◌∙◌, ℕ, zero, suc, List, [], true, length, get_or, sym, ap, arith}
use Rattle.std.specs.Prelude.{◌&&◌, sum_by}
use Rattle.std.specs.List.{list_all}
use Rattle.std.specs.Cmp.{first_so, second_so}
use Rattle.std.proofs.lemmas.Bool.{leb-true}
use Rattle.std.proofs.lemmas.List.Sums.{sum_by-cons, sum_by_push}
use Rattle.std.proofs.lemmas.List.Folds.{list_all-append}
use Rattle.tally_returns.specs.Counts.{VoteCounts, are_counts, is_number}
use Rattle.std.proofs.Common.{inl, inr, slice_index}
use Rattle.std.proofs.lemmas.Bool.{cases_lt}
use Rattle.std.proofs.lemmas.List.{get_or_past}
use Rattle.tally_returns_rows.specs.Source.{row_limit}
use Rattle.tally_import_check.specs.internal.Totals.{AreTotals}
use Rattle.tally_import_check.specs.declared.totals.Totals.{Totals}

-- the numbers of counts that pass their check
number-at : (votes : List ℕ) (place : ℕ) → list_all is_number votes ≡ true → get_or votes place 0 ≤ 1000000
number-at [] place e = omega arith
number-at (n ∷ votes) zero e = leb-true n 1000000 (first_so _ _ e)
number-at (n ∷ votes) (suc place) e = number-at votes place (second_so _ _ e)

pub blank-small : (lists : ℕ) (c : VoteCounts) → are_counts lists c ≡ true → c.blank ≤ 1000000
blank-small lists c e = leb-true c.blank 1000000 (second_so _ _ (first_so _ _ e))

pub spoiled-small : (lists : ℕ) (c : VoteCounts) → are_counts lists c ≡ true → c.spoiled ≤ 1000000
spoiled-small lists c e = leb-true c.spoiled 1000000 (second_so _ _ e)

pub vote-small : (lists place : ℕ) (c : VoteCounts) → are_counts lists c ≡ true → get_or c.votes place 0 ≤ 1000000
vote-small lists place c e = number-at c.votes place (second_so _ _ (first_so _ _ (first_so _ _ e)))

-- a sum over returns, each of which adds at most 1,000,000
pub sum-small : (lists : ℕ) (f : VoteCounts → ℕ) → ((c : VoteCounts) → are_counts lists c ≡ true → f c ≤ 1000000)
    → (returns : List VoteCounts) → list_all (are_counts lists) returns ≡ true → sum_by f returns ≤ length returns * 1000000
sum-small lists f small [] e = omega arith
sum-small lists f small (c ∷ returns) e =
    omega (arith, sum_by-cons f c returns, small c (first_so _ _ e), sum-small lists f small returns (second_so _ _ e))

pub each-push : (lists : ℕ) (returns : List VoteCounts) (c : VoteCounts) → list_all (are_counts lists) returns ≡ true → are_counts lists c ≡ true
    → list_all (are_counts lists) (returns ++ c ∷ []) ≡ true
each-push lists returns c each is =
    list_all-append (are_counts lists) returns (c ∷ []) ∙ ap (λ b. b && (are_counts lists c && true)) each ∙ ap (λ b. b && true) is

-- every total is small
pub total-small : (lists : ℕ) (returns : List VoteCounts) (totals : Totals) → AreTotals lists returns totals → length returns < row_limit
    → (place : ℕ) → get_or totals.votes.items place 0 ≤ 20000000000
total-small lists returns totals h few place = elim (cases_lt place lists) [
  | inl within ↦
      let sum = sum-small lists (λ c. slice_index c.votes place) (vote-small lists place) returns h.each in
      omega (arith, h.votes place within, sum)
  | inr past ↦ omega (arith, get_or_past totals.votes.items place 0 (omega (arith, h.count)))
]

pub AreTotals-push : (lists : ℕ) (returns : List VoteCounts) (c : VoteCounts) (old new : Totals)
    → AreTotals lists returns old → are_counts lists c ≡ true → length new.votes.items ≡ lists
    → ((place : ℕ) → get_or new.votes.items place 0 ≡ get_or old.votes.items place 0 + get_or c.votes place 0)
    → new.blank ≡ old.blank + c.blank → new.spoiled ≡ old.spoiled + c.spoiled
    → AreTotals lists (returns ++ c ∷ []) new
AreTotals-push lists returns c old new h good count votes blank spoiled = record {
  each = each-push lists returns c h.each good;
  count = count;
  votes = λ place within. votes place ∙ ap (λ n. n + get_or c.votes place 0) (h.votes place within) ∙ sym (sum_by_push (λ x. slice_index x.votes place) returns c);
  blank = blank ∙ ap (λ n. n + c.blank) h.blank ∙ sym (sum_by_push (λ x. x.blank) returns c);
  spoiled = spoiled ∙ ap (λ n. n + c.spoiled) h.spoiled ∙ sym (sum_by_push (λ x. x.spoiled) returns c);
}
