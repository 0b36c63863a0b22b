-- The votes without the return of one station.
use Rattle.std.proofs.Common.{◌≡◌, ◌≤◌, ◌<◌, ◌⊎◌, ◌∙◌, ◌+◌, ◌-◌, ◌∷◌, ◌↔◌, ℕ, zero, suc, List, [], Bool, true, false, IsTrue, not, length, get_or, Option, Some, None, inl, inr, refl, sym, ap, subst, arith}
use Rattle.std.specs.Prelude.{is_some, slice_index, sum_by}
use Rattle.std.proofs.lemmas.Bool.{cases_lt, false≢true}
use Rattle.std.proofs.lemmas.Grind.{same_number_lists}
use Rattle.std.proofs.lemmas.List.{get_or_default, get_or-set_same, get_or-set_other, length-set}
use Rattle.std.proofs.lemmas.List.FromFn.{get_or-map-range_with_len, length-map-range_with_len}
use Rattle.std.proofs.lemmas.List.Sums.{sum_by-append, sum_by-cons}
use Rattle.tally_setup.specs.Constituency.{Constituency}
use Rattle.tally_returns.specs.Counts.{VoteCounts}
use Rattle.tally_returns.specs.View.{blank_of, votes_at}
use Rattle.tally_report_allotment.specs.Recount.{AreReturnsOf, counted, if_counted, votes_counted, without_return}
use Rattle.tally_report_allotment.specs.internal.Counting.{votes_less}

-- a sum is that of the others and its own
pub taken-out : (f : VoteCounts → ℕ) (returns : List (Option VoteCounts)) (place : ℕ) (c : VoteCounts) → get_or returns place None ≡ Some c
    → sum_by f (counted returns) ≡ sum_by f (counted (without_return returns place)) + f c
taken-out f [] place c is = cc
taken-out f (found ∷ returns) zero c is =
    ap (λ x. sum_by f (counted (x ∷ returns))) is
    ∙ sum_by-cons f c (counted returns)
    ∙ omega arith
taken-out f (found ∷ returns) (suc place) c is =
    omega (
      arith,
      sum_by-append f (if_counted found) (counted returns),
      sum_by-append f (if_counted found) (counted (without_return returns place)),
      taken-out f returns place c is,
    )

-- the other returns are still returns of the constituency
pub others-are : (con : Constituency) (returns : List (Option VoteCounts)) (place : ℕ) → place < length returns → AreReturnsOf con returns → AreReturnsOf con (without_return returns place)
others-are con returns place lt are = record {
  one_each = length-set returns place None ∙ are.one_each;
  lawful = λ q station c inside is. are.lawful q station c inside (still q c is (cases_lt q place) (cases_lt place q));
}
  where
    still : (q : ℕ) (c : VoteCounts) → get_or (without_return returns place) q None ≡ Some c → (q < place) ⊎ (place ≤ q) → (place < q) ⊎ (q ≤ place) → get_or returns q None ≡ Some c
    still q c is (inl before) other = sym (get_or-set_other returns place q None None (λ same. omega (arith, before, same))) ∙ is
    still q c is (inr ge) (inl after) = sym (get_or-set_other returns place q None None (λ same. omega (arith, after, same))) ∙ is
    still q c is (inr ge) (inr le) =
        let same : place ≡ q = omega (arith, ge, le) in
        let none : get_or (without_return returns place) q None ≡ None = subst (λ (i : ℕ). get_or (without_return returns place) i None ≡ None) same (get_or-set_same returns place None None lt) in
        cc

-- the votes of the lists, less its own, are those of the others
pub rest-is : (con : Constituency) (returns : List (Option VoteCounts)) (place : ℕ) (c : VoteCounts) → get_or returns place None ≡ Some c
    → votes_less (length con.lists) (votes_counted con returns) c.votes ≡ votes_counted con (without_return returns place)
rest-is con returns place c is =
    same_number_lists _ _ (length-map-range_with_len less 0 n ∙ sym (length-map-range_with_len (votes_at others) 0 n)) (λ k lt. at k (omega (arith, lt, length-map-range_with_len less 0 n)))
  where
    n : ℕ
    n = length con.lists

    others : List VoteCounts
    others = counted (without_return returns place)

    less : ℕ → ℕ
    less k = get_or (votes_counted con returns) k 0 - get_or c.votes k 0

    at : (k : ℕ) → k < n → get_or (votes_less n (votes_counted con returns) c.votes) k 0 ≡ get_or (votes_counted con (without_return returns place)) k 0
    at k lt =
        let whole : get_or (votes_counted con returns) k 0 ≡ votes_at (counted returns) k = get_or-map-range_with_len (votes_at (counted returns)) 0 n k k 0 lt (omega arith) in
        get_or-map-range_with_len less 0 n k k 0 lt (omega arith)
        ∙ omega (arith, whole, taken-out (λ (d : VoteCounts). slice_index d.votes k) returns place c is)
        ∙ sym (get_or-map-range_with_len (votes_at others) 0 n k k 0 lt (omega arith))

-- each list has at least the votes of one return
pub own-within : (con : Constituency) (returns : List (Option VoteCounts)) (place : ℕ) (c : VoteCounts) (k : ℕ) → get_or returns place None ≡ Some c → k < length con.lists
    → get_or c.votes k 0 ≤ get_or (votes_counted con returns) k 0
own-within con returns place c k is lt =
    omega (
      arith,
      get_or-map-range_with_len (votes_at (counted returns)) 0 (length con.lists) k k 0 lt (omega arith),
      taken-out (λ (d : VoteCounts). slice_index d.votes k) returns place c is,
    )

-- a station is decisive where the votes do not allow the seats without its return
pub verdict : {A : Type 0} (found : Option VoteCounts) (c : VoteCounts) (allowed : Bool) → found ≡ Some c → (IsTrue allowed ↔ A) → (not allowed ≡ true) ↔ ((is_some found ≡ true) × ¬ A)
verdict found c true is both = (λ no. absurd (false≢true no), λ p. absurd (p.1 (both.0 refl)))
verdict found c false is both = (λ _. (ap is_some is, λ a. false≢true (both.1 a)), λ _. refl)

-- what is said of four parts, said of equal ones
pub carried : {A B C D : Type 0} (P : A → B → C → D → Type 0) → {a a' : A} → a ≡ a' → {b b' : B} → b ≡ b' → {c c' : C} → c ≡ c' → {d d' : D} → d ≡ d' → P a b c d → P a' b' c' d'
carried P {a = a} {a' = a'} ea {b = b} {b' = b'} eb {c = c} {c' = c'} ec {d = d} {d' = d'} ed h =
    subst (P a' b' c') ed (subst (λ x. P a' b' x d) ec (subst (λ x. P a' x c d) eb (subst (λ x. P x b c d) ea h)))

-- the return at a place, read with another default
pub found-at : (returns : List (Option VoteCounts)) (place : ℕ) (item : Option VoteCounts) (c : VoteCounts) → place < length returns → item ≡ get_or returns place item → item ≡ Some c → get_or returns place None ≡ Some c
found-at returns place item c lt is some = get_or_default returns place None item lt ∙ sym is ∙ some

-- what is taken out of the votes of a constituency by the return of a station
pub record IsTakenOut (con : Constituency) (returns : List (Option VoteCounts)) (place : ℕ) (c : VoteCounts) (n : ℕ) (votes by : List ℕ) (blank own : ℕ) : Type 0 where
  pub some : get_or returns place None ≡ Some c
  pub lists : n ≡ length con.lists
  pub votes_are : votes ≡ votes_counted con returns
  pub by_is : by ≡ c.votes
  pub blank_is : blank ≡ blank_of (counted returns)
  pub own_is : own ≡ c.blank

pub own-blank : (con : Constituency) (returns : List (Option VoteCounts)) (place : ℕ) (c : VoteCounts) (n : ℕ) (votes by : List ℕ) (blank own : ℕ) → IsTakenOut con returns place c n votes by blank own
    → (own ≤ blank) × (blank - own ≡ blank_of (counted (without_return returns place)))
own-blank con returns place c n votes by blank own t =
    let out = taken-out (λ (d : VoteCounts). d.blank) returns place c t.some in
    (omega (arith, t.blank_is, t.own_is, out), omega (arith, t.blank_is, t.own_is, out))

pub rest-votes : (con : Constituency) (returns : List (Option VoteCounts)) (place : ℕ) (c : VoteCounts) (n : ℕ) (votes by : List ℕ) (blank own : ℕ) → IsTakenOut con returns place c n votes by blank own
    → votes_less n votes by ≡ votes_counted con (without_return returns place)
rest-votes con returns place c n votes by blank own t =
    ap (λ k. votes_less k votes by) t.lists
    ∙ ap (λ vs. votes_less (length con.lists) vs by) t.votes_are
    ∙ ap (votes_less (length con.lists) (votes_counted con returns)) t.by_is
    ∙ rest-is con returns place c t.some
