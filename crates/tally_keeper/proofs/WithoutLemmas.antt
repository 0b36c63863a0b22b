-- Returns that are taken out again.
use Rattle.std.proofs.Common.{◌≡◌, ◌++◌, ◌∷◌, ◌∙◌, ℕ, List, [], Bool, true, false, cond, Some, None, refl, sym, ap}
use Rattle.std.specs.Prelude.{◌||◌}
use Rattle.std.specs.Cmp.{Equal-is}
use Rattle.std.specs.Cmp.Lexicographic.{nat_list_cmp_total}
use Rattle.std.specs.FinMap.{get, insert, remove, get-insert, get-remove, get_tied, same_map, slice_cmp-IsAntisymmetric, nat_cmp-IsAntisymmetric}
use Rattle.std.specs.List.{list_any}
use Rattle.std.specs.Ordering.{eq_by_cmp}
use Rattle.tally_setup.specs.Code.{code_cmp}
use Rattle.tally_returns.specs.Return.{StationReturn, Returns}
use Rattle.tally_keeper.specs.internal.Held.{returns_without}

-- returns that are the same at each station are the same
same_returns : (m n : Returns) → ((q : List ℕ) → get m q ≡ get n q) → m ≡ n
same_returns m n is = same_map nat_list_cmp_total (slice_cmp-IsAntisymmetric nat_cmp-IsAntisymmetric) m n is

-- whether a station is one of these
abbrev among : List ℕ → List (List ℕ) → Bool
among q stations = list_any (eq_by_cmp code_cmp q) stations

get-without : (stations : List (List ℕ)) (m : Returns) (q : List ℕ) → get (returns_without stations m) q ≡ cond (among q stations) None (get m q)
get-without [] m q = refl
get-without (k ∷ stations) m q =
    get-without stations (remove m k) q ∙ ap (cond (among q stations) None) (get-remove nat_list_cmp_total m k q) ∙ both (eq_by_cmp code_cmp q k) (among q stations)
  where
    both : (a b : Bool) → cond b None (cond a None (get m q)) ≡ cond (a || b) None (get m q)
    both true true = refl
    both true false = refl
    both false b = refl

among-push : (q k : List ℕ) (stations : List (List ℕ)) → among q (stations ++ k ∷ []) ≡ (eq_by_cmp code_cmp q k || among q stations)
among-push q k [] = refl
among-push q k (s ∷ stations) = ap (λ b. eq_by_cmp code_cmp q s || b) (among-push q k stations) ∙ swapped (eq_by_cmp code_cmp q s) (eq_by_cmp code_cmp q k) (among q stations)
  where
    swapped : (a b c : Bool) → (a || (b || c)) ≡ (b || (a || c))
    swapped true true c = refl
    swapped true false c = refl
    swapped false b c = refl

-- a return that was put at a station that had none, and taken out again
pub without-push : (stations : List (List ℕ)) (m : Returns) (k : List ℕ) (r : StationReturn) → get m k ≡ None
    → returns_without (stations ++ k ∷ []) (insert m k r) ≡ returns_without stations m
without-push stations m k r none = same_returns (returns_without (stations ++ k ∷ []) (insert m k r)) (returns_without stations m) (λ q.
    get-without (stations ++ k ∷ []) (insert m k r) q
    ∙ ap (λ b. cond b None (get (insert m k r) q)) (among-push q k stations)
    ∙ ap (cond (eq_by_cmp code_cmp q k || among q stations) None) (get-insert nat_list_cmp_total m k r q)
    ∙ go q (eq_by_cmp code_cmp q k) refl (among q stations)
    ∙ sym (get-without stations m q))
  where
    go : (q : List ℕ) (b : Bool) → eq_by_cmp code_cmp q k ≡ b → (c : Bool)
        → cond (b || c) None (cond b (Some r) (get m q)) ≡ cond c None (get m q)
    go q true tied true = refl
    go q true tied false = sym (sym (get_tied nat_list_cmp_total m q k ((Equal-is (code_cmp q k)).0 tied)) ∙ none)
    go q false apart c = refl
