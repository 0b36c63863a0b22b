-- A table of routes, added one by one.
use Rattle.std.proofs.Common.{◌≡◌, ℕ, zero, suc, ◌+◌, ◌<◌, List, [], ◌∷◌, length, take, get_or, map, refl, sym, ap, ◌∙◌, arith}
use Rattle.std.specs.Borrow.{Bor}
use Rattle.tally_desk_routes.specs.declared.routes.Route.{Route}
use Rattle.tally_desk_routes.specs.Routes.{RouteRows, with_route, with_routes}

-- a row as contracts see it
abbrev pub entry : Bor (List ℕ) × Route → List ℕ × Route
entry row = (row.0.now, row.1)

added : (rows : RouteRows) (table : List (Bor (List ℕ) × Route)) (i : ℕ) (d : Bor (List ℕ) × Route) → i < length table
    → with_routes rows (map entry (take (suc i) table)) ≡ with_route (with_routes rows (map entry (take i table))) (entry (get_or table i d))
added rows [] i d within = absurd (omega (arith, within))
added rows (row ∷ table) zero d within = refl
added rows (row ∷ table) (suc i) d within = added (with_route rows (entry row)) table i d (omega (arith, within))

one_more : (i : ℕ) → i + 1 ≡ suc i
one_more i = omega arith

pub added_next : (rows : RouteRows) (table : List (Bor (List ℕ) × Route)) (i : ℕ) (d : Bor (List ℕ) × Route) (was : RouteRows) → i < length table
    → was ≡ with_routes rows (map entry (take i table))
    → with_route was (entry (get_or table i d)) ≡ with_routes rows (map entry (take (i + 1) table))
added_next rows table i d was within is =
    ap (λ r. with_route r (entry (get_or table i d))) is
    ∙ sym (added rows table i d within)
    ∙ ap (λ n. with_routes rows (map entry (take n table))) (sym (one_more i))
