-- Rows in order, as a map.
use Rattle.std.proofs.Common.{◌≡◌, ◌∙◌, List, map, sym, ap}
use Rattle.std.specs.Cmp.{IsTotalOrder}
use Rattle.std.specs.FinMap.{FinMap, IsAntisymmetric, entries, from_entries, get-entries, get-from_entries, insert, same_map}
use Rattle.std.specs.declared.cmp.Ordering.{Ordering}
use Rattle.tally_keeper.specs.MapOf.{map_of}

module _ {K V : Type 0} {R : K → K → Ordering} (total : IsTotalOrder R) (same : IsAntisymmetric R) where
  -- a map is got back from its entries
  entries-back : (m : FinMap R V) → from_entries (entries m) ≡ m
  entries-back m = same_map total same (from_entries (entries m)) m (λ q. get-from_entries total (entries m) q ∙ sym (get-entries m q))

  -- and from rows that say what its entries say
  rows-back : {X : Type 0} (key : X → K) (value : X → V) (row : K × V → X) (m : FinMap R V)
      → map (λ x. (key x, value x)) (map row (entries m)) ≡ entries m → map_of key value (map row (entries m)) ≡ m
  rows-back key value row m is = ap from_entries is ∙ entries-back m

  -- what one more row makes of the map, where the rows that it makes
  -- are those of the map with one more entry
  pub rows-insert : {X : Type 0} (key : X → K) (value : X → V) (row : K × V → X) (rows more : List X) (k : K) (v : V)
      → more ≡ map row (entries (insert (map_of {R = R} key value rows) k v))
      → map (λ x. (key x, value x)) (map row (entries (insert (map_of {R = R} key value rows) k v))) ≡ entries (insert (map_of {R = R} key value rows) k v)
      → map_of {R = R} key value more ≡ insert (map_of {R = R} key value rows) k v
  rows-insert key value row rows more k v is back = ap (map_of {R = R} key value) is ∙ rows-back key value row (insert (map_of {R = R} key value rows) k v) back
