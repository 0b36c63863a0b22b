-- Places and marks.
use Rattle.std.proofs.Common.{◌≡◌, ℕ, suc, ◌+◌, List, Bool, false, get_or, ap, arith}
use Rattle.tally_frac.specs.ListSet.{has_place}

pub has_place-at : (marks : List Bool) (place l : ℕ) → place ≡ l + 1 → has_place marks place ≡ get_or marks l false
has_place-at marks place l e =
    let e' : place ≡ suc l = omega arith in
    ap (has_place marks) e'
