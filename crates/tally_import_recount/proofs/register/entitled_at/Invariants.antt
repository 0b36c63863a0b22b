use Rattle.std.proofs.Common.{◌≡◌, ℕ, ◌-◌, List, length, drop, option_map}
use Rattle.std.specs.Prelude.{nat_eq}
use Rattle.std.specs.Cmp.Lexicographic.{pointwise}
use Rattle.std.specs.HashMap.{get}
use Rattle.std.specs.List.{find}
use Rattle.std.specs.Str.{bytes_eq}
use Rattle.tally_setup.specs.Constituency.{entitled}
use Rattle.tally_import_recount.proofs.register.entitled_at.Given as goal

abbrev pub invariant-loop-count : goal.invariant-loop-count
invariant-loop-count l = (code : List ℕ) → get (pointwise nat_eq) l.table code
    ≡ option_map entitled (find (λ station. bytes_eq code station.code) (drop (length l.stations - l.count) l.stations))
