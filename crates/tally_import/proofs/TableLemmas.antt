-- The table of returns of an import.
use Rattle.std.proofs.Common.{◌≡◌, ◌∙◌, ℕ, List, cond, Some, Ok, sym, ap}
use Rattle.std.specs.Prelude.{nat_eq}
use Rattle.std.specs.Cmp.{eq_by_cmp_equiv}
use Rattle.std.specs.Cmp.Lexicographic.{pointwise, nat_list_cmp_total, texts_ties}
use Rattle.std.specs.Ordering.{eq_by_cmp}
use Rattle.std.specs.FinMap as map
use Rattle.std.specs.HashMap as table
use Rattle.std.specs.Map.{lookup}
use Rattle.tally_setup.specs.Code.{code_cmp}
use Rattle.tally_returns.specs.Return.{StationReturn, Returns, first_return}
use Rattle.tally_returns.specs.Counts.{VoteCounts}
use Rattle.tally_returns.specs.Lodge.{Stations, lodge, lodge_answer, after_lodge}
use Rattle.tally_returns.specs.declared.reply.LodgeReply.TheVariants.{Lodged}
use Rattle.tally_import.specs.internal.Table.{Table, Holds}

-- the two tests of codes agree
codes-agree : (code other : List ℕ) → pointwise nat_eq code other ≡ eq_by_cmp code_cmp other code
codes-agree code other = texts_ties code other ∙ (eq_by_cmp_equiv nat_list_cmp_total).symm code other

-- what a table holds after a return was put under a code
pub Holds-insert : (old new : Table) (returns : Returns) (code : List ℕ) (r : StationReturn)
    → Holds old returns → table.Updates (pointwise nat_eq) old new code (Some r) → Holds new (map.insert returns code r)
Holds-insert old new returns code r held updates q =
    updates.0 q
    ∙ ap (λ b. cond b (Some r) (table.get (pointwise nat_eq) old q)) (codes-agree code q)
    ∙ ap (cond (eq_by_cmp code_cmp q code) (Some r)) (held q)
    ∙ sym (map.get-insert nat_list_cmp_total returns code r q)

pub Holds-empty : (new : Table) → table.IsEmpty new → Holds new map.empty
Holds-empty new empty q = ap (lookup (pointwise nat_eq q)) empty ∙ sym (map.get-empty code_cmp q)

-- what a Lodge that was answered Lodged leaves
pub lodge-lodged : (stations : Stations) (s : Returns) (station slip : List ℕ) (counts : VoteCounts) (rev : ℕ)
    → lodge_answer stations s station slip counts ≡ Ok (Lodged rev) → lodge stations s station slip counts ≡ map.insert s station (first_return slip counts)
lodge-lodged stations s station slip counts rev is = ap (after_lodge s station slip counts) is
