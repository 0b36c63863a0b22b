use Rattle.std.proofs.Common.{◌≡◌, [], map, replicate}
use Rattle.tally_report.proofs.holders.nobody.Given as goal

abbrev pub invariant-loop : goal.invariant-loop
invariant-loop l = map (λ places. places.items) l.gone.items ≡ replicate l.counter []
