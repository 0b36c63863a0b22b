use Rattle.std.proofs.Common.{◌≡◌, ◌++◌, string_bytes}
use Rattle.std.specs.List.{flat_map, range_with_len}
use Rattle.tally_report.specs.QuotientsText.{quotient_column}
use Rattle.tally_report.proofs.quotients.push_quotients.Given as goal

abbrev pub invariant-loop-won : goal.invariant-loop-won
invariant-loop-won g l =
    string_bytes l.text
    ≡ string_bytes l.fn.text ++ flat_map (quotient_column (g.D.Divisors.divisor l.divisors) (g.D.Divisors.unit_of l.divisors) l.votes l.seats) (range_with_len 1 l.won)
