use Rattle.std.proofs.Common.{◌≡◌, map, take}
use Rattle.tally_allot.specs.Awards.{award_of}
use Rattle.tally_allot_award.specs.internal.KeptPoll.{kept_poll}
use Rattle.tally_allot.proofs.award_table.awards_of.Given as goal

abbrev pub invariant-loop-row : goal.invariant-loop-row
invariant-loop-row g l = l.awards.items ≡ map (award_of (g.D.Divisors.divisor l.divisors) (g.D.Divisors.unit_of l.divisors) (kept_poll l.poll)) (take l.row-index l.awarded.pairs.items)
