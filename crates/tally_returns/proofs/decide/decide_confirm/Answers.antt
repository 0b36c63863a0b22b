use Rattle.std.proofs.Common.{ap, arith}
use Rattle.std.specs.Option.{option_copied}
use Rattle.tally_returns.proofs.decide.decide_confirm.Goals as goal

pub closed-requires : goal.closed-requires
closed-requires c = omega (arith, c.requires c.in-Some.standing.now (ap option_copied c.in-Some.is), c.in_ok-check_move.ensures.not_last)
