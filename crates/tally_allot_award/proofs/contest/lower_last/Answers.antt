use Rattle.std.proofs.Common.{arith}
use Rattle.tally_allot_award.proofs.Scan.{lower_takes}
use Rattle.tally_allot_award.proofs.contest.lower_last.Goals as goal

pub returns-then-is_above : goal.returns-then-is_above
returns-then-is_above g c =
    let before = rw c.in-Some.is at c.requires.before in
    let above = c.is_above.ensures.0 c.if-is_above.true in
    lower_takes (g.C.Contest.terms c.args.contest.now) c.requires.sound c.args.seats.now c.requires.within c.args.list c.in-Some.other c.requires.list before (omega arith) above
