use Rattle.std.proofs.Common.{arith}
use Rattle.tally_allot_award.proofs.Scan.{cap_small}
use Rattle.tally_allot_award.proofs.contest.higher_next.Goals as goal

pub overflow_add-other_held : goal.overflow_add-other_held
overflow_add-other_held g c =
    let before = rw c.in-Some.is at c.requires.before in
    omega (arith, cap_small (g.C.Contest.terms c.args.contest.now) c.requires.sound c.in-Some.other, before.1)
