use Rattle.tally_store_commands.specs.internal.Counting.{with_move}
use Rattle.tally_store_commands.proofs.KnownLemmas.{not_written, written}
use Rattle.tally_store_commands.proofs.known.count_move.Goals as goal

pub returns-in-Some : goal.returns-in-Some
returns-in-Some c =
    written c.args.known.now (c.get_mut.follows.lender c.move_one.new.statuses) c.args.con c.in-Some.statuses.now (with_move c.args.before c.args.standing) c.move_one.new.statuses
    c.in-Some.ensures.value c.move_one.ensures (c.get_mut.follows.holds c.move_one.new.statuses)

pub returns-in_default : goal.returns-in_default
returns-in_default c = not_written c.args.known.now c.get_mut.follows.lender-at-none c.args.con (with_move c.args.before c.args.standing) c.in_default.ensures.value c.get_mut.follows.holds-at-none
