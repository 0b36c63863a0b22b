use Rattle.std.proofs.Common.{sym, arith}
use Rattle.tally_import_records.proofs.PieceLemmas.{ends_line-at}
use Rattle.tally_import_records.proofs.cut.given_size.Goals as goal

pub returns-then-branch-clause-given : goal.returns-then-branch-clause-given
returns-then-branch-clause-given c some =
    (ends_line-at c.args.piece.now c.start_of-start.result some (omega (arith, c.if-start-piece.false)) (sym c.if-not-is_line_end.ensures), c.in_ok-is_given.ensures.given c.if-branch.true)
