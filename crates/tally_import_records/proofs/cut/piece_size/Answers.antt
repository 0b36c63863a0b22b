use Rattle.std.proofs.Common.{◌+◌}
use Rattle.tally_import_records.proofs.PieceLemmas.{ends_line-found, last-line, no-line_end}
use Rattle.tally_import_records.proofs.cut.piece_size.Goals as goal

pub returns-in-Some-clause-piece : goal.returns-in-Some-clause-piece
returns-in-Some-clause-piece c =
    ends_line-found c.args.bytes.now c.in-Some.place c.in-Some.ensures.0.high c.in-Some.ensures.1

pub returns-in-Some-clause-last : goal.returns-in-Some-clause-last
returns-in-Some-clause-last c size within line =
    last-line c.args.bytes.now (c.in-Some.place + 1) size (λ k least most. no-line_end _ (c.in-Some.ensures.0.after k least most)) within line

pub returns-in-None-clause-last : goal.returns-in-None-clause-last
returns-in-None-clause-last c size within line =
    last-line c.args.bytes.now 0 size (λ k least most. no-line_end _ (c.in-None.ensures k least most)) within line
