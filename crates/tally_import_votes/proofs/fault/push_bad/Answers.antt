use Rattle.std.proofs.Common.{◌++◌, codes, string_bytes}
use Rattle.std.specs.Fmt.{decimal}
use Rattle.tally_import_votes.specs.Troubles.{bad_votes_text}
use Rattle.tally_import_votes.proofs.AnswerLemmas.{append-on}
use Rattle.tally_import_votes.proofs.fault.push_bad.Goals as goal

pub returns : goal.returns
returns c =
    append-on c.push_cause.result (string_bytes c.args.text.now) (string_bytes c.write.new.self) (string_bytes c.push_cause.new.text)
    (codes "refused: bad_row " ++ decimal c.args.number ++ codes " ") (bad_votes_text c.args.cause.now) c.in_ok-write.ensures.bytes c.push_cause.ensures
