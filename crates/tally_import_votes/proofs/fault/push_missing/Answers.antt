use Rattle.std.proofs.Common.{◌++◌, codes, string_bytes}
use Rattle.std.specs.Fmt.{decimal}
use Rattle.tally_import_votes.specs.Troubles.{codes_text}
use Rattle.tally_import_votes.proofs.AnswerLemmas.{append-on}
use Rattle.tally_import_votes.proofs.fault.push_missing.Goals as goal

pub returns : goal.returns
returns c =
    append-on c.push_codes.result (string_bytes c.args.text.now) (string_bytes c.write.new.self) (string_bytes c.push_codes.new.text)
    (codes "refused: lot_missing " ++ decimal c.args.seats) (codes_text c.args.codes.now) c.in_ok-write.ensures.bytes c.push_codes.ensures
