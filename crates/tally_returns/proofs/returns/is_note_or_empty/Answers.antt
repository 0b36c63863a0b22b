use Rattle.std.proofs.Common.{rules, ◌≡◌, ◌∙◌}
use Rattle.tally_returns.proofs.DecideLemmas.{plainly-stands, plainly_stands}
use Rattle.tally_returns.proofs.returns.is_note_or_empty.Goals as goal

pub returns-else-is_empty : goal.returns-else-is_empty
returns-else-is_empty c =
    let is : c.good_note.result ≡ plainly_stands c.args.note.now = search rules in
    is ∙ plainly-stands c.args.note.now c.utf8.note
