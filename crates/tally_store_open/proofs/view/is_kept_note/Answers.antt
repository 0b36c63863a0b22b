use Rattle.std.proofs.Common.{◌∙◌}
use Rattle.tally_store_open.proofs.SeenLemmas.{kept_is}
use Rattle.tally_store_open.proofs.view.is_kept_note.Goals as goal

pub returns : goal.returns
returns c = c.good_note.ensures ∙ kept_is c.args.note.now c.utf8.note
