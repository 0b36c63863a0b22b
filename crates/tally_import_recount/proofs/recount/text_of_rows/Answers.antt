use Rattle.std.proofs.Common.{ap, subst}
use Rattle.tally_import.specs.ReturnRowsValue.{ReturnRows}
use Rattle.tally_import_votes.specs.Lot.{words_given}
use Rattle.tally_import_recount.specs.Recounts.{AreRowsOf}
use Rattle.tally_import_options.specs.WantedRecount.{wanted}
use Rattle.tally_import_recount.proofs.FoundLemmas.{found-outcome, outcome-reading, where-known}
use Rattle.tally_import_recount.proofs.recount.text_of_rows.Goals as goal

pub take_rows-requires-clause-lists : goal.take_rows-requires-clause-lists
take_rows-requires-clause-lists g c = c.in-Ok.ensures.lists

pub text_counted-requires-clause-taken : goal.text_counted-requires-clause-taken
text_counted-requires-clause-taken g c =
    let came = c.in_default.ensures.taken in
    (came.0, came.1 c.args.con.now (words_given (wanted c.args.options.now).without) c.in-Ok.ensures.taken)

pub returns-clause-finds : goal.returns-clause-finds
returns-clause-finds g c =
    let con = c.args.con.now in
    let w = wanted c.args.options.now in
    let rows = c.args.rows.now in
    let came = c.in_default.ensures.taken in
    let is = c.in-Err-text_counted.ensures came.0 (came.1 con (words_given w.without) c.in-Ok.ensures.taken) in
    where-known rows.text (λ t. AreRowsOf rows.con rows.sep t came.0) _
    (λ t are. found-outcome con w t came.0 c.in-Err-text_counted.trouble c.in-Ok.ensures.known
    (subst (λ s. AreRowsOf con s t came.0) (ap (λ (r : ReturnRows). r.sep) c.requires.unread)
    (subst (λ k. AreRowsOf k rows.sep t came.0) (ap (λ (r : ReturnRows). r.con) c.requires.unread) are))
    is)
    came.2

pub returns-clause-read : goal.returns-clause-read
returns-clause-read g c =
    let con = c.args.con.now in
    let w = wanted c.args.options.now in
    let came = c.in_default.ensures.taken in
    let is = c.in-Err-text_counted.ensures came.0 (came.1 con (words_given w.without) c.in-Ok.ensures.taken) in
    outcome-reading con w came.0 c.in-Err-text_counted.trouble c.take_rows.new.rows.failed is

pub returns-in-Ok-text_counted-clause-finds : goal.returns-in-Ok-text_counted-clause-finds
returns-in-Ok-text_counted-clause-finds g c =
    let con = c.args.con.now in
    let w = wanted c.args.options.now in
    let rows = c.args.rows.now in
    let came = c.in_default.ensures.taken in
    let is = c.in-Ok-text_counted.ensures came.0 (came.1 con (words_given w.without) c.in-Ok.ensures.taken) in
    where-known rows.text (λ t. AreRowsOf rows.con rows.sep t came.0) _
    (λ t are. (
      c.in-Ok.ensures.known,
      (
        came.0,
        subst (λ s. AreRowsOf con s t came.0) (ap (λ (r : ReturnRows). r.sep) c.requires.unread)
            (subst (λ k. AreRowsOf k rows.sep t came.0) (ap (λ (r : ReturnRows). r.con) c.requires.unread) are),
        is,
      ),
    ))
    came.2
