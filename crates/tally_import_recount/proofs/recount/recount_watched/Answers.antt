use Rattle.std.proofs.Common.{Err, Ok, string_bytes}
use Rattle.tally_import_options.specs.WantedRecount.{wanted}
use Rattle.tally_import_recount.specs.internal.Finds.{FindsText}
use Rattle.tally_import_recount.proofs.FoundLemmas.{Keeps-same, kept-trouble, where-known, written-part}
use Rattle.tally_import_recount.proofs.recount.recount_watched.Goals as goal

pub returns-in-Ok-clause-answered : goal.returns-in-Ok-clause-answered
returns-in-Ok-clause-answered g c =
    let con = c.args.con.now in
    let w = wanted c.args.options.now in
    let part = c.in-Err-write_watched.ensures.err in
    where-known (g.R.Read.remaining c.args.reader) (λ text. FindsText con w text (Ok c.in-Ok.text)) _
    (λ text found. written-part con w text (g.W.Write.contents c.args.writer.now) (g.W.Write.contents c.write_watched.new.writer)
    (string_bytes c.in-Ok.text) c.as_bytes.result.now part.0 c.as_bytes.ensures.value found part.1)
    c.in-Ok.ensures.finds

pub returns-clause-answered : goal.returns-clause-answered
returns-clause-answered g c =
    let con = c.args.con.now in
    let w = wanted c.args.options.now in
    let writer = g.W.Write.contents c.args.writer.now in
    where-known (g.R.Read.remaining c.args.reader) (λ text. FindsText con w text (Err c.in-Err.trouble)) _
    (λ text found. kept-trouble con w text writer c.in-Err.trouble (Keeps-same writer) found)
    c.in-Err.ensures.finds
