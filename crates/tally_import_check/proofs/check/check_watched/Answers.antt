use Rattle.std.proofs.Common.{subst}
use Rattle.std.specs.Io.KnownBytes.{Appends}
use Rattle.tally_import_check.proofs.AnswerLemmas.{Checks-fault, Keeps-same, OnOk-then, written-text}
use Rattle.tally_import_check.proofs.check.check_watched.Goals as goal

pub returns-in-Ok-clause-written : goal.returns-in-Ok-clause-written
returns-in-Ok-clause-written g c =
    let old = g.W.Write.contents c.args.writer.now in
    let new = g.W.Write.contents c.write_watched.new.writer in
    OnOk-then c.write_watched.result c.write_watched.ensures.ok (λ appends.
    written-text c.args.lines c.args.sep (g.R.Read.remaining c.args.reader.now) (g.R.Read.remaining c.checked_text.new.reader) old new _ c.in-Ok.ensures.finds
    (subst (Appends old new) c.as_bytes.ensures.value appends))

pub returns-in-Err-clause-answered : goal.returns-in-Err-clause-answered
returns-in-Err-clause-answered g c =
    Checks-fault c.args.lines c.args.sep _ (g.R.Read.remaining c.checked_text.new.reader) _ _ c.in-Err.fault c.in-Err.ensures.finds (Keeps-same _)
