use Rattle.tally_import_options.specs.Wanted.{wanted}
use Rattle.tally_import_votes.proofs.AnswerLemmas.{IfSome-then, allots-trouble}
use Rattle.tally_import_votes.proofs.allot.allot_watched.Goals as goal

pub returns-clause-answered : goal.returns-clause-answered
returns-clause-answered g c =
    IfSome-then (g.R.Read.remaining c.args.reader.now) _ _ c.in-Err.ensures.finds
    (λ text found. allots-trouble (wanted c.args.options.now) text (g.R.Read.remaining c.text_of_input.new.reader) (g.W.Write.contents c.args.writer.now) c.in-Err.trouble found)
