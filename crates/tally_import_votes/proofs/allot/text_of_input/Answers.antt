use Rattle.tally_import_options.specs.Wanted.{wanted}
use Rattle.tally_import_votes.proofs.AnswerLemmas.{IfSome-then, finds}
use Rattle.tally_import_votes.proofs.allot.text_of_input.Goals as goal

pub returns-in-Ok-clause-finds : goal.returns-in-Ok-clause-finds
returns-in-Ok-clause-finds g c =
    IfSome-then (g.R.Read.remaining c.args.reader.now) _ _ c.in-Ok.ensures.gave
    (λ text gave. finds (wanted c.args.options.now) text (g.R.Read.remaining c.read_whole.new.input) c.in-Ok.whole.bytes.items c.in-Ok.whole.stop c.text_of_whole.result gave c.text_of_whole.ensures.finds)
