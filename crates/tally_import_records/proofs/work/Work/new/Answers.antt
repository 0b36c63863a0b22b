use Rattle.tally_import_records.proofs.WorkLemmas.{HasGiven-new, IfOk-both}
use Rattle.tally_import_records.proofs.work.Work.new.Goals as goal

pub returns-clause-given : goal.returns-clause-given
returns-clause-given g c =
    IfOk-both c.read.result c.read.ensures.fills c.read.ensures.given
    (λ r fills given. HasGiven-new (g.R.Read.remaining c.args.input.now) (g.R.Read.remaining c.read.new.input) c.new.result r c.new.ensures.bytes c.new.ensures.taken fills given)
