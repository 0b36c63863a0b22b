use Rattle.tally_office_trouble.proofs.JudgeLemmas.{reading}
use Rattle.tally_office_trouble.proofs.setup.setup_at.Goals as goal

pub returns-in-Err-clause-trouble : goal.returns-in-Err-clause-trouble
returns-in-Err-clause-trouble g c =
    reading (g.F.NamedFiles.Gives c.args.files.now c.args.path.now) c.in-Err.trouble c.in-Err.ensures.named c.in-Err.ensures.over_limit
