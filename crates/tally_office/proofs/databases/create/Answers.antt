use Rattle.sqlite.specs.Held.{state}
use Rattle.tally_office.proofs.MakingLemmas.{of-create}
use Rattle.tally_office.proofs.databases.create.Goals as goal

pub returns-in-Err-clause-trouble : goal.returns-in-Err-clause-trouble
returns-in-Err-clause-trouble g c = of-create c.args.text.now (state g.S.Store c.args.conn).now.schema c.in-Err.fault c.in-Err.ensures.fault
