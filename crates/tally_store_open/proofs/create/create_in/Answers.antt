use Rattle.sqlite.specs.Held.{state}
use Rattle.tally_store_open.specs.Crash.{LeavesOpening}
use Rattle.tally_store_open.proofs.UnwrittenLemmas.{ends_untouched}
use Rattle.tally_store_open.proofs.create.create_in.Goals as goal

pub returns-in-Err-clause-fault : goal.returns-in-Err-clause-fault
returns-in-Err-clause-fault g c = c.in-Err.ensures.fault (state g.S.Store c.args.conn.now).now.schema

pub returns-in-Err-clause-ends : goal.returns-in-Err-clause-ends
returns-in-Err-clause-ends g c = ends_untouched (LeavesOpening c.args.text.now) _ (state g.S.Store c.args.conn.now) c.requires.autocommit

pub returns-in-Err-check_unset-clause-ends : goal.returns-in-Err-check_unset-clause-ends
returns-in-Err-check_unset-clause-ends g c = ends_untouched (LeavesOpening c.args.text.now) _ (state g.S.Store c.args.conn.now) c.requires.autocommit
