use Rattle.std.proofs.lemmas.Result.{IfOk-weaker}
use Rattle.sqlite.specs.Held.{state}
use Rattle.tally_store_entries.proofs.ConLemmas.{gone_written}
use Rattle.tally_store_entries.proofs.constituencies.put_gone.Goals as goal

pub returns-clause-written : goal.returns-clause-written
returns-clause-written g c clean inside =
    let old = state g.S.Store c.args.tx.now.conn.now in
    let new = state g.S.Store c.insert_candidate.new.tx.conn.now in
    IfOk-weaker c.insert_candidate.result _ _ (λ _ put. gone_written c.args.con.now c.args.gone.now.list c.args.gone.now.place c.args.gone.now.note old new put) (c.insert_candidate.ensures.inserted clean inside)
