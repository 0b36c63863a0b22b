use Rattle.std.proofs.Common.{◌∙◌, [], ap, rules, sym, true≢false}
use Rattle.sqlite.specs.State.{HasCleanDisk}
use Rattle.sqlite.specs.Held.{state}
use Rattle.tally_store.proofs.TrialLemmas.{is_of_text, open_by_fault, prepared_ends}
use Rattle.tally_store.proofs.requests.unless_shut.Goals as goal

pub returns-in-Err-SqlInputError-clause-ends : goal.returns-in-Err-SqlInputError-clause-ends
returns-in-Err-SqlInputError-clause-ends g c = prepared_ends _ (state g.S.Store c.args.conn.now) (state g.S.Store c.prepare.new.self) _ c.prepare.result (search rules) (search rules) c.prepare.ensures.ok c.prepare.ensures.err c.prepare.ensures.survives

pub returns-in-Err-SqlInputError-clause-shut : goal.returns-in-Err-SqlInputError-clause-shut
unfolding is_of_text
returns-in-Err-SqlInputError-clause-shut g c clean is =
    let refused = c.in-Err-SqlInputError.ensures.err clean [] in
    let now = open_by_fault (state g.S.Store c.args.conn.now) (state g.S.Store c.prepare.new.self) _ _ (ap is_of_text c.in-Err-SqlInputError.field-0-is) refused in
    absurd (true≢false (sym now ∙ is))

pub returns-in_default-clause-ends : goal.returns-in_default-clause-ends
returns-in_default-clause-ends g c = prepared_ends _ (state g.S.Store c.args.conn.now) (state g.S.Store c.prepare.new.self) _ c.prepare.result (search rules) (search rules) c.prepare.ensures.ok c.prepare.ensures.err c.prepare.ensures.survives
