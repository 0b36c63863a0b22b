use Rattle.std.proofs.Common.{◌∙◌, ℕ, Bool, ap, subst}
use Rattle.sqlite.specs.Held.{state}
use Rattle.tally_setup.specs.Constituency.{Constituency}
use Rattle.tally_store_entries.specs.internal.Found.{IsStageAmong}
use Rattle.tally_store_entries.proofs.StatusLemmas.{finds_row}
use Rattle.tally_store_entries.proofs.views.find_progress_row.Goals as goal

pub returns-clause-found : goal.returns-clause-found
returns-clause-found g c clean at =
    let con = c.args.con.now in
    let rows = c.args.cons.now in
    let old = state g.S.Store c.args.tx.now.conn.now in
    let own = ap (λ (x : Constituency). x.code) c.con.view_is in
    let stage : ℕ × Bool = (c.in_ok-edition.edition, c.in_ok-edition.certified) in
    let among : IsStageAmong con.code rows stage = subst (λ k. IsStageAmong k rows stage) (c.as_str.ensures.text ∙ own) c.in_ok-edition.ensures in
    finds_row con c.con.inside.code c.args.known rows old stage c.in_ok-statuses.statuses own among (c.in_ok-statuses.ensures.found clean at)
