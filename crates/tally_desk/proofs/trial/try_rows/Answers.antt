use Rattle.std.proofs.Common.{◌≡◌, ◌∙◌, List, [], OnOk, ap, subst, sym}
use Rattle.tally_setup.specs.Constituency.{Constituency, ListEntry, list_codes}
use Rattle.tally_returns_rows.specs.NamedRows.{NamesRows}
use Rattle.tally_returns_rows.specs.Source.{Delivery, SourceAt}
use Rattle.tally_returns_rows.specs.declared.import.NamedRow.{NamedRow}
use Rattle.tally_import.specs.ReturnRowsValue.{ReturnRows, rows_to_come}
use Rattle.tally_desk.proofs.DeskLemmas.{gives-trial}
use Rattle.tally_desk.proofs.trial.try_rows.Goals as goal

-- the state of the rows of a text as a source
abbrev rows_at : ReturnRows → SourceAt
rows_at rows = record { coming = rows_to_come rows; given = rows.given; ended = rows.ended }

pub returns-clause-tries : goal.returns-clause-tries
returns-clause-tries g c sure =
    let k = g.K.Keeper in
    let setup = k.constituencies c.args.keeper.now in
    let old = k.content c.args.keeper.now in
    let tried = c.trial_from-outcome in
    let named = c.deref-3.result.now in
    let d : Delivery = record { start = rows_at c.new-rows.result; finish = rows_at tried.new.rows } in
    let names : OnOk tried.result (NamesRows setup old d [] named) =
    subst (λ (l : List NamedRow). OnOk tried.result (NamesRows setup old d l named)) c.new-named.ensures.items
    (subst (λ (l : List NamedRow). OnOk tried.result (NamesRows setup old d c.new-named.result.items l)) (sym c.deref-3.ensures.value) (tried.ensures.named sure)) in
    let lists : c.deref-2.result.now ≡ list_codes c.args.con.lists = c.deref-2.ensures.value ∙ c.in-Ok.ensures ∙ ap (λ (l : List ListEntry). list_codes l) (c.deref.ensures.value ∙ ap (λ (con : Constituency). con.lists) c.con.view_is) in
    gives-trial setup old (k.content tried.new.self) c.args.con c.args.sep c.args.text.now d tried.result named c.deref-2.result.now c.trial_answer.result
    (ap rows_to_come c.new-rows.ensures) (tried.ensures.tried sure) names lists c.trial_answer.ensures.text c.trial_answer.ensures.failed
