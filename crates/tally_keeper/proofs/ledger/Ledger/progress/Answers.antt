use Rattle.std.proofs.Common.{◌≡◌, ◌∙◌, ◌++◌, ◌∷◌, ◌+◌, [], Some, true, false, map, take, sym, ap, subst}
use Rattle.std.specs.Prelude.{is_some}
use Rattle.std.specs.FinMap.{get}
use Rattle.std.proofs.lemmas.List.{map-append, take_more}
use Rattle.tally_setup.specs.Constituency.{Constituency}
use Rattle.tally_returns.specs.Progress.{progress_row}
use Rattle.tally_keeper.specs.Kept.{Kept, state_in}
use Rattle.tally_keeper.specs.internal.Rows.{returns_of, progress_row_of, views_of}
use Rattle.tally_keeper.proofs.ChangeLemmas.{held-has, row-is}
use Rattle.tally_setup.proofs.NamedLemmas.{Has, has-at}
use Rattle.tally_keeper.proofs.ledger.Ledger.progress.Goals as goal

pub unreachable-requires : goal.unreachable-requires
unreachable-requires c =
    let setup = c.self.inside.setup in
    let con = c.con-item.result in
    let cons = c.cons-cons.result.now in
    let code : c.con.inside.code ≡ con.code = ap (λ (con : Constituency). con.code) c.con.view_is in
    let has : Has con setup = subst (Has con) c.cons-cons.ensures.cons (subst (λ (x : Constituency). Has x cons) (sym c.con-item.is) (has-at cons c.loop-con.con-index con c.loop-con-test.true)) in
    let held = held-has setup (returns_of c.self.inside.returns) (views_of c.self.inside.views) con c.cons-cons.ensures.limits c.self.invariant has in
    let e : false ≡ true = ap is_some (c.in_default.ensures ∙ ap (get (views_of c.self.inside.views)) code) ∙ held in
    cc

pub loop-con-preserved : goal.loop-con-preserved
loop-con-preserved c =
    let setup = c.self.inside.setup in
    let returns = returns_of c.self.inside.returns in
    let views = views_of c.self.inside.views in
    let i = c.loop-con.con-index in
    let con = c.con-item.result in
    let cons = c.cons-cons.result.now in
    let view = c.in-Some.view.now in
    let code : c.con.inside.code ≡ con.code = ap (λ (con : Constituency). con.code) c.con.view_is in
    let has : Has con setup = subst (Has con) c.cons-cons.ensures.cons (subst (λ (x : Constituency). Has x cons) (sym c.con-item.is) (has-at cons i con c.loop-con-test.true)) in
    let there : get views con.code ≡ Some view = ap (get views) (sym code) ∙ sym c.in-Some.ensures in
    let row = c.progress_row.ensures ∙ ap (λ q. progress_row_of q view) code ∙ row-is setup returns views con view c.cons-cons.ensures.limits c.self.invariant has there
    ∙ ap (λ (k : Kept). progress_row (state_in k) con) c.self.view_is in
    let rows = progress_row (state_in c.args.self.now) in
    let next : take (i + 1) cons ≡ take i cons ++ con ∷ [] = take_more cons i con c.loop-con-test.true ∙ ap (λ x. take i cons ++ x ∷ []) (sym c.con-item.is) in
    c.in_ok-push.ensures.items ∙ ap (λ before. before ++ c.progress_row.result ∷ []) c.loop-con.invariant
    ∙ ap (λ r. map rows (take i cons) ++ r ∷ []) row
    ∙ sym (ap (map rows) next ∙ map-append rows (take i cons) (con ∷ []))
