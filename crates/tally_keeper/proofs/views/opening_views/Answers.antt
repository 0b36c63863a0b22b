use Rattle.std.proofs.Common.{◌≡◌, ◌∙◌, ◌++◌, ◌∷◌, ◌+◌, [], take, sym, ap, subst}
use Rattle.std.specs.FinMap.{insert}
use Rattle.std.proofs.lemmas.List.{take_more}
use Rattle.tally_setup.specs.Constituency.{Constituency}
use Rattle.tally_setup.specs.Limits.{IsSetup}
use Rattle.tally_keeper.specs.internal.Rows.{opening_views}
use Rattle.tally_keeper.proofs.OpeningLemmas.{opening_views-more}
use Rattle.tally_keeper.proofs.TreeLemmas.{tree-insert}
use Rattle.tally_keeper.proofs.views.opening_views.Goals as goal

pub loop-con-preserved : goal.loop-con-preserved
loop-con-preserved c =
    let i = c.loop-con.con-index in
    let con = c.con-item.result in
    let cons = c.cons-cons.result.now in
    let code : c.con.inside.code ≡ con.code = ap (λ (con : Constituency). con.code) c.con.view_is in
    let limits : IsSetup cons = subst IsSetup (sym c.cons-cons.ensures.cons) c.cons-cons.ensures.limits in
    let next : take (i + 1) cons ≡ take i cons ++ con ∷ [] = take_more cons i con c.loop-con-test.true ∙ ap (λ x. take i cons ++ x ∷ []) (sym c.con-item.is) in
    tree-insert c.loop-con.views c.insert.new.self c.con.inside.code c.in_ok-opening_view.field-0 c.in_ok-insert.ensures.updates
    ∙ ap (λ views. insert views c.con.inside.code c.in_ok-opening_view.field-0) c.loop-con.invariant
    ∙ ap (λ q. insert (opening_views (take i cons)) q c.in_ok-opening_view.field-0) code
    ∙ ap (insert (opening_views (take i cons)) con.code) c.in_ok-opening_view.ensures
    ∙ sym (opening_views-more cons i con limits next)
