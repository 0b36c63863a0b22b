use Rattle.std.proofs.Common.{◌≡◌, ◌∙◌, ◌+◌, ◌++◌, ◌∷◌, [], ap, subst, sym, take}
use Rattle.std.specs.List.{AllZip}
use Rattle.std.proofs.lemmas.List.{take_more}
use Rattle.std.proofs.lemmas.Slice.Zip.{all_zipped_more}
use Rattle.tally_returns.specs.View.{FitsView}
use Rattle.tally_test_report.proofs.views.views_of.Goals as goal

pub loop-con-preserved : goal.loop-con-preserved
loop-con-preserved c =
    let cons = c.args.cons.now in
    let i = c.loop-con.con-index in
    let con = c.con-item.result in
    let next : take (i + 1) cons ≡ take i cons ++ con ∷ [] = take_more cons i con c.loop-con-test.true ∙ ap (λ k. take i cons ++ k ∷ []) (sym c.con-item.is) in
    subst (λ ks. AllZip FitsView ks c.push.new.self.items) (sym next) (
    subst (λ vs. AllZip FitsView (take i cons ++ con ∷ []) vs) (sym c.in_ok-push.ensures.items)
    (all_zipped_more FitsView (take i cons) c.loop-con.views.items con c.in_ok-fitting.field-0 c.loop-con.invariant c.in_ok-fitting.ensures))
