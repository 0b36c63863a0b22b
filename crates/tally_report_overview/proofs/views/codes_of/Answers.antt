use Rattle.std.proofs.Common.{◌∙◌, ◌++◌, [], ◌∷◌, get_or, take, ap, sym}
use Rattle.std.proofs.lemmas.List.{map-append, take_all, take_more}
use Rattle.tally_setup.specs.Constituency.{Constituency}
use Rattle.tally_setup.specs.Setup.{constituency_codes}
use Rattle.tally_report_overview.proofs.views.codes_of.Goals as goal

pub loop-con-preserved : goal.loop-con-preserved
loop-con-preserved c =
    let cons = c.cons-con-items.result.now in
    let i = c.loop-con.con-index in
    let con = c.con-item.result in
    c.in_ok-push.ensures.items
    ∙ ap (λ codes. codes ++ c.con.inside.code ∷ []) c.loop-con.invariant
    ∙ ap (λ code. constituency_codes (take i cons) ++ code ∷ []) (ap (λ (k : Constituency). k.code) c.con.view_is ∙ ap (λ (k : Constituency). k.code) c.con-item.is)
    ∙ sym (map-append (λ (k : Constituency). k.code) (take i cons) (get_or cons i con ∷ []))
    ∙ ap constituency_codes (sym (take_more cons i con c.loop-con-test.true))

pub returns-clause-codes : goal.returns-clause-codes
returns-clause-codes c =
    c.loop-con.invariant ∙ ap constituency_codes (take_all c.loop-con.con-index c.cons-con-items.result.now c.loop-con-test.false ∙ c.cons-con-items.ensures.cons)
