use Rattle.std.proofs.Common.{◌∙◌, Some, option_map, ap, sym}
use Rattle.tally_setup.specs.Constituency.{Constituency}
use Rattle.tally_office_trouble.proofs.NamedLemmas.{con-code}
use Rattle.tally_office_trouble.proofs.named.code_named.Goals as goal

pub returns : goal.returns
returns c =
    let con = c.in_ok-con.con.now in
    let text = c.args.text.now in
    let is = con-code text c.args.setup.now con (sym c.in_ok-con.ensures) in
    ap Some (ap (λ (v : Constituency). v.code) c.con.view_is ∙ sym is) ∙ ap (option_map (λ (v : Constituency). text)) c.in_ok-con.ensures
