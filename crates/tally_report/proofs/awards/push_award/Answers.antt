use Rattle.std.proofs.Common.{◌≡◌, ◌<◌, ◌∙◌, ◌-◌, ◌++◌, List, ℕ, OnOk, length, string_bytes, ap, subst, arith}
use Rattle.tally_setup.specs.Constituency.{Constituency, ListEntry}
use Rattle.tally_report_lines.specs.Award.{award_columns}
use Rattle.tally_report.proofs.CodeLemmas.{code_at}
use Rattle.tally_report.proofs.awards.push_award.Goals as goal

pub returns : goal.returns
returns c =
    let con = c.args.con.now in
    let award = c.args.award.now in
    let place = award.list - 1 in
    let listed : place < length con.lists = omega (arith, c.requires.from_one, c.requires.listed) in
    let code = code_at con c.con.inside.lists.items place c.index.result.now c.as_str-code.result.now (ap (λ (k : Constituency). k.lists) c.con.view_is) listed c.index.ensures
    (c.as_str-code.ensures.text ∙ ap (λ (l : ListEntry). l.code) c.behind-con.view_is) in
    subst (λ (t : List ℕ). OnOk c.push_award_of.result (string_bytes c.push_award_of.new.text ≡ string_bytes c.args.text.now ++ award_columns t c.args.n award))
    code c.push_award_of.ensures
