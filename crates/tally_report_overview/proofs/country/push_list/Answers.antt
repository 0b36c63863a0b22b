use Rattle.std.proofs.Common.{◌≡◌, Result, Ok, Err, Some, ap, sym, ◌∙◌, string_bytes}
use Rattle.std.specs.Prelude.{OnOk}
use Rattle.std.specs.BTreeMap.{get}
use Rattle.tally_setup.specs.Code.{code_cmp}
use Rattle.tally_setup.specs.Constituency.{ListEntry}
use Rattle.tally_report_overview.specs.internal.Totals.{Found, without}
use Rattle.tally_report_overview.proofs.TotalLemmas.{line-next, without-is}
use Rattle.tally_report_overview.proofs.country.push_list.Goals as goal

on_ok : {X E A B : Type 0} (r : Result X E) → OnOk r A → (A → B) → OnOk r B
on_ok (Ok x) ok f = f ok
on_ok (Err e) ok f = tt

pub returns-in-Some : goal.returns-in-Some
returns-in-Some c =
    let list = c.args.list.now in
    let found : Found = get code_cmp c.args.totals.now in
    let code : c.list.inside.code ≡ list.code = ap (λ (l : ListEntry). l.code) c.list.view_is in
    let left : get code_cmp c.remove.new.self ≡ without list.code found =
    without-is c.list.inside.code c.args.totals.now c.remove.new.self c.remove.ensures.updates ∙ ap (λ k. without k found) code in
    let is : found list.code ≡ Some c.in-Some.total = ap found (sym code) ∙ sym c.remove.ensures.value ∙ c.in-Some.is in
    on_ok c.push_total.result c.push_total.ensures
    (λ text. line-next list found (get code_cmp c.remove.new.self) c.in-Some.total (string_bytes c.args.text.now) (string_bytes c.push_total.new.text) left is text)
