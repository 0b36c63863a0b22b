use Rattle.std.proofs.Common.{◌≡◌, ◌-◌, ◌∙◌, Some, ap, sym, arith}
use Rattle.std.specs.List.{slice_get}
use Rattle.std.specs.Option.{option_copied}
use Rattle.tally_setup.specs.Constituency.{ListEntry}
use Rattle.tally_setup.proofs.SetupLemmas.{slice_get-lookup}
use Rattle.tally_desk_answer.proofs.ShownLemmas.{code_at_place-some}
use Rattle.tally_desk_answer.proofs.show.code_at_place.Goals as goal

pub returns-in-Some : goal.returns-in-Some
returns-in-Some c =
    let lists = c.args.lists.now in
    let l = c.args.place - 1 in
    let found : slice_get lists l ≡ Some c.in-Some.list.now = slice_get-lookup lists l c.get.result c.get.ensures.lookup ∙ ap option_copied c.in-Some.is in
    c.as_str.ensures.text ∙ ap (λ (e : ListEntry). e.code) c.list.view_is
    ∙ sym (code_at_place-some lists c.args.place l c.in-Some.list.now (omega (arith, c.if-place-eq0.false)) found)
