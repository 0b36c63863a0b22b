use Rattle.std.proofs.Common.{◌++◌, ◌∷◌, ◌∙◌, [], ap, sym, take}
use Rattle.std.proofs.lemmas.List.{map_more}
use Rattle.tally_setup.specs.Constituency.{ListEntry, list_codes}
use Rattle.tally_import.proofs.lines.list_codes.Goals as goal

pub loop-list-preserved : goal.loop-list-preserved
loop-list-preserved c =
    let lists = c.args.lists.now in
    let at = c.loop-list.list-index in
    c.in_ok-push.ensures.items ∙ ap (λ codes. codes ++ c.list.inside.code ∷ []) c.loop-list.invariant
    ∙ ap (λ (list : ListEntry). list_codes (take at lists) ++ list.code ∷ []) (c.list.view_is ∙ c.list-item.is)
    ∙ sym (map_more (λ (list : ListEntry). list.code) lists at c.list-item.result c.loop-list-test.true)
