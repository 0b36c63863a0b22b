use Rattle.std.proofs.Common.{◌∙◌, ap, sym}
use Rattle.std.specs.List.{list_all}
use Rattle.tally_setup.specs.Text.{is_character}
use Rattle.tally_setup.proofs.CodeLemmas.{length-not_empty}
use Rattle.tally_setup.proofs.TextLemmas.{is_short_line-within}
use Rattle.tally_setup.proofs.text.is_short_line.Goals as goal

pub returns-then-text-limit : goal.returns-then-text-limit
returns-then-text-limit c =
    let some = length-not_empty _ (sym c.is_empty.ensures ∙ c.if-text-limit.true.0) in
    c.are_characters.ensures ∙ ap (list_all is_character) c.as_bytes.ensures.value ∙ sym (is_short_line-within c.args.limit c.args.text.now some c.if-text-limit.true.1)
