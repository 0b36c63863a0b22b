use Rattle.std.proofs.Common.{◌∙◌, sym}
use Rattle.tally_setup.proofs.CodeLemmas.{is_code-within, length-not_empty}
use Rattle.tally_setup.proofs.code.is_code.Goals as goal

pub returns-then-text-le-LIMIT : goal.returns-then-text-le-LIMIT
returns-then-text-le-LIMIT c =
    let some = length-not_empty _ (sym c.is_empty.ensures ∙ c.if-text-le-LIMIT.true.0) in
    c.are_characters.ensures ∙ sym (is_code-within c.args.text.now some c.if-text-le-LIMIT.true.1)
