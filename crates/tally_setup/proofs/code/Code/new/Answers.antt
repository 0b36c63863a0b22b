use Rattle.std.proofs.Common.{◌≡◌, ◌∙◌, sym, ap, ◌≤◌, length, true}
use Rattle.tally_setup.specs.Code.{is_code}
use Rattle.tally_setup.proofs.CodeLemmas.{length-code, length-padded, take-padded, drop-padded}
use Rattle.tally_setup.proofs.code.Code.new.Goals as goal

pub invariant_of-result : goal.invariant_of-result
invariant_of-result c =
    let text = c.args.text.now in
    let code : is_code text ≡ true = sym c.is_code.ensures ∙ c.if-not-is_code.false in
    let few : length text ≤ 16 = length-code text code in
    rw c.copy_from_slice.ensures.after (few, length-padded text few, ap is_code (take-padded text) ∙ code, drop-padded text)
