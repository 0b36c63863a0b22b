use Rattle.std.proofs.Common.{◌≡◌, ◌∙◌, None, ap, sym}
use Rattle.tally_setup.specs.Code.{code_of}
use Rattle.tally_office_trouble.proofs.NamedLemmas.{no-con}
use Rattle.tally_office_trouble.proofs.named.con_with_code.Goals as goal

pub returns-in_default : goal.returns-in_default
returns-in_default c =
    let none : None ≡ code_of c.args.text.now = sym c.in_default.is ∙ c.new.ensures ∙ ap code_of c.as_bytes.ensures.value in
    no-con c.args.text.now c.args.setup.now c.cons-cons.ensures.limits none
