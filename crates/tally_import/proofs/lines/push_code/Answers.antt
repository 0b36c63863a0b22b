use Rattle.std.proofs.Common.{◌≡◌, ap, arith, length}
use Rattle.tally_setup.proofs.CodeLemmas.{length-code}
use Rattle.tally_import.proofs.lines.push_code.Goals as goal

pub push-requires : goal.push-requires
push-requires c =
    let is : c.as_str.result.now ≡ c.args.code.now = c.as_str.ensures.text in
    omega (arith, c.requires, length-code c.args.code.now c.as_str.ensures.code, ap length is)

pub returns-clause-len : goal.returns-clause-len
returns-clause-len c =
    let is : c.as_str.result.now ≡ c.args.code.now = c.as_str.ensures.text in
    omega (arith, c.push.ensures.len, length-code c.args.code.now c.as_str.ensures.code, ap length is)
