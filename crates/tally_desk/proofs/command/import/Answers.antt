use Rattle.tally_desk.specs.Requests.{ImportsBody, ImportsText}
use Rattle.tally_desk.proofs.DeskLemmas.{con-answer, con-copied}
use Rattle.tally_desk.proofs.command.import.Goals as goal

pub returns-clause-gives : goal.returns-clause-gives
returns-clause-gives g c sure =
    let k = g.K.Keeper in
    let setup = k.constituencies c.args.keeper.now in
    let old = k.content c.args.keeper.now in
    let new = k.content c.lodge_rows.new.keeper in
    let m = c.args.message.now in
    con-answer c.setup.result.now setup old new m c.deref.result.now c.in-Some.code c.con_in_target.result (λ code con. ImportsBody setup old con c.args.sep m) c.lodge_rows.result.items
    c.con_in_target.ensures c.setup.ensures.setup c.deref.ensures.value c.in-Some.is
    (λ con found. con-copied c.setup-2.result.now setup m con c.in_ok-con.con c.in-Some.code c.deref-2.result.now (λ con text. ImportsText setup old con c.args.sep text c.lodge_rows.result.items new)
    c.setup-2.ensures.setup c.in_ok-con.ensures c.deref-2.ensures.value found (c.lodge_rows.ensures.imports sure))
