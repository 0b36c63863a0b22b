use Rattle.tally_desk_routes.specs.Bodies.{con_command}
use Rattle.tally_desk.specs.Requests.{Orders}
use Rattle.tally_desk.proofs.DeskLemmas.{con-answer, con-ordered}
use Rattle.tally_desk.proofs.command.order_on_con.Goals as goal

pub returns-in-Ok-clause-gives : goal.returns-in-Ok-clause-gives
returns-in-Ok-clause-gives g c sure =
    let k = g.K.Keeper in
    let setup = k.constituencies c.args.keeper.now in
    let old = k.content c.args.keeper.now in
    let new = k.content c.order.new.keeper in
    let m = c.args.message.now in
    con-answer c.setup.result.now setup old new m c.deref.result.now c.in-Some.con c.con_in_target.result (λ code con. Orders setup old con (con_command c.args.command code) m) c.order.result.items
    c.con_in_target.ensures c.setup.ensures.setup c.deref.ensures.value c.in-Some.is
    (λ con found. con-ordered setup old new m con (con_command c.args.command c.in-Some.con) c.in-Some.con c.deref-2.result.now c.order.result.items c.in-Ok.ask
    c.deref-2.ensures.value c.in-Ok.ensures found (c.order.ensures.orders sure))
