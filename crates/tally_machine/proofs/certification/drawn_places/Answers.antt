use Rattle.std.proofs.Common.{◌≡◌, ◌<◌, length, arith, ap}
use Rattle.tally_setup.specs.Constituency.{Constituency}
use Rattle.tally_machine.proofs.DrawLemmas.{too_long}
use Rattle.tally_machine.proofs.certification.drawn_places.Goals as goal

pub returns-then-order-len-clause-refused : goal.returns-then-order-len-clause-refused
returns-then-order-len-clause-refused c = λ _.
    let lists : length c.con.inside.lists.items ≡ length c.args.con.now.lists = ap (λ (k : Constituency). length k.lists) c.con.view_is in
    let long : length c.args.con.now.lists < length c.args.order.now = omega (arith, lists, c.if-order-len.true, c.len.ensures, c.con.inside.lists.ok.0) in
    too_long c.args.con.now c.args.order.now c.args.group.now c.requires long
