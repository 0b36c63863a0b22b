use Rattle.std.proofs.Common.{arith, Some, Ok, Err, true, false, subst}
use Rattle.tally_desk_message.specs.Connection.{Connections, TakesNext}
use Rattle.tally_desk_message.specs.Memory.{connections_at}
use Rattle.tally_desk_message.specs.declared.door.DoorFault.TheVariants.{Failed}
use Rattle.tally_desk_message.proofs.ConnectionLemmas.{next_is, next_none, current_is}
use Rattle.tally_desk_message.proofs.memory.MemoryDoorDoor.next.Goals as goal

pub returns-then-at-len-clause-connected : goal.returns-then-at-len-clause-connected
returns-then-at-len-clause-connected c = current_is c.self.inside.conns.items c.place_after-at.result (omega (arith, c.if-at-len.true, c.len.ensures, c.self.inside.conns.ok.0))

pub returns-then-at-len-clause-known : goal.returns-then-at-len-clause-known
returns-then-at-len-clause-known c =
    let inside = c.self.inside in
    subst (λ (h : Connections). TakesNext (Some h) (Ok tt) (Some (connections_at inside.conns.items c.place_after-at.result true))) c.self.view_is
    (next_is inside.conns.items inside.at inside.connected c.place_after-at.result c.self.invariant.1 c.place_after-at.ensures (omega (arith, c.if-at-len.true, c.len.ensures, inside.conns.ok.0)))

pub returns-clause-known : goal.returns-clause-known
returns-clause-known c =
    let inside = c.self.inside in
    subst (λ (h : Connections). TakesNext (Some h) (Err Failed) (Some (connections_at inside.conns.items c.place_after-at.result false))) c.self.view_is
    (next_none inside.conns.items inside.at inside.connected c.place_after-at.result c.self.invariant.1 c.place_after-at.ensures (omega (arith, c.if-at-len.false, c.len.ensures, inside.conns.ok.0)))
