use Rattle.std.proofs.Common.{ap, subst, sym, ◌∙◌, Some}
use Rattle.std.proofs.lemmas.Option.{same_Some}
use Rattle.tally_desk_message.specs.Connection.{Connection, HasRead}
use Rattle.tally_desk_message.proofs.ConnectionLemmas.{at_current}
use Rattle.tally_desk_message.proofs.memory.MemoryDoorDoor.read.Goals as goal

pub returns-clause-known : goal.returns-clause-known
returns-clause-known c ended coming connection is =
    let inside = c.self.inside in
    let w = c.index_mut.result.now in
    let found = at_current inside.conns.items inside.at inside.connected ended coming connection w c.read.new.self c.self.invariant.1 (c.self.view_is ∙ same_Some _ _ is) c.index_mut.ensures.value in
    (c.read.new.self, ap Some found.1, subst (λ (t : Connection). HasRead t c.read.new.buf c.read.result c.read.new.self) (sym found.0) c.read.ensures)
