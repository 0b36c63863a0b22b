use Rattle.std.proofs.Common.{arith, take}
use Rattle.tally_desk_message.proofs.InputLemmas.{read_behind, only_input}
use Rattle.tally_desk_message.proofs.input.read_more.Goals as goal

pub returns-clause-known : goal.returns-clause-known
returns-clause-known g c ended coming connection is =
    let after = c.in-Ok.ensures.known ended coming connection is in
    let buf = c.read.new.buf in
    let came = c.in-Ok.came in
    let behind = read_behind c.args.count.now _ came c.args.room.now buf connection.input after.0.input (omega arith) after.2.0 after.2.1 in
    let only = only_input connection after.0 after.2.2 in
    (after.0, after.1, ((take came buf, after.2.1, only.0), (behind, only.1)))
