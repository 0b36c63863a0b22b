use Rattle.std.proofs.Common.{take, arith, ◌∙◌}
use Rattle.std.proofs.lemmas.List.{length-take}
use Rattle.tally_desk_message.specs.Connection.{Connection}
use Rattle.tally_desk_message.proofs.InputLemmas.{put_behind}
use Rattle.tally_desk_message.proofs.StartLemmas.{reads_on, refused_body, refused_failure, no_longer}
use Rattle.tally_desk_message.proofs.body.read_body.Goals as goal

pub returns-in_err-extend_from_slice-in-Bytes-clause-known : goal.returns-in_err-extend_from_slice-in-Bytes-clause-known
returns-in_err-extend_from_slice-in-Bytes-clause-known g c ended coming connection is =
    let at = c.loop-body.invariant.known ended coming connection is in
    let after = c.in-Bytes.ensures.known ended coming at.0 at.1 in
    (after.0, after.1, (reads_on connection at.0 after.0 at.2.0 after.2.0, refused_body _ _ _ _ c.from_residual.result c.from_residual.ensures.1, refused_failure c.from_residual.result connection after.0 c.from_residual.ensures.1 (after.2.1.1 ∙ at.2.2)))

pub loop-body-preserved : goal.loop-body-preserved
loop-body-preserved g c = record {
  connected = c.in-Bytes.ensures.connected;
  within = omega (arith, c.in_ok-extend_from_slice-in-Bytes.ensures.len, length-take c.read_more.new.count c.read_more.new.room, c.read_more.auto.room, length-take c.min-most.result c.loop-body.piece, c.min-most.ensures, c.len-in-loop-body.ensures, c.loop-body-test.true, c.len.ensures);
  known = λ ended coming connection is.
      let at = c.loop-body.invariant.known ended coming connection is in
      let after = c.in-Bytes.ensures.known ended coming at.0 at.1 in
      let next : Connection = after.0 in
      let came = take c.read_more.new.count c.read_more.new.room in
      let onto = put_behind _ came _ at.0.input next.input c.in_ok-extend_from_slice-in-Bytes.ensures.items after.2.1.0 in
      (next, after.1, (reads_on connection at.0 next at.2.0 after.2.0, at.2.1 ∙ onto, after.2.1.1 ∙ at.2.2));
}

pub returns-in_err-extend_from_slice-in-Bytes-clause-taken : goal.returns-in_err-extend_from_slice-in-Bytes-clause-taken
returns-in_err-extend_from_slice-in-Bytes-clause-taken g c ended coming connection is =
    let at = c.loop-body.invariant.known ended coming connection is in
    let after = c.in-Bytes.ensures.taken ended coming at.0 at.1 in
    let before = no_longer _ connection.input c.loop-body.body.items at.0.input at.2.1 in (
      after.0,
      after.1,
      omega (arith, after.2, before, length-take c.min-most.result c.loop-body.piece, c.min-most.ensures, c.len-in-loop-body.ensures, c.loop-body-test.true, c.len.ensures, c.loop-body.body.ok.0),
    )

pub returns-clause-taken : goal.returns-clause-taken
returns-clause-taken g c ended coming connection is =
    let at = c.loop-body.invariant.known ended coming connection is in
    let before = no_longer _ connection.input c.loop-body.body.items at.0.input at.2.1 in
    (at.0, at.1, omega (arith, before, c.loop-body.invariant.within, c.loop-body.body.ok.0))
