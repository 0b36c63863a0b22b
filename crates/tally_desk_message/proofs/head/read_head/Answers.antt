use Rattle.std.proofs.Common.{rules, ◌≡◌, ◌≤◌, ◌<◌, ◌++◌, ℕ, [], Err, length, take, refl, subst, sym, ◌∙◌, ap, arith}
use Rattle.std.proofs.lemmas.List.{length-take}
use Rattle.httparse.specs.Grammar.{HasNoRequest}
use Rattle.tally_desk_message.specs.Connection.{Connection}
use Rattle.tally_desk_message.specs.internal.Reading.{ReadsHead}
use Rattle.tally_desk_message.specs.internal.Lines.{no_lines, lines_after}
use Rattle.tally_desk_message.specs.Message.{head_limit, FailsAs}
use Rattle.tally_desk_message.specs.declared.message.MessageFault.{MessageFault}
use Rattle.tally_desk_message.proofs.HeadLemmas.{ended_head, overflowing_head, too_long_head}
use Rattle.tally_desk_message.proofs.LineLemmas.{none_in_nothing}
use Rattle.tally_desk_message.proofs.StartLemmas.{no_longer, reads_on}
use Rattle.tally_desk_message.proofs.head.read_head.Goals as goal

pub loop-count-init : goal.loop-count-init
loop-count-init g c =
    let none : take c.args.count.now c.args.room.now ≡ [] = ap (λ n. take n c.args.room.now) c.requires.empty in
    record {
      connected = c.requires.connected;
      whole = refl;
      short = omega (arith, c.requires.empty);
      fields = c.requires.fields;
      lines = c.new-lines.ensures ∙ ap (lines_after no_lines) (sym none);
      no_head = subst HasNoRequest (sym none) none_in_nothing;
      known = λ ended coming connection is. (connection, is, (([], refl, refl), ap (λ t. t ++ connection.input) (sym none), refl));
    }

pub returns-in_err-head-clause-known : goal.returns-in_err-head-clause-known
returns-in_err-head-clause-known g c ended coming connection is =
    let at = c.loop-count.invariant.known ended coming connection is in
    let after = c.in-Bytes.ensures.known ended coming at.0 at.1 in
    let buf = take c.read_more.new.count c.read_more.new.room in
    let next : Connection = after.0 in
    let taken = length-take c.read_more.new.count c.read_more.new.room in
    let short : length buf ≤ head_limit = omega (arith, taken, c.read_more.auto.room, c.loop-count.invariant.whole, c.requires.room) in
    let found = c.in_err-head.ensures.err in
    let e = c.in_err-head.field-0.0 in
    let is : c.from_residual.result ≡ Err e = search rules in
    let fault = overflowing_head connection.input buf next.input connection.fails e (at.2.1 ∙ after.2.1.0) short found in
    let fails = subst (λ (e : MessageFault). FailsAs {X = ℕ} (Err e) connection next) (sym found.0) (after.2.1.1 ∙ at.2.2) in
    (next, after.1, subst (λ r. ReadsHead r buf connection next) (sym is) (reads_on connection at.0 next at.2.0 after.2.0, tt, fault, fails))

pub returns-clause-known : goal.returns-clause-known
returns-clause-known g c ended coming connection is =
    let was = c.loop-count.invariant in
    let at = was.known ended coming connection is in
    let buf = take c.loop-count.count c.loop-count.room in
    let taken = length-take c.loop-count.count c.loop-count.room in
    let full : head_limit ≤ length buf = omega (arith, taken, c.loop-count-test.false, was.whole, c.requires.room) in
    (at.0, at.1, (at.2.0, tt, too_long_head connection.input buf at.0.input connection.fails at.2.1 full was.no_head, at.2.2))

pub returns-in-End-clause-known : goal.returns-in-End-clause-known
returns-in-End-clause-known g c ended coming connection is =
    let was = c.loop-count.invariant in
    let at = was.known ended coming connection is in
    let after = c.in-End.ensures.known ended coming at.0 at.1 in
    let buf = take c.loop-count.count c.loop-count.room in
    let short : length buf < head_limit = omega (arith, length-take c.loop-count.count c.loop-count.room, c.loop-count-test.true) in
    let fails = sym (ap (λ (t : Connection). t.fails) at.2.0.2) ∙ after.2.1.1 in
    (after.0, after.1, (reads_on connection at.0 after.0 at.2.0 after.2.0, tt, ended_head connection.input buf at.0.input connection.fails at.2.1 after.2.1.0 fails short was.no_head, after.2.1.4 ∙ at.2.2))

pub returns-in-Some-clause-known : goal.returns-in-Some-clause-known
returns-in-Some-clause-known g c ended coming connection is =
    let at = c.loop-count.invariant.known ended coming connection is in
    let after = c.in-Bytes.ensures.known ended coming at.0 at.1 in
    (after.0, after.1, (reads_on connection at.0 after.0 at.2.0 after.2.0, at.2.1 ∙ after.2.1.0, tt, after.2.1.1 ∙ at.2.2))

pub returns-in-End-clause-taken : goal.returns-in-End-clause-taken
returns-in-End-clause-taken g c ended coming connection is =
    let at = c.loop-count.invariant.known ended coming connection is in
    let after = c.in-End.ensures.taken ended coming at.0 at.1 in
    let before = no_longer [] connection.input (take c.loop-count.count c.loop-count.room) at.0.input at.2.1 in
    (after.0, after.1, omega (arith, before, after.2, length-take c.loop-count.count c.loop-count.room, c.loop-count.invariant.whole, c.loop-count.invariant.short, c.requires.room))

pub returns-in_err-head-clause-taken : goal.returns-in_err-head-clause-taken
returns-in_err-head-clause-taken g c ended coming connection is =
    let at = c.loop-count.invariant.known ended coming connection is in
    let after = c.in-Bytes.ensures.taken ended coming at.0 at.1 in
    let before = no_longer [] connection.input (take c.loop-count.count c.loop-count.room) at.0.input at.2.1 in
    (after.0, after.1, omega (arith, before, after.2, length-take c.loop-count.count c.loop-count.room, c.loop-count.invariant.whole, c.loop-count.invariant.short, c.requires.room))

pub returns-in-Some-clause-taken : goal.returns-in-Some-clause-taken
returns-in-Some-clause-taken g c ended coming connection is =
    let at = c.loop-count.invariant.known ended coming connection is in
    let after = c.in-Bytes.ensures.taken ended coming at.0 at.1 in
    let before = no_longer [] connection.input (take c.loop-count.count c.loop-count.room) at.0.input at.2.1 in
    (after.0, after.1, omega (arith, before, after.2, length-take c.loop-count.count c.loop-count.room, c.loop-count.invariant.whole, c.loop-count.invariant.short, c.requires.room))

pub returns-clause-taken : goal.returns-clause-taken
returns-clause-taken g c ended coming connection is =
    let at = c.loop-count.invariant.known ended coming connection is in
    let before = no_longer [] connection.input (take c.loop-count.count c.loop-count.room) at.0.input at.2.1 in
    (at.0, at.1, omega (arith, before, length-take c.loop-count.count c.loop-count.room, c.loop-count.invariant.short))
