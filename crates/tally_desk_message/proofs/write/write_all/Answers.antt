use Rattle.std.proofs.Common.{◌≡◌, ◌+◌, ◌-◌, ◌≤◌, length, take, drop, subst, ap, ◌∙◌, arith, rules, length-drop}
use Rattle.std.proofs.lemmas.List.{length-take-le}
use Rattle.tally_desk_message.specs.Connection.{Connection, after_write}
use Rattle.tally_desk_message.proofs.ConnectionLemmas.{after_writes, rest_all}
use Rattle.tally_desk_message.proofs.write.write_all.Goals as goal

pub loop-at-preserved : goal.loop-at-preserved
loop-at-preserved g c =
    let was = c.loop-at.invariant in
    let text = c.args.text.now in
    let at = c.loop-at.at in
    let n = c.in_ok-count.count in
    let within : at + n ≤ length text = grind (arith, length-drop, was.within, c.in_ok-count.ensures.within) in
    record {
      within = within;
      connected = c.in_ok-count.ensures.connected;
      known = λ ended coming connection is.
          let before = was.known ended coming connection is in
          let after = c.in_ok-count.ensures.known ended coming before.0 before.1 in
          let now : after.0 ≡ after_write (after_write connection (take at text)) (take n (drop at text)) =
          after.2.3 ∙ ap (λ t. after_write before.0 (take n t)) (rest_all text at) ∙ ap (λ (t : Connection). after_write t (take n (drop at text))) before.2.0 in
          let first : length (take at text) ≡ at = length-take-le at text was.within in
          let room : n ≤ connection.room - length (take at text) = subst (λ (t : Connection). n ≤ t.room) before.2.0 after.2.1 in
          (after.0, after.1, (now ∙ after_writes connection text at n within, omega (arith, room, first, before.2.1)));
    }
