use Rattle.std.proofs.Common.{◌≡◌, ◌≤◌, ◌-◌, ◌++◌, true, vec_len}
use Rattle.tally_desk_message.specs.Connection.{ChangesCurrent}
use Rattle.tally_desk_message.specs.Message.{OnlyReadsInput}
use Rattle.tally_desk_message.proofs.body.read_body.Given as goal

abbrev pub invariant-loop-body : goal.invariant-loop-body
invariant-loop-body g l = let d = g.D.Door in record {
  connected : d.connected l.door ≡ true;
  within : vec_len l.body ≤ l.count;
  known : ChangesCurrent (d.known l.fn.door) (d.known l.door) (λ c now. OnlyReadsInput c now × (l.fn.body.items ++ c.input ≡ l.body.items ++ now.input) × (now.read_failed ≡ c.read_failed));
}

abbrev pub decreases-loop-body : goal.decreases-loop-body
decreases-loop-body g l = l.count - vec_len l.body
