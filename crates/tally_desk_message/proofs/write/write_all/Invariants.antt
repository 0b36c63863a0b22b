use Rattle.std.proofs.Common.{◌≡◌, ◌≤◌, ◌-◌, true, length, take}
use Rattle.tally_desk_message.specs.Connection.{ChangesCurrent, after_write}
use Rattle.tally_desk_message.proofs.write.write_all.Given as goal

abbrev pub invariant-loop-at : goal.invariant-loop-at
invariant-loop-at g l = let d = g.D.Door in record {
  within : l.at ≤ length l.text;
  connected : d.connected l.door ≡ true;
  known : ChangesCurrent (d.known l.fn.door) (d.known l.door) (λ c now. (now ≡ after_write c (take l.at l.text)) × (l.at ≤ c.room));
}

abbrev pub decreases-loop-at : goal.decreases-loop-at
decreases-loop-at g l = length l.text - l.at
