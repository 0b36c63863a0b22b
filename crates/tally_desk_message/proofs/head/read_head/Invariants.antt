use Rattle.std.proofs.Common.{◌≡◌, ◌≤◌, ◌-◌, ◌++◌, true, length, take}
use Rattle.httparse.specs.Grammar.{HasNoRequest}
use Rattle.tally_desk_message.specs.Connection.{ChangesCurrent}
use Rattle.tally_desk_message.specs.internal.Lines.{no_lines, lines_after}
use Rattle.tally_desk_message.specs.Message.{head_limit, field_limit, OnlyReadsInput}
use Rattle.tally_desk_message.proofs.head.read_head.Given as goal

abbrev pub invariant-loop-count : goal.invariant-loop-count
invariant-loop-count g l = let d = g.D.Door in record {
  connected : d.connected l.door ≡ true;
  whole : length l.room ≡ length l.fn.room;
  short : l.count ≤ head_limit;
  fields : length l.headers ≡ field_limit;
  lines : l.lines ≡ lines_after no_lines (take l.count l.room);
  no_head : HasNoRequest (take l.count l.room);
  known : ChangesCurrent (d.known l.fn.door) (d.known l.door)
      (λ c now. OnlyReadsInput c now × (c.input ≡ take l.count l.room ++ now.input) × (now.read_failed ≡ c.read_failed));
}

abbrev pub decreases-loop-count : goal.decreases-loop-count
decreases-loop-count g l = head_limit - l.count
