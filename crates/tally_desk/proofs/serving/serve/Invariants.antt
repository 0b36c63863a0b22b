use Rattle.std.proofs.Common.{◌≡◌, ◌+◌, ◌++◌, List, Some, option_to_list, take, drop}
use Rattle.tally_desk_message.specs.Connection.{Connection, Connections}
use Rattle.tally_desk.specs.Serving.{Serves}
use Rattle.tally_desk.proofs.serving.serve.Given as goal

abbrev pub invariant-loop-at : goal.invariant-loop-at
invariant-loop-at g l = let d = g.D.Door in let r = g.R.Responder in record {
  count : l.answered + l.failed ≡ l.at;
  trusted : r.IsTrusted l.keeper → r.IsTrusted l.fn.keeper;
  serves : (before : Connections) → d.known l.fn.door ≡ Some before → (after : Connections) × (d.known l.door ≡ Some after) × (ended : List Connection)
      × (after.ended ++ option_to_list after.current ≡ before.ended ++ option_to_list before.current ++ ended)
      × (after.coming ≡ drop l.at before.coming)
      × (r.IsTrusted l.keeper → Serves r.Answers (r.content l.fn.keeper) (take l.at before.coming) ended l.answered (r.content l.keeper));
}
