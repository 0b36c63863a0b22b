use Rattle.std.proofs.Common.{◌≡◌, ◌≤◌, ◌+◌, ◌-◌, [], length, None}
use Rattle.tally_import_records.specs.internal.Pieces.{Fills}
use Rattle.tally_import_records.specs.internal.Text.{bytes_of_parts}
use Rattle.tally_import_records.proofs.held.HeldText.read_rest.Given as goal

abbrev pub invariant-loop-part : goal.invariant-loop-part
invariant-loop-part g l = record {
  limit : l.self.taken ≤ 16777216;
  watch : l.watch.failed ≡ l.fn.watch.failed;
  bytes : l.self.bytes ≡ l.fn.self.bytes;
  count : l.self.taken ≡ l.fn.self.taken + length (bytes_of_parts l.parts.items);
  fills : Fills (g.R.Read.remaining l.fn.input) (g.R.Read.remaining l.input) [] l.fn.self.taken (bytes_of_parts l.parts.items) l.self.taken None;
}

abbrev pub decreases-loop-part : goal.decreases-loop-part
decreases-loop-part g l = 16777217 - l.self.taken
