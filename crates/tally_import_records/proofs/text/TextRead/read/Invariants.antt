use Rattle.std.proofs.Common.{◌≡◌, length}
use Rattle.tally_import_records.specs.internal.Text.{bytes_left}
use Rattle.tally_import_records.proofs.text.TextRead.read.Given as goal

abbrev pub invariant-loop-count : goal.invariant-loop-count
invariant-loop-count l = bytes_left l.fn.self ≡ bytes_left l.self

abbrev pub decreases-loop-count : goal.decreases-loop-count
decreases-loop-count l = length l.self.later.value.items
