use Rattle.std.proofs.Common.{◌≡◌, ◌+◌, ◌*◌, ◌++◌, length, take}
use Rattle.sqlite.specs.Values.{bound}
use Rattle.tally_store_schema.specs.internal.Numbered.{pairs}
use Rattle.tally_store_schema.proofs.numbered.values_of.Given as goal

abbrev pub invariant-loop-place : goal.invariant-loop-place
invariant-loop-place l = record {
  room : length l.values ≡ 34;
  filled : bound (take (length l.front + 2 * l.place) l.values) ≡ bound l.front ++ pairs l.first (take l.place l.numbers);
}
