use Rattle.std.proofs.Common.{◌≡◌, ◌+◌, drop}
use Rattle.tally_store_rows.specs.Views.{key_len}
use Rattle.tally_store_rows.proofs.parts.key_len.Given as goal

-- those so far have the key
abbrev pub invariant-loop-place : goal.invariant-loop-place
invariant-loop-place l = key_len l.key l.rows ≡ l.place + key_len l.key (drop l.place l.rows)
