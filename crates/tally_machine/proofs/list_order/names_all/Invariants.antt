use Rattle.std.proofs.Common.{◌≡◌, ℕ, ◌+◌, ◌<◌, true, false, get_or}
use Rattle.tally_machine_law.specs.Holders.{is_among}
use Rattle.tally_machine.proofs.list_order.names_all.Given as goal

-- the lists so far are named, or not of the group
abbrev pub invariant-loop-list : goal.invariant-loop-list
invariant-loop-list l = (k : ℕ) → k < l.list → get_or l.group k false ≡ true → is_among (k + 1) l.places ≡ true
