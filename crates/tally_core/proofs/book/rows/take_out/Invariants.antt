use Rattle.std.proofs.Common.{◌≡◌, drop}
use Rattle.tally_keeper.specs.internal.Held.{returns_without}
use Rattle.tally_core.proofs.book.rows.take_out.Given as goal

-- the returns alone have changed, and what is left to take out leads to the same end
abbrev pub invariant-loop-station : goal.invariant-loop-station
invariant-loop-station l = record {
  kept : l.ledger ≡ record l.fn.ledger { returns = l.ledger.returns };
  left : returns_without (drop l.station-index l.stations) l.ledger.returns ≡ returns_without l.stations l.fn.ledger.returns;
}
