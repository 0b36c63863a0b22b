use Rattle.std.proofs.Common.{◌≡◌}
use Rattle.tally_returns.specs.State.{stations_of}
use Rattle.tally_returns_rows.specs.Delivery.{source_at}
use Rattle.tally_keeper.specs.internal.Held.{returns_without}
use Rattle.tally_keeper.proofs.TakenLemmas.{NamedSoFar}
use Rattle.tally_core.proofs.book.rows.take_source.Given as goal

-- the import so far, with what it named, which has changed the returns alone;
-- without what it lodged they are those of its start
abbrev pub invariant-loop-before : goal.invariant-loop-before
invariant-loop-before g l =
    let left = source_at g.R.RowSource in
    record {
      so_far : NamedSoFar (stations_of l.fn.ledger.setup) l.fn.ledger.returns l.ledger.returns (left l.fn.source) (left l.source) l.count l.before l.fn.named.items l.named.items;
      kept : l.ledger ≡ record l.fn.ledger { returns = l.ledger.returns };
      undone : returns_without l.lodged.items l.ledger.returns ≡ returns_without l.fn.lodged.items l.fn.ledger.returns;
    }
