use Rattle.std.proofs.Common.{◌≡◌, refl, rules, ap, ◌∙◌}
use Rattle.sqlite.specs.Held.{state}
use Rattle.sqlite.specs.Steps.{over_memory}
use Rattle.sqlite.proofs.Callers.{memory_is_clean}
use Rattle.tally_store_schema.specs.Made.{HasEmptyTables}
use Rattle.tally_store_schema.proofs.comparison.office_in_memory.Goals as goal

-- memory always returns what was written
pub returns : goal.returns
returns c =
    let begun = c.transaction-tx.ensures.begun in
    let empty = c.in_ok-conn.ensures in
    let start : HasEmptyTables 0 (state over_memory c.transaction-tx.result.conn.now) = rw begun (record { tables = record { schema = empty.2; inside = refl }; empty = tt }) in
    let made = c.in_ok-create_tables.ensures.made (memory_is_clean c.create_tables.new.tx.conn.now) start in
    let shown = c.in_ok-commit.ensures.ok (memory_is_clean c.commit.new.self.0) in
    let same : c.conn-3-1.given.0 ≡ c.commit.new.self.0 = search rules in
    ap (λ h. (state over_memory h).now.schema) same ∙ ap (λ d. d.schema) shown.1.now_is ∙ made.tables.schema
