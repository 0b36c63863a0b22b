-- What a CREATE TABLE does.
use Rattle.std.proofs.Common.{◌≡◌, ℕ, List, [], None, Ok, sym, ap, subst, ◌∙◌, false}
use Rattle.std.specs.List.{AllByRecursion}
use Rattle.sqlite_schema.specs.declared.command.Command.TheVariants.{CreateTable}
use Rattle.sqlite_schema.specs.declared.schema.Table.{Table}
use Rattle.sqlite_schema.specs.declared.schema.Schema.{Schema}
use Rattle.sqlite.specs.Change.{created, next_tree}
use Rattle.sqlite.specs.Compile.{table_defined_by}
use Rattle.sqlite.specs.Effect.{Database}
use Rattle.sqlite.specs.Does.{Tally, lacks_sequence}
use Rattle.sqlite.specs.Listing.{understood}
use Rattle.sqlite.specs.State.{State, Writes, ExecutesInside}
use Rattle.sqlite.proofs.Callers.{IsPlain, command_of, statement_of, runs_as}
use Rattle.tally_store_schema.proofs.StatementLemmas.{succeeded, same_value}

-- a CREATE TABLE in a schema with no AUTOINCREMENT: the new table has
-- no row, and the others keep theirs
pub made_by : (before after : Schema) (table : Table) (sql : List ℕ) (old new : State) (count : ℕ) → old.now.schema ≡ before → command_of (understood before sql) ≡ CreateTable → statement_of sql (understood before sql) ≡ sql → table_defined_by sql ≡ Ok table
    → created before table ≡ after → lacks_sequence after ≡ false → IsPlain (understood before sql) → ExecutesInside 0 sql [] old new (Ok count)
    → (new.now.schema ≡ after) × (new.now.trees (next_tree before) ≡ []) × AllByRecursion (λ t. new.now.trees t.tree ≡ old.now.trees t.tree) before.tables
made_by before after table sql old new count has command text defined made unsequenced plain h =
    let w = subst (λ t. Writes old new None CreateTable t [] count) text (runs_as sql [] old new before has CreateTable command plain count h.0) in
    let all = succeeded w.changed in
    let first = succeeded all.1 in
    let it = first.1 in
    let both : Ok it.table ≡ Ok table = sym it.defined ∙ defined in
    let same : it.table ≡ table = cc in
    let schema : first.0.schema ≡ after = it.is ∙ ap (λ s. created s it.table) has ∙ ap (created before) same ∙ made in
    let no_sequence : lacks_sequence first.0.schema ≡ false = ap lacks_sequence schema ∙ unsequenced in
    let now : new.now ≡ first.0 = ap (λ (p : Tally × Database). p.1) (same_value all.2) ∙ same_value (rw no_sequence at first.2) in (
      ap (λ (d : Database). d.schema) now ∙ schema,
      ap (λ (d : Database). d.trees (next_tree before)) now ∙ subst (λ s. first.0.trees (next_tree s) ≡ []) has it.empty,
      subst (λ (d : Database). AllByRecursion (λ t. d.trees t.tree ≡ old.now.trees t.tree) before.tables) (sym now) (subst (λ (s : Schema). AllByRecursion (λ t. first.0.trees t.tree ≡ old.now.trees t.tree) s.tables) has it.others),
    )
