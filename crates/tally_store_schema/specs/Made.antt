-- What making the tables leaves.
use Rattle.std.specs.Prelude.{◌≡◌, ◌+◌, ◌||◌, ◌&&◌, ℕ, Bool, false, IsTrue, is_some, option_map}
use Rattle.std.specs.Prelude.{unwrap_or, List, [], ◌∷◌, codes, Result, OnOk}
use Rattle.std.specs.List.{AllByRecursion, list_all, list_any}
use Rattle.sqlite_schema.specs.declared.schema.Schema.{Schema}
use Rattle.sqlite_schema.specs.declared.schema.Table.{Table}
use Rattle.sqlite_schema.specs.declared.schema.View.{View}
use Rattle.sqlite_schema.specs.Names.{same_name, table_named, index_named, view_named}
use Rattle.sqlite.specs.declared.error.Error.{Error}
use Rattle.sqlite.specs.Effect.{IsDatabase}
use Rattle.sqlite.specs.State.{State as Seen, HasCleanDisk}
use Rattle.tally_store_schema.specs.Tables.{schema_with, past_tree}

-- ---- making tables

-- the first this many tables of the office are there, and a transaction is open
pub record HasFirstTables (n : ℕ) (s : Seen) : Type 0 where
  pub schema : s.now.schema ≡ schema_with n
  pub inside : IsTrue s.in_transaction

-- they are there without rows
pub record HasEmptyTables (n : ℕ) (s : Seen) : Type 0 where
  pub tables : HasFirstTables n s
  pub empty : AllByRecursion (λ (t : Table). s.now.trees t.tree ≡ []) (schema_with n).tables

-- After the first `n` tables the next one is made, in this tree. It has no row, the others are as
-- they were, and the database is in order under the new schema.
pub record AddsTable (n : ℕ) (tree : ℕ) (old new : Seen) : Type 0 where
  pub tables : HasFirstTables (n + 1) new
  pub empty : new.now.trees tree ≡ []
  pub others : AllByRecursion (λ (t : Table). new.now.trees t.tree ≡ old.now.trees t.tree)
      (schema_with n).tables
  pub sound : IsDatabase new.now

-- ---- what a call says, where the disk returned what was written

-- from the first `n` tables without rows to the first `m` without rows
abbrev pub Makes : ℕ → ℕ → Seen → Seen → Result Unit Error → Type 0
Makes n m old new result =
    HasCleanDisk new → HasEmptyTables n old → OnOk result (HasEmptyTables m new)

-- from the tables of version 1, whatever their rows are, to those and an empty `past`
abbrev pub MakesPast : Seen → Seen → Result Unit Error → Type 0
MakesPast old new result =
    HasCleanDisk new → HasFirstTables 8 old → OnOk result (AddsTable 8 past_tree old new)

-- what was made of a database without tables is in order under its schema
abbrev pub MakesDatabase : Seen → Seen → Result Unit Error → Type 0
MakesDatabase old new result =
    HasCleanDisk new → HasEmptyTables 0 old → OnOk result (IsDatabase new.now)

-- ---- names

abbrev pub former_names : List (List ℕ)
former_names =
    codes "setup" ∷ codes "returns" ∷ codes "counts" ∷ codes "cons" ∷ codes "lots" ∷ codes "seats"
    ∷ codes "gone" ∷ codes "totals" ∷ []

abbrev pub office_names : List (List ℕ)
office_names = codes "past" ∷ former_names

-- A table of the name that SQL cannot reach, such as one with a trigger. `sqlite` keeps it among
-- the views, as an entry that belongs to a table of its own name.
abbrev pub is_table_aside : List ℕ → View → Bool
is_table_aside name view =
    unwrap_or (option_map (same_name name) view.foreign) false && same_name view.name name

-- a table of the name, in any letter case
abbrev pub has_table : Schema → List ℕ → Bool
has_table schema name =
    is_some (table_named schema name) || list_any (is_table_aside name) schema.views

-- a table, an index, a view or a trigger of the name, in any letter case
abbrev pub has_name : Schema → List ℕ → Bool
has_name schema name =
    has_table schema name || is_some (index_named schema name) || is_some (view_named schema name)

-- each table of version 1 is there, with whatever columns
abbrev pub has_former_tables : Schema → Bool
has_former_tables schema = list_all (has_table schema) former_names

-- a name of the office's tables is taken
abbrev pub takes_office_name : Schema → Bool
takes_office_name schema = list_any (has_name schema) office_names
