-- The tables of the office in a transaction, and what a statement does to the rows of one of them.
use Rattle.std.specs.Prelude.{◌≡◌, ◌≢◌, ◌+◌, ℕ, pos, List, [], ◌∷◌, ◌++◌, IsTrue, IsPermutation}
use Rattle.std.specs.Prelude.{map, Result, Ok, IfOk, OnOk, Bool, ◌&&◌, filter, Vec}
use Rattle.std.specs.declared.alloc.Global.{Global}
use Rattle.std.specs.List.{AllByRecursion}
use Rattle.std.specs.Ordering.{is_eq}
use Rattle.std.specs.declared.cmp.Ordering.TheVariants.{Less}
use Rattle.sqlite_value.specs.declared.value.Value.{Value}
use Rattle.sqlite_value.specs.declared.value.Value.TheVariants.{Null, Int, Text}
use Rattle.sqlite_value.specs.Order.{Row, column, value_cmp, row_cmp}
use Rattle.sqlite_trees.specs.Tree.{IsAscending}
use Rattle.sqlite_schema.specs.declared.schema.Table.{Table}
use Rattle.sqlite.specs.declared.error.Error.{Error}
use Rattle.sqlite.specs.Effect.{IsDatabase}
use Rattle.sqlite.specs.State.{State as Seen, HasCleanDisk, ExecutesInside}
use Rattle.tally_store_schema.specs.Rows.{cells, has_key, others, HaveDistinctRowids}
use Rattle.tally_store_schema.specs.Cells.{flag, setup_row}
use Rattle.tally_store_schema.specs.Tables.{office_schema, setup_tree, returns_table, returns_tree}
use Rattle.tally_store_schema.specs.Tables.{counts_table, counts_tree, cons_table, cons_tree}
use Rattle.tally_store_schema.specs.Tables.{lots_table}
use Rattle.tally_store_schema.specs.Tables.{lots_tree, seats_table, seats_tree, gone_table}
use Rattle.tally_store_schema.specs.Tables.{gone_tree}
use Rattle.tally_store_schema.specs.Tables.{totals_table, totals_tree, past_table, past_tree}
use Rattle.tally_store_schema.specs.declared.table.KeyedTable.{KeyedTable}
use Rattle.tally_store_schema.specs.declared.table.KeyedTable.TheVariants.{Returns, Counts, Cons}
use Rattle.tally_store_schema.specs.declared.table.KeyedTable.TheVariants.{Lots, Seats, Gone}
use Rattle.tally_store_schema.specs.declared.table.KeyedTable.TheVariants.{Totals}
use Rattle.tally_store_schema.specs.declared.table.KeyedTable.TheVariants.{Past}

-- ---- the tables

abbrev pub table_of : KeyedTable → Table
table_of Returns = returns_table returns_tree
table_of Counts = counts_table counts_tree
table_of Cons = cons_table cons_tree
table_of Lots = lots_table lots_tree
table_of Seats = seats_table seats_tree
table_of Gone = gone_table gone_tree
table_of Totals = totals_table totals_tree
table_of Past = past_table past_tree

-- the tree that holds its rows
abbrev pub tree_of : KeyedTable → ℕ
tree_of t = (table_of t).tree

-- its rows, without their rowids
abbrev pub rows_in : KeyedTable → Seen → List Row
rows_in t s = cells (s.now.trees (tree_of t))

-- The tables of the office are open in a transaction. The catalogue lists them and no others, and
-- the rows obey them. No two rows of one of them have the same rowid.
pub record IsInside (s : Seen) : Type 0 where
  pub schema : s.now.schema ≡ office_schema
  pub sound : IsDatabase s.now
  pub distinct : (t : KeyedTable) → HaveDistinctRowids (s.now.trees (tree_of t))
  pub inside : IsTrue s.in_transaction

-- ---- what a statement does

-- The table has these rows now, in any order, and every other table is as it was.
pub record HasRows (t : KeyedTable) (now : List Row) (old new : Seen) : Type 0 where
  pub inside : IsInside new
  pub rows : IsPermutation now (rows_in t new)
  pub others : (u : KeyedTable) → tree_of u ≢ tree_of t
      → new.now.trees (tree_of u) ≡ old.now.trees (tree_of u)
  pub setup : new.now.trees setup_tree ≡ old.now.trees setup_tree

-- a row of `returns`
abbrev pub return_cells : List ℕ → List ℕ → ℕ → List ℕ → ℕ → List ℕ → Row
return_cells station con rev slip status note =
    Text station ∷ Text con ∷ Int (pos rev) ∷ Text slip ∷ Int (pos status) ∷ Text note ∷ []

-- a row of `cons`
abbrev pub con_cells : List ℕ → ℕ → Bool → List ℕ → Row
con_cells con edition certified note =
    Text con ∷ Int (pos edition) ∷ Int (pos (flag certified)) ∷ Text note ∷ []

-- a row of `gone`
abbrev pub gone_cells : List ℕ → ℕ → ℕ → List ℕ → Row
gone_cells con list place note = Text con ∷ Int (pos list) ∷ Int (pos place) ∷ Text note ∷ []

-- a row of `past`
abbrev pub past_cells : List ℕ → ℕ → ℕ → ℕ → Row
past_cells con edition list n = Text con ∷ Int (pos edition) ∷ Int (pos list) ∷ Int (pos n) ∷ []

-- a row of a key, the number of an item and a number
abbrev pub item_cells : List ℕ → ℕ → ℕ → Row
item_cells key item n = Text key ∷ Int (pos item) ∷ Int (pos n) ∷ []

-- a row for each of these numbers: it begins with these cells, and then it has its item, counted
-- from the first, and the number
abbrev pub numbered_rows : Row → ℕ → List ℕ → List Row
numbered_rows front first [] = []
numbered_rows front first (n ∷ ns) =
    (front ++ Int (pos first) ∷ Int (pos n) ∷ []) ∷ numbered_rows front (first + 1) ns

-- the row is that of an item of a key
abbrev pub is_item : List ℕ → ℕ → Row → Bool
is_item key item row = has_key key row && is_eq (value_cmp (column row 1) (Int (pos item)))

-- ---- what a call says, where the disk returned what was written

-- the text was run with these values
abbrev pub RunsWithValues : List ℕ → Row → Seen → Seen → Result Unit Error → Type 0
RunsWithValues sql params old new result =
    HasCleanDisk new → IsTrue old.in_transaction
    → OnOk result ((count : ℕ) × ExecutesInside 0 sql params old new (Ok count))

-- the table has this row in addition
abbrev pub Inserts : KeyedTable → Row → Seen → Seen → Result Unit Error → Type 0
Inserts t row old new result =
    HasCleanDisk new → IsInside old → OnOk result (HasRows t (row ∷ rows_in t old) old new)

-- the table has these rows in addition
abbrev pub InsertsAll : KeyedTable → List Row → Seen → Seen → Result Unit Error → Type 0
InsertsAll t rows old new result =
    HasCleanDisk new → IsInside old → OnOk result (HasRows t (rows ++ rows_in t old) old new)

-- the row takes the place of the one row of a key, whose columns were these
abbrev pub Replaces : KeyedTable → List ℕ → Row → Row → Seen → Seen → Result Unit Error → Type 0
Replaces t key before row old new result =
    HasCleanDisk new → IsInside old → filter (has_key key) (rows_in t old) ≡ before ∷ []
    → OnOk result (HasRows t (row ∷ others key (rows_in t old)) old new)

-- The row of a return has this revision, slip, status and note, whatever it had. Its constituency
-- is as it was.
abbrev pub UpdatesReturn : List ℕ → ℕ → List ℕ → ℕ → List ℕ
    → Seen → Seen → Result Unit Error → Type 0
UpdatesReturn station rev slip status note old new result =
    (con : List ℕ) (r s t u : Value)
    → Replaces Returns station (Text station ∷ Text con ∷ r ∷ s ∷ t ∷ u ∷ [])
    (return_cells station con rev slip status note) old new result

-- the row of a constituency has this edition, certificate and note, whatever it had
abbrev pub UpdatesCon : List ℕ → ℕ → Bool → List ℕ → Seen → Seen → Result Unit Error → Type 0
UpdatesCon con edition certified note old new result =
    (r s t : Value) → Replaces Cons con (Text con ∷ r ∷ s ∷ t ∷ [])
    (con_cells con edition certified note) old new result

-- the item of a key has another number, where the table had a row for it beside these
abbrev pub SetsItem : KeyedTable → List ℕ → ℕ → ℕ → Seen → Seen → Result Unit Error → Type 0
SetsItem t key item n old new result =
    HasCleanDisk new → IsInside old → (before : ℕ) (rest : List Row)
    → filter (is_item key item) rest ≡ []
    → IsPermutation (item_cells key item before ∷ rest) (rows_in t old)
    → OnOk result (HasRows t (item_cells key item n ∷ rest) old new)

-- the rows of a key are gone
abbrev pub Deletes : KeyedTable → List ℕ → Seen → Seen → Result Unit Error → Type 0
Deletes t key old new result =
    HasCleanDisk new → IsInside old → OnOk result (HasRows t (others key (rows_in t old)) old new)

-- ---- what a SELECT answers

-- the columns of the key of a table
abbrev pub key_cells : KeyedTable → Row → Row
key_cells Returns r = column r 0 ∷ []
key_cells Counts r = column r 0 ∷ column r 1 ∷ []
key_cells Cons r = column r 0 ∷ []
key_cells Lots r = column r 0 ∷ column r 1 ∷ []
key_cells Seats r = column r 0 ∷ column r 1 ∷ []
key_cells Gone r = column r 0 ∷ column r 1 ∷ column r 2 ∷ []
key_cells Totals r = column r 0 ∷ column r 1 ∷ []
key_cells Past r = column r 0 ∷ column r 1 ∷ column r 2 ∷ []

-- all of its columns
abbrev pub all_cells : KeyedTable → Row → Row
all_cells Returns r =
    column r 0 ∷ column r 1 ∷ column r 2 ∷ column r 3 ∷ column r 4 ∷ column r 5 ∷ []
all_cells Counts r = column r 0 ∷ column r 1 ∷ column r 2 ∷ []
all_cells Cons r = column r 0 ∷ column r 1 ∷ column r 2 ∷ column r 3 ∷ []
all_cells Lots r = column r 0 ∷ column r 1 ∷ column r 2 ∷ []
all_cells Seats r = column r 0 ∷ column r 1 ∷ column r 2 ∷ []
all_cells Gone r = column r 0 ∷ column r 1 ∷ column r 2 ∷ column r 3 ∷ []
all_cells Totals r = column r 0 ∷ column r 1 ∷ column r 2 ∷ []
all_cells Past r = column r 0 ∷ column r 1 ∷ column r 2 ∷ column r 3 ∷ []

-- Each row has the columns of the table and no more. The key of each is below that of the next:
-- texts by their bytes, numbers by their size.
pub record AreInOrder (t : KeyedTable) (rows : List Row) : Type 0 where
  pub whole : AllByRecursion (λ r. all_cells t r ≡ r) rows
  pub rising : IsAscending (λ a b. row_cmp (key_cells t a) (key_cells t b) ≡ Less) rows

-- Where these are the rows of a key, in order, they are what was answered.
abbrev pub IsFound : KeyedTable → List ℕ → Seen → List Row → Type 0
IsFound t key s answer =
    (rows : List Row) → AreInOrder t rows → IsPermutation rows (filter (has_key key) (rows_in t s))
    → answer ≡ rows

-- the rows of a key were answered, where the disk returned what was written
abbrev pub FindsRows : KeyedTable → List ℕ → Seen → Seen → Result (Vec Row Global) Error → Type 0
FindsRows t key old new result =
    HasCleanDisk new → IsInside old → IfOk result (λ rows. IsFound t key old rows.items)

-- ---- whole tables

-- The tables of the office are there in a transaction, whatever their rows are.
pub record HasTables (s : Seen) : Type 0 where
  pub schema : s.now.schema ≡ office_schema
  pub sound : IsTrue s.is_open → IsDatabase s.now
  pub inside : IsTrue s.in_transaction

-- The answer has the rows of a table and no others. Where these rows are the table's, in order,
-- they are the answer.
pub record ShowsTable (t : KeyedTable) (s : Seen) (answer : List Row) : Type 0 where
  pub same : IsPermutation (rows_in t s) answer
  pub in_order : (rows : List Row) → AreInOrder t rows → IsPermutation rows (rows_in t s)
      → answer ≡ rows

-- the whole table was answered, where the disk returned what was written
abbrev pub ShowsAllRows : KeyedTable → Seen → Seen → Result (Vec Row Global) Error → Type 0
ShowsAllRows t old new result =
    HasCleanDisk new → HasTables old → IfOk result (λ rows. ShowsTable t old rows.items)

-- ---- the table `setup`

-- `setup` has one row, of this version and text, and every other table is as it was.
pub record PutsSetup (version : ℕ) (text : List ℕ) (old new : Seen) : Type 0 where
  pub inside : IsInside new
  pub setup : new.now.trees setup_tree ≡ setup_row version text ∷ []
  pub others : (t : KeyedTable) → new.now.trees (tree_of t) ≡ old.now.trees (tree_of t)

-- the row is in the table, which was empty
abbrev pub InsertsSetup : ℕ → List ℕ → Seen → Seen → Result Unit Error → Type 0
InsertsSetup version text old new result =
    HasCleanDisk new → IsInside old → old.now.trees setup_tree ≡ []
    → OnOk result (PutsSetup version text old new)

-- the one row has another version
abbrev pub SetsVersion : ℕ → Seen → Seen → Result Unit Error → Type 0
SetsVersion version old new result =
    HasCleanDisk new → IsInside old → (before : ℕ) (text : List ℕ)
    → old.now.trees setup_tree ≡ setup_row before text ∷ []
    → OnOk result (PutsSetup version text old new)

-- what is shown of a row of `setup`: its id, its version and its text
abbrev pub shown_setup : Row → Row
shown_setup row = column row 0 ∷ column row 2 ∷ column row 3 ∷ []

-- the row that is shown as this: the id is the rowid
abbrev pub stored_setup : Row → Row
stored_setup shown = column shown 0 ∷ Null ∷ column shown 1 ∷ column shown 2 ∷ []

-- The answer has what is shown of each row of `setup`, and these rows are all of them.
pub record ShowsSetup (s : Seen) (answer : List Row) : Type 0 where
  pub shown : IsPermutation (map shown_setup (s.now.trees setup_tree)) answer
  pub stored : IsPermutation (map stored_setup answer) (s.now.trees setup_tree)

-- the whole table was answered, where the disk returned what was written
abbrev pub ShowsAllSetup : Seen → Seen → Result (Vec Row Global) Error → Type 0
ShowsAllSetup old new result =
    HasCleanDisk new → HasTables old → IfOk result (λ rows. ShowsSetup old rows.items)
