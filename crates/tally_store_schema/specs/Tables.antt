-- The tables of the office.
use Rattle.std.specs.Prelude.{true, false, [], ◌∷◌, None, Some, codes, List, ℕ, ◌-◌, pos, take}
use Rattle.sqlite_value.specs.declared.value.Value.TheVariants.{Null, Int}
use Rattle.sqlite_value.specs.declared.keys.Collation.TheVariants.{Binary}
use Rattle.sqlite_sql.specs.declared.ops.BinaryOp.TheVariants.{Compare, And}
use Rattle.sqlite_sql.specs.declared.ops.CompareOp.TheVariants.{Ge, Le}
use Rattle.sqlite_sql.specs.Term.{Term, lit, col, op2}
use Rattle.sqlite_schema.specs.declared.schema.Column.{Column}
use Rattle.sqlite_schema.specs.declared.schema.Table.{Table}
use Rattle.sqlite_schema.specs.declared.schema.Index.{Index}
use Rattle.sqlite_schema.specs.declared.schema.Schema.{Schema}
use Rattle.sqlite_schema.specs.declared.schema.Kind.{Kind}
use Rattle.sqlite_schema.specs.declared.schema.Kind.TheVariants.{Integer, Text}

abbrev pub column_of : Kind → List ℕ → Column
column_of kind name = record {
  name = name;
  kind = kind;
  is_strict = true;
  not_null = true;
  default = Null;
  collation = Binary;
}

abbrev pub integer : List ℕ → Column
integer = column_of Integer

abbrev pub text : List ℕ → Column
text = column_of Text

-- a STRICT table whose PRIMARY KEY has these places and an index of its own, in the order of bytes
abbrev pub table_with_key : List ℕ → List Column → List ℕ → List Term → ℕ → Table
table_with_key name columns places checks tree = record {
  name = name;
  tree = tree;
  columns = columns;
  key = None;
  primary = places;
  uniques = places ∷ [];
  orders = record { digits = 0 } ∷ [];
  checks = checks;
  references = [];
  computed = [];
  stamps = record { places = []; terms = []; formats = [] };
  is_counted = false;
}

-- its id is the rowid, so it has no index
abbrev pub setup_table : ℕ → Table
setup_table tree = record {
  name = codes "setup";
  tree = tree;
  columns = integer (codes "id") ∷ integer (codes "version") ∷ text (codes "text") ∷ [];
  key = Some 0;
  primary = 0 ∷ [];
  uniques = [];
  orders = [];
  checks = [];
  references = [];
  computed = [];
  stamps = record { places = []; terms = []; formats = [] };
  is_counted = false;
}

-- the column at this place, counted from 1, is at least this number
abbrev pub at_least : ℕ → ℕ → Term
at_least place n = op2 (Compare Ge Binary) (col 1 place) (lit (Int (pos n)))

abbrev pub at_most : ℕ → ℕ → Term
at_most place n = op2 (Compare Le Binary) (col 1 place) (lit (Int (pos n)))

abbrev pub returns_table : ℕ → Table
returns_table =
    table_with_key (codes "returns")
    (text (codes "station") ∷ text (codes "con") ∷ integer (codes "rev") ∷ text (codes "slip")
    ∷ integer (codes "status") ∷ text (codes "note") ∷ []) (1 ∷ [])
    (op2 And (at_least 5 1) (at_most 5 4) ∷ [])

abbrev pub counts_table : ℕ → Table
counts_table =
    table_with_key (codes "counts")
    (text (codes "station") ∷ integer (codes "item") ∷ integer (codes "n") ∷ []) (1 ∷ 2 ∷ [])
    (at_least 3 0 ∷ [])

abbrev pub cons_table : ℕ → Table
cons_table =
    table_with_key (codes "cons")
    (text (codes "con") ∷ integer (codes "edition") ∷ integer (codes "certified")
    ∷ text (codes "note") ∷ []) (1 ∷ []) []

abbrev pub lots_table : ℕ → Table
lots_table =
    table_with_key (codes "lots")
    (text (codes "con") ∷ integer (codes "place") ∷ integer (codes "list") ∷ []) (1 ∷ 2 ∷ []) []

abbrev pub seats_table : ℕ → Table
seats_table =
    table_with_key (codes "seats")
    (text (codes "con") ∷ integer (codes "list") ∷ integer (codes "n") ∷ []) (1 ∷ 2 ∷ []) []

abbrev pub gone_table : ℕ → Table
gone_table =
    table_with_key (codes "gone")
    (text (codes "con") ∷ integer (codes "list") ∷ integer (codes "place") ∷ text (codes "note")
    ∷ []) (1 ∷ 2 ∷ 3 ∷ []) []

abbrev pub totals_table : ℕ → Table
totals_table =
    table_with_key (codes "totals")
    (text (codes "con") ∷ integer (codes "item") ∷ integer (codes "n") ∷ []) (1 ∷ 2 ∷ [])
    (at_least 3 0 ∷ [])

abbrev pub past_table : ℕ → Table
past_table =
    table_with_key (codes "past")
    (text (codes "con") ∷ integer (codes "edition") ∷ integer (codes "list") ∷ integer (codes "n")
    ∷ []) (1 ∷ 2 ∷ 3 ∷ []) []

abbrev pub key_index : List ℕ → ℕ → ℕ → List ℕ → Index
key_index name table tree places = record {
  name = name;
  tree = tree;
  table = table;
  columns = places;
  order = record { digits = 0 };
  is_unique = true;
}

-- ---- the schema

-- Each table and each index has a tree. Trees are numbered in the order in which they are made: a
-- table, and then the index of its key.
abbrev pub setup_tree : ℕ
setup_tree = 0

abbrev pub returns_tree : ℕ
returns_tree = 1

abbrev pub counts_tree : ℕ
counts_tree = 3

abbrev pub cons_tree : ℕ
cons_tree = 5

abbrev pub lots_tree : ℕ
lots_tree = 7

abbrev pub seats_tree : ℕ
seats_tree = 9

abbrev pub gone_tree : ℕ
gone_tree = 11

abbrev pub totals_tree : ℕ
totals_tree = 13

abbrev pub past_tree : ℕ
past_tree = 15

-- in the order in which they are made
abbrev pub office_tables : List Table
office_tables =
    setup_table setup_tree ∷ returns_table returns_tree ∷ counts_table counts_tree
    ∷ cons_table cons_tree ∷ lots_table lots_tree ∷ seats_table seats_tree ∷ gone_table gone_tree
    ∷ totals_table totals_tree ∷ past_table past_tree ∷ []

abbrev pub office_indexes : List Index
office_indexes =
    key_index (codes "sqlite_autoindex_returns_1") returns_tree 2 (1 ∷ [])
    ∷ key_index (codes "sqlite_autoindex_counts_1") counts_tree 4 (1 ∷ 2 ∷ [])
    ∷ key_index (codes "sqlite_autoindex_cons_1") cons_tree 6 (1 ∷ [])
    ∷ key_index (codes "sqlite_autoindex_lots_1") lots_tree 8 (1 ∷ 2 ∷ [])
    ∷ key_index (codes "sqlite_autoindex_seats_1") seats_tree 10 (1 ∷ 2 ∷ [])
    ∷ key_index (codes "sqlite_autoindex_gone_1") gone_tree 12 (1 ∷ 2 ∷ 3 ∷ [])
    ∷ key_index (codes "sqlite_autoindex_totals_1") totals_tree 14 (1 ∷ 2 ∷ [])
    ∷ key_index (codes "sqlite_autoindex_past_1") past_tree 16 (1 ∷ 2 ∷ 3 ∷ []) ∷ []

-- the schema of the first this many tables: `setup` has no index, each other table has one
abbrev pub schema_with : ℕ → Schema
schema_with n = record {
  tables = take n office_tables;
  indexes = take (n - 1) office_indexes;
  views = [];
}

-- of an office of version 2
abbrev pub office_schema : Schema
office_schema = schema_with 9

-- of an office of version 1, which has no table `past`
abbrev pub former_schema : Schema
former_schema = schema_with 8
