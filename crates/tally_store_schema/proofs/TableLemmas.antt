-- What is true of each table of the office.
use Rattle.std.proofs.Common.{◌≡◌, ◌≢◌, ◌⊎◌, inl, inr, ℕ, eqb, true, false, IsTrue, refl, sym, subst, arith, append-nil}
use Rattle.std.proofs.lemmas.Bool.Decides.{eqb_tells}
use Rattle.sqlite_rules.specs.Edit.{IsNoIndex}
use Rattle.sqlite.specs.Effect.{IsDatabase}
use Rattle.sqlite.specs.State.{State}
use Rattle.tally_store_schema.specs.Rows.{HaveDistinctRowids}
use Rattle.tally_store_schema.proofs.InsertLemmas.{IsOrdinary}
use Rattle.tally_store_schema.specs.Tables.{office_schema, setup_tree, setup_table}
use Rattle.tally_store_schema.specs.declared.table.KeyedTable.{KeyedTable}
use Rattle.tally_store_schema.specs.declared.table.KeyedTable.TheVariants.{Returns, Counts, Cons, Lots, Seats, Gone, Totals, Past}
use Rattle.tally_store_schema.specs.Office.{table_of, tree_of, IsInside}

-- the place of a table among the tables of the office, counted from 0
abbrev pub table_number : KeyedTable → ℕ
table_number Returns = 1
table_number Counts = 2
table_number Cons = 3
table_number Lots = 4
table_number Seats = 5
table_number Gone = 6
table_number Totals = 7
table_number Past = 8

pub ordinary : (t : KeyedTable) → IsOrdinary office_schema (table_number t) (table_of t)
ordinary Returns = record { found = refl; uncounted = refl; unstamped = append-nil; alone = λ keys olds news. refl }
ordinary Counts = record { found = refl; uncounted = refl; unstamped = append-nil; alone = λ keys olds news. refl }
ordinary Cons = record { found = refl; uncounted = refl; unstamped = append-nil; alone = λ keys olds news. refl }
ordinary Lots = record { found = refl; uncounted = refl; unstamped = append-nil; alone = λ keys olds news. refl }
ordinary Seats = record { found = refl; uncounted = refl; unstamped = append-nil; alone = λ keys olds news. refl }
ordinary Gone = record { found = refl; uncounted = refl; unstamped = append-nil; alone = λ keys olds news. refl }
ordinary Totals = record { found = refl; uncounted = refl; unstamped = append-nil; alone = λ keys olds news. refl }
ordinary Past = record { found = refl; uncounted = refl; unstamped = append-nil; alone = λ keys olds news. refl }

pub setup_ordinary : IsOrdinary office_schema 0 (setup_table setup_tree)
setup_ordinary = record { found = refl; uncounted = refl; unstamped = append-nil; alone = λ keys olds news. refl }

pub no_index : (t : KeyedTable) → IsNoIndex office_schema (tree_of t)
no_index Returns = (λ e. omega arith, (λ e. omega arith, (λ e. omega arith, (λ e. omega arith, (λ e. omega arith, (λ e. omega arith, (λ e. omega arith, (λ e. omega arith, tt))))))))
no_index Counts = (λ e. omega arith, (λ e. omega arith, (λ e. omega arith, (λ e. omega arith, (λ e. omega arith, (λ e. omega arith, (λ e. omega arith, (λ e. omega arith, tt))))))))
no_index Cons = (λ e. omega arith, (λ e. omega arith, (λ e. omega arith, (λ e. omega arith, (λ e. omega arith, (λ e. omega arith, (λ e. omega arith, (λ e. omega arith, tt))))))))
no_index Lots = (λ e. omega arith, (λ e. omega arith, (λ e. omega arith, (λ e. omega arith, (λ e. omega arith, (λ e. omega arith, (λ e. omega arith, (λ e. omega arith, tt))))))))
no_index Seats = (λ e. omega arith, (λ e. omega arith, (λ e. omega arith, (λ e. omega arith, (λ e. omega arith, (λ e. omega arith, (λ e. omega arith, (λ e. omega arith, tt))))))))
no_index Gone = (λ e. omega arith, (λ e. omega arith, (λ e. omega arith, (λ e. omega arith, (λ e. omega arith, (λ e. omega arith, (λ e. omega arith, (λ e. omega arith, tt))))))))
no_index Totals = (λ e. omega arith, (λ e. omega arith, (λ e. omega arith, (λ e. omega arith, (λ e. omega arith, (λ e. omega arith, (λ e. omega arith, (λ e. omega arith, tt))))))))
no_index Past = (λ e. omega arith, (λ e. omega arith, (λ e. omega arith, (λ e. omega arith, (λ e. omega arith, (λ e. omega arith, (λ e. omega arith, (λ e. omega arith, tt))))))))

pub no_index_setup : IsNoIndex office_schema setup_tree
no_index_setup = (λ e. omega arith, (λ e. omega arith, (λ e. omega arith, (λ e. omega arith, (λ e. omega arith, (λ e. omega arith, (λ e. omega arith, (λ e. omega arith, tt))))))))

pub not_setup : (t : KeyedTable) → setup_tree ≢ tree_of t
not_setup Returns e = omega arith
not_setup Counts e = omega arith
not_setup Cons e = omega arith
not_setup Lots e = omega arith
not_setup Seats e = omega arith
not_setup Gone e = omega arith
not_setup Totals e = omega arith
not_setup Past e = omega arith

-- what a change of one table leaves of all of them
pub still_inside : (t : KeyedTable) (old new : State) → IsInside old → new.now.schema ≡ office_schema → IsDatabase new.now → HaveDistinctRowids (new.now.trees (tree_of t))
    → ((u : ℕ) → u ≢ tree_of t → IsNoIndex office_schema u → new.now.trees u ≡ old.now.trees u) → IsTrue new.in_transaction → IsInside new
still_inside t old new inside schema sound own others mode = record { schema = schema; sound = sound; distinct = each; inside = mode }
  where
    each : (u : KeyedTable) → HaveDistinctRowids (new.now.trees (tree_of u))
    each u = go (eqb_tells (tree_of u) (tree_of t))
      where
        go : ((eqb (tree_of u) (tree_of t) ≡ true) × (tree_of u ≡ tree_of t)) ⊎ ((eqb (tree_of u) (tree_of t) ≡ false) × (tree_of u ≢ tree_of t)) → HaveDistinctRowids (new.now.trees (tree_of u))
        go (inl same) = subst (λ n. HaveDistinctRowids (new.now.trees n)) (sym same.1) own
        go (inr other) = subst HaveDistinctRowids (sym (others (tree_of u) other.1 (no_index u))) (inside.distinct u)
