use Rattle.std.proofs.Common.{◌≡◌, ◌≤◌, ◌∙◌, ◌+◌, ◌++◌, ℕ, true, false, cond, List, [], Option, None, Some, ap, ap₂, append-nil, drop, length, refl, sym, arith, rules}
use Rattle.std.specs.Prelude.{option_map}
use Rattle.std.proofs.lemmas.List.{drop_all}
use Rattle.sqlite_value.specs.Order.{Row}
use Rattle.tally_keeper.specs.Kept.{view_in}
use Rattle.tally_returns.specs.View.{View}
use Rattle.tally_setup.specs.Constituency.{Constituency}
use Rattle.tally_store_rows.specs.Views.{Tables, con_at, view_with_code, in_each, is_empty, rows_after, rows_of_key, tables_in}
use Rattle.tally_store_rows.proofs.FoundLemmas.{Reading, no_con, not_found, one_found, rows_left}
use Rattle.tally_store_rows.proofs.ItemLemmas.{map_some}
use Rattle.tally_store_open.specs.internal.Found.{con_counted}
use Rattle.tally_store_open.proofs.found.views_from.Goals as goal

-- the constituency that was named, and what was counted of it
named : (setup : List Constituency) (counted : Constituency → View) (row : Row) (con : Constituency) (view : View) → Some (con, view) ≡ con_counted setup counted row → (Some con ≡ con_at setup row) × (view ≡ counted con)
named setup counted row con view h =
    let it = map_some (λ (k : Constituency). (k, counted k)) (con_at setup row) (con, view) (sym h) in
    let same : it.0 ≡ con = ap (λ (p : Constituency × View). p.0) it.2 in
    (sym (it.1 ∙ ap Some same), sym (ap (λ (p : Constituency × View). p.1) it.2) ∙ ap counted same)

abbrev with_count : (Constituency → View) → Constituency → Constituency × View
with_count counted con = (con, counted con)

-- none was named
unnamed : (setup : List Constituency) (counted : Constituency → View) (row : Row) → None ≡ con_counted setup counted row → None ≡ con_at setup row
unnamed setup counted row h = go (con_at setup row) h
  where
    go : (o : Option Constituency) → None ≡ option_map (with_count counted) o → None ≡ o
    go None h = refl
    go (Some con) h = absurd (let k = h in cc)

-- every row was read, and no other is left
all_read : (setup : List Constituency) (counted : Constituency → View) (so_far : List (List ℕ × View)) (rows : List Row) (tables : Tables) (i : ℕ) → length rows ≤ i → is_empty tables ≡ true → Reading setup counted so_far (drop i rows) tables ≡ Some so_far
all_read setup counted so_far rows tables i past none =
    ap (λ l. Reading setup counted so_far l tables) (drop_all i rows past) ∙ ap (λ b. option_map (λ es. so_far ++ es) (cond b (Some []) None)) none ∙ ap Some (append-nil so_far)

pub loop-row-preserved : goal.loop-row-preserved
loop-row-preserved c =
    let kept = c.args.ledger.now in
    let setup = kept.setup in
    let counted = view_in kept in
    let rows = c.args.rows.now in
    let i = c.loop-row.row-index in
    let row = c.row-item.result in
    let con = c.in-Some.con.now in
    let left = tables_in c.loop-row.left in
    let place = named setup counted row con c.in-Some.counted.now c.in-Some.ensures in
    let code : c.as_bytes.result.now ≡ con.code = search rules in
    let front = c.split.ensures.front ∙ ap (λ k. in_each (rows_of_key k) left) code in
    let back = c.split.ensures.back ∙ ap (λ k. in_each (rows_after k) left) code in
    let found = sym c.in-Some-2.is ∙ c.in_ok-found.ensures ∙ ap₂ (λ v t. view_with_code v row t con) place.1 front in
    ap₂ (λ es t. Reading setup counted es (drop (i + 1) rows) t) c.in_ok-push-in-Some-2.ensures.items back
    ∙ sym (one_found setup counted c.loop-row.all.items rows left i row con _ (omega (arith, c.loop-row-test.true)) c.row-item.is place.0 found) ∙ c.loop-row.invariant

pub returns-in-None : goal.returns-in-None
returns-in-None c =
    let kept = c.args.ledger.now in
    let setup = kept.setup in
    let counted = view_in kept in
    let rows = c.args.rows.now in
    let row = c.row-item.result in
    let con = c.in-Some.con.now in
    let left = tables_in c.loop-row.left in
    let place = named setup counted row con c.in-Some.counted.now c.in-Some.ensures in
    let code : c.as_bytes.result.now ≡ con.code = search rules in
    let front = c.split.ensures.front ∙ ap (λ k. in_each (rows_of_key k) left) code in
    let none = sym c.in-None.is ∙ c.in_ok-found.ensures ∙ ap₂ (λ v t. view_with_code v row t con) place.1 front in
    sym (not_found setup counted c.loop-row.all.items rows left c.loop-row.row-index row con (omega (arith, c.loop-row-test.true)) c.row-item.is place.0 none) ∙ c.loop-row.invariant

pub returns-in_default : goal.returns-in_default
returns-in_default c =
    let kept = c.args.ledger.now in
    let setup = kept.setup in
    let counted = view_in kept in
    let row = c.row-item.result in
    let none = unnamed setup counted row c.in_default.ensures in
    sym (no_con setup counted c.loop-row.all.items c.args.rows.now (tables_in c.loop-row.left) c.loop-row.row-index row (omega (arith, c.loop-row-test.true)) c.row-item.is none) ∙ c.loop-row.invariant

pub returns-then-is_empty : goal.returns-then-is_empty
returns-then-is_empty c =
    let kept = c.args.ledger.now in
    let none : is_empty (tables_in c.loop-row.left) ≡ true = sym c.is_empty.ensures ∙ c.if-is_empty.true in
    sym (all_read kept.setup (view_in kept) c.loop-row.all.items c.args.rows.now (tables_in c.loop-row.left) c.loop-row.row-index (omega (arith, c.loop-row-test.false)) none) ∙ c.loop-row.invariant

pub returns-else-is_empty : goal.returns-else-is_empty
returns-else-is_empty c =
    let kept = c.args.ledger.now in
    let some : is_empty (tables_in c.loop-row.left) ≡ false = sym c.is_empty.ensures ∙ c.if-is_empty.false in
    sym (rows_left kept.setup (view_in kept) c.loop-row.all.items c.args.rows.now (tables_in c.loop-row.left) c.loop-row.row-index (omega (arith, c.loop-row-test.false)) some) ∙ c.loop-row.invariant
