-- Rows that are judged to be those of lawful returns are so, and the
-- rows of lawful returns are judged so.
use Rattle.std.proofs.Common.{◌≡◌, ℕ, All, Bool, true, false, cond, Some, List, [], ◌∷◌, refl, sym, ap, ap₂, subst, ◌∙◌, Less}
use Rattle.std.specs.List.{AllByRecursion, flat_map}
use Rattle.std.specs.Ordering.{eq_by_cmp, is_eq, ordering_reverse}
use Rattle.std.specs.FinMap.{find, entries, entries_sorted, from_sorted, get-entries, entries-from_sorted}
use Rattle.std.proofs.lemmas.List.Elements.{recursion_from_All, All-from_recursion}
use Rattle.sqlite_keyed.proofs.ListLemmas.{all_weaker}
use Rattle.sqlite_trees.specs.Tree.{IsAscending}
use Rattle.sqlite_value.specs.Order.{Row}
use Rattle.tally_store_schema.specs.Rows.{text_cmp}
use Rattle.tally_store_schema.proofs.RowsLemmas.{text_total, text_exact, text_same, keys_rise}
use Rattle.tally_store_schema.proofs.StatementLemmas.{equal_is}
use Rattle.tally_setup.specs.Code.{is_code}
use Rattle.tally_setup.specs.Constituency.{Constituency}
use Rattle.tally_returns.specs.Return.{StationReturn, Returns}
use Rattle.tally_store_rows.specs.Cells.{return_rows, count_rows}
use Rattle.tally_store_open.specs.internal.Entries.{IsLawfulEntry, AreReturnsOf, rises}
use Rattle.tally_store_rows.specs.Reading.{entries_in}
use Rattle.tally_store_rows.proofs.EntryLemmas.{IsPlaced, entries_are, entries_again}
use Rattle.tally_store_rows.proofs.LawfulLemmas.{lawful_is_placed}
use Rattle.tally_store_open.proofs.RiseLemmas.{sorted_from_rises, rises_from_sorted}

-- ---- entries and what a map has at a key

module _ {X : Type 0} where
  also_found : (a : List ℕ × X) (es xs : List (List ℕ × X)) → AllByRecursion (λ e. text_cmp a.0 e.0 ≡ Less) xs → AllByRecursion (λ e. find text_cmp e.0 es ≡ Some e.1) xs → AllByRecursion (λ e. find text_cmp e.0 (a ∷ es) ≡ Some e.1) xs
  also_found a es [] above found = tt
  also_found a es (e ∷ xs) above found =
      let apart : eq_by_cmp text_cmp e.0 a.0 ≡ false = ap is_eq (text_total.antisymm e.0 a.0 ∙ ap ordering_reverse above.0) in
      (ap (λ b. cond b (Some a.1) (find text_cmp e.0 es)) apart ∙ found.0, also_found a es xs above.1 found.1)

  pub each_found : (es : List (List ℕ × X)) → IsAscending (λ a b. text_cmp a.0 b.0 ≡ Less) es → AllByRecursion (λ e. find text_cmp e.0 es ≡ Some e.1) es
  each_found [] up = tt
  each_found (a ∷ es) up = (ap (λ b. cond b (Some a.1) (find text_cmp a.0 es)) (text_same a.0), also_found a es es up.0 (each_found es up.1))

  pub found_has : (P : List ℕ × X → Type 0) (es : List (List ℕ × X)) → AllByRecursion P es → (k : List ℕ) (v : X) → find text_cmp k es ≡ Some v → P (k, v)
  found_has P [] all k v h = absurd (let e = h in cc)
  found_has P (e ∷ es) all k v h = go (eq_by_cmp text_cmp k e.0) refl h (found_has P es all.1 k v)
    where
      go : (b : Bool) → eq_by_cmp text_cmp k e.0 ≡ b → cond b (Some e.1) (find text_cmp k es) ≡ Some v → (find text_cmp k es ≡ Some v → P (k, v)) → P (k, v)
      go true tied is later = let same : e.1 ≡ v = (let i = is in cc) in subst P (ap₂ (λ x y. (x, y)) (sym (text_exact k e.0 (equal_is _ tied))) same) all.0
      go false tied is later = later is

-- ---- the judgement

pub returns_passed : (setup : List Constituency) (rows counts : List Row) (es : List (List ℕ × StationReturn)) → entries_in setup rows counts ≡ Some es → rises es ≡ true → All (IsLawfulEntry setup) es → AreReturnsOf setup rows counts (from_sorted es)
returns_passed setup rows counts es read up lawful =
    let sorted = sorted_from_rises es up in
    let returns : Returns = from_sorted es in
    let same : entries returns ≡ es = entries-from_sorted text_cmp es sorted in
    let are = entries_are setup rows counts es read in
    let each = recursion_from_All (IsLawfulEntry setup) es lawful in
    record {
      lawful = λ station v is. found_has (IsLawfulEntry setup) es each station v (sym (get-entries returns station ∙ ap (find text_cmp station) same) ∙ is);
      rows_are = are.rows_are ∙ ap (flat_map (return_rows setup)) (sym same);
      counts_are = are.counts_are ∙ ap (flat_map count_rows) (sym same);
    }

-- the code of each station of the setup is a code
abbrev pub StationsHaveCodes : List Constituency → Type 0
StationsHaveCodes setup = (station : List ℕ) (limits : _) → Rattle.tally_returns.specs.State.stations_of setup station ≡ Some limits → is_code station ≡ true

pub returns_must_pass : (setup : List Constituency) (rows counts : List Row) (returns : Returns) → StationsHaveCodes setup → AreReturnsOf setup rows counts returns
    → (entries_in setup rows counts ≡ Some (entries returns)) × (rises (entries returns) ≡ true) × All (IsLawfulEntry setup) (entries returns)
returns_must_pass setup rows counts returns codes h =
    let es = entries returns in
    let found = each_found es (keys_rise es (entries_sorted returns)) in
    let each : AllByRecursion (IsLawfulEntry setup) es = all_weaker _ (IsLawfulEntry setup) (λ e is. h.lawful e.0 e.1 (get-entries returns e.0 ∙ is)) es found in
    let placed : AllByRecursion (IsPlaced setup) es = all_weaker _ (IsPlaced setup) (λ e is. lawful_is_placed setup e is.0 (codes e.0 is.0 is.1) is.1 is.2) es each in (
      ap₂ (entries_in setup) h.rows_are h.counts_are ∙ entries_again setup es placed,
      rises_from_sorted es (entries_sorted returns),
      All-from_recursion (IsLawfulEntry setup) es each,
    )
