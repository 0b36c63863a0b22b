-- Returns that are put one after the other, in the order of their stations.
use Rattle.std.proofs.Common.{◌≡◌, ◌<◌, ◌+◌, ℕ, zero, suc, true, false, cond, Some, None, List, [], ◌∷◌, ◌++◌, length, length-append, take, get_or, Less, refl, sym, ap, subst, ◌∙◌, arith}
use Rattle.std.specs.List.{AllByRecursion}
use Rattle.std.specs.Ordering.{eq_by_cmp, is_eq, ordering_reverse}
use Rattle.std.specs.FinMap.{find, insert, from_entries, from_entries_push}
use Rattle.std.proofs.lemmas.List.{take_all, take_more}
use Rattle.sqlite_trees.specs.Tree.{IsAscending}
use Rattle.tally_store_schema.specs.Rows.{text_cmp}
use Rattle.tally_store_schema.proofs.RowsLemmas.{text_total, text_exact, keys_rise}
use Rattle.tally_setup.specs.Constituency.{Constituency}
use Rattle.tally_returns.specs.Return.{StationReturn, Returns}
use Rattle.tally_keeper.specs.Kept.{Kept, opening_kept}
use Rattle.tally_store_open.specs.internal.Entries.{rises}
use Rattle.tally_store_open.proofs.RiseLemmas.{sorted_from_rises}

module _ {X : Type 0} where
  at_place : (P : List ℕ × X → Type 0) (es : List (List ℕ × X)) (i : ℕ) (e d : List ℕ × X) → AllByRecursion P es → i < length es → e ≡ get_or es i d → P e
  at_place P [] i e d all low at = absurd (omega (arith, low))
  at_place P (a ∷ es) zero e d all low at = subst P (sym at) all.0
  at_place P (a ∷ es) (suc i) e d all low at = at_place P es i e d all.1 (omega (arith, low)) at

  fresh : (es : List (List ℕ × X)) (i : ℕ) (e d : List ℕ × X) → IsAscending (λ a b. text_cmp a.0 b.0 ≡ Less) es → i < length es → e ≡ get_or es i d → find text_cmp e.0 (take i es) ≡ None
  fresh [] i e d up low at = absurd (omega (arith, low))
  fresh (a ∷ es) zero e d up low at = refl
  fresh (a ∷ es) (suc i) e d up low at =
      let above : text_cmp a.0 e.0 ≡ Less = at_place (λ x. text_cmp a.0 x.0 ≡ Less) es i e d up.0 (omega (arith, low)) at in
      let apart : eq_by_cmp text_cmp e.0 a.0 ≡ false = ap is_eq (text_total.antisymm e.0 a.0 ∙ ap ordering_reverse above) in
      ap (λ b. cond b (Some a.1) (find text_cmp e.0 (take i es))) apart ∙ fresh es i e d up.1 (omega (arith, low)) at

  -- one more
  pub put_next : (es : List (List ℕ × X)) (i : ℕ) (e : List ℕ × X) → rises es ≡ true → i < length es → e ≡ get_or es i e → insert (from_entries {R = text_cmp} (take i es)) e.0 e.1 ≡ from_entries (take (i + 1) es)
  put_next es i e up low at =
      sym (from_entries_push text_total text_exact (take i es) e.0 e.1 (fresh es i e e (keys_rise es (sorted_from_rises es up)) low at))
      ∙ ap from_entries (sym (take_more es i e low ∙ ap (λ x. take i es ++ x ∷ []) (sym at)))

-- ---- the ledger

-- what is kept with these returns alone
abbrev pub kept_of : List Constituency → List (List ℕ × StationReturn) → Kept
kept_of setup es = record (opening_kept setup) { returns = from_entries es }

pub kept_next : (setup : List Constituency) (es so_far : List (List ℕ × StationReturn)) (e : List ℕ × StationReturn) (old new : Kept) → rises es ≡ true → length so_far < length es → e ≡ get_or es (length so_far) e
    → old ≡ kept_of setup (take (length so_far) es) → new ≡ record old { returns = insert old.returns e.0 e.1 } → new ≡ kept_of setup (take (length (so_far ++ e ∷ [])) es)
kept_next setup es so_far e old new up low at was is =
    is ∙ ap (λ (k : Kept). record k { returns = insert k.returns e.0 e.1 }) was
    ∙ ap (λ (r : Returns). record (opening_kept setup) { returns = r }) (put_next es (length so_far) e up low at)
    ∙ ap (λ n. kept_of setup (take n es)) (sym (length-append so_far (e ∷ [])))

pub kept_end : (setup : List Constituency) (es so_far : List (List ℕ × StationReturn)) (kept : Kept) → length so_far ≡ length es → kept ≡ kept_of setup (take (length so_far) es) → kept ≡ kept_of setup es
kept_end setup es so_far kept all is = is ∙ ap (kept_of setup) (take_all (length so_far) es (omega (arith, all)))
