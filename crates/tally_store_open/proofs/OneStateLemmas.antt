-- Rows are those of at most one lawful state.
use Rattle.std.proofs.Common.{◌≡◌, ℕ, T, Some, List, [], ◌∷◌, map, refl, sym, ap, ap₂, subst, ◌∙◌}
use Rattle.std.specs.Prelude.{All}
use Rattle.std.specs.List.{AllByRecursion}
use Rattle.std.specs.Ordering.{nat_cmp}
use Rattle.std.specs.FinMap.{entries, entries_sorted, from_sorted, entries-from_sorted, same_entries_map}
use Rattle.std.specs.FinMap.Entries.{is_sorted}
use Rattle.std.proofs.lemmas.List.Elements.{recursion_from_All}
use Rattle.tally_setup.specs.Constituency.{Constituency}
use Rattle.tally_setup.specs.Limits.{IsSetup}
use Rattle.tally_returns.specs.State.{State, ConState, GoneCandidates, PastRecords}
use Rattle.tally_returns.specs.View.{view_with, gone_candidate, gone_candidates, past_record, past_records}
use Rattle.tally_returns.specs.Return.{Returns}
use Rattle.tally_machine_law.specs.LawfulState.{IsUnderPlaces, IsLawfulState}
use Rattle.tally_machine_law.specs.LawStatements.{ViewsAreLawful}
use Rattle.tally_store_schema.specs.Rows.{text_cmp}
use Rattle.tally_store_rows.proofs.ConLemmas.{gone_entry, past_entry}
use Rattle.tally_store_open.specs.OfficeRows.{RowsInOrder, AreOfficeRows, AreLawfulRows, AreRowsOfOneState}
use Rattle.tally_store_open.proofs.LedgerLemmas.{kept_of}
use Rattle.tally_store_open.proofs.OfficeLemmas.{con_of, state_entry}
use Rattle.tally_store_open.proofs.StateLemmas.{IsHeld, all_held, view_entry, view_is, views_of, under_held}
use Rattle.tally_store_open.proofs.VerdictLemmas.{must_read, must_view, known_state}

some_same : {X : Type 0} (a b : X) → Some a ≡ Some b → a ≡ b
some_same a b h = (let k = h in cc)

-- ---- from what is seen of a constituency back to what it has come to

gone_again : (gone : List (List ℕ × List ℕ)) → AllByRecursion IsUnderPlaces gone → map gone_entry (map gone_candidate gone) ≡ gone
gone_again [] h = refl
gone_again (g ∷ gone) h = ap₂ (λ k l. (k, g.1) ∷ l) (sym h.0) (gone_again gone h.1)

past_again : (past : List (ℕ × List ℕ)) → map past_entry (map past_record past) ≡ past
past_again [] = refl
past_again (p ∷ past) = ap (λ l. p ∷ l) (past_again past)

gone_is : (gone : GoneCandidates) → All IsUnderPlaces (entries gone) → from_sorted {R = text_cmp} (map gone_entry (gone_candidates gone)) ≡ gone
gone_is gone under =
    let again = gone_again (entries gone) (recursion_from_All IsUnderPlaces (entries gone) under) in
    same_entries_map _ _ (entries-from_sorted text_cmp (map gone_entry (gone_candidates gone)) (subst (λ l. T (is_sorted text_cmp l)) (sym again) (entries_sorted gone)) ∙ again)

past_is : (past : PastRecords) → from_sorted {R = nat_cmp} (map past_entry (past_records past)) ≡ past
past_is past =
    let again = past_again (entries past) in
    same_entries_map _ _ (entries-from_sorted nat_cmp (map past_entry (past_records past)) (subst (λ l. T (is_sorted nat_cmp l)) (sym again) (entries_sorted past)) ∙ again)

con_back : (con : Constituency) (c : ConState) (returns : Returns) (seats : List ℕ) → All IsUnderPlaces (entries c.gone) → con_of (view_with con c returns seats) ≡ c
con_back con c returns seats under = λ i. record {
  edition = c.edition;
  certified = c.certified;
  note = c.note;
  lot = c.lot;
  gone = gone_is c.gone under i;
  past = past_is c.past i;
}

entry_back : (setup : List Constituency) (s : State) (given : List ℕ → List ℕ) → IsLawfulState setup s → (e : List ℕ × ConState) → IsHeld setup s e → state_entry (view_entry setup s given e) ≡ e
entry_back setup s given lawful e h =
    let under : All IsUnderPlaces (entries e.1.gone) = subst (λ (c : ConState). All IsUnderPlaces (entries c.gone)) h.state (under_held setup s lawful e h) in
    ap (λ c. (e.0, c)) (ap con_of (view_is setup s given e h) ∙ con_back h.con e.1 s.returns (given e.0) under)

entries_back : (setup : List Constituency) (s : State) (given : List ℕ → List ℕ) → IsLawfulState setup s → (es : List (List ℕ × ConState)) → AllByRecursion (IsHeld setup s) es → map state_entry (map (view_entry setup s given) es) ≡ es
entries_back setup s given lawful [] h = refl
entries_back setup s given lawful (e ∷ es) h = ap₂ (λ x l. x ∷ l) (entry_back setup s given lawful e h.0) (entries_back setup s given lawful es h.1)

-- ---- two states with the same rows

pub one_state : (setup : List Constituency) (rows : RowsInOrder) (s t : State) → IsSetup setup → ViewsAreLawful → IsLawfulState setup s → AreOfficeRows setup s rows → IsLawfulState setup t → AreOfficeRows setup t rows → t ≡ s
one_state setup rows s t limits views lawful_s of_s lawful_t of_t =
    let read_s = must_read setup rows s limits lawful_s of_s in
    let read_t = must_read setup rows t limits lawful_t of_t in
    let same : entries t.returns ≡ entries s.returns = some_same (entries t.returns) (entries s.returns) (sym read_t.0 ∙ read_s.0) in
    let returns : t.returns ≡ s.returns = same_entries_map t.returns s.returns same in
    let kept = kept_of setup (entries s.returns) in
    let seen_s = must_view setup rows s kept of_s (known_state setup rows s kept refl limits views lawful_s of_s) in
    let seen_t = must_view setup rows t kept of_t (known_state setup rows t kept (ap (kept_of setup) (sym same)) limits views lawful_t of_t) in
    let shown : views_of setup t of_t.given ≡ views_of setup s of_s.given = some_same (views_of setup t of_t.given) (views_of setup s of_s.given) (sym seen_t.0 ∙ seen_s.0) in
    let back_s = entries_back setup s of_s.given lawful_s (entries s.cons) (all_held setup s lawful_s.known) in
    let back_t = entries_back setup t of_t.given lawful_t (entries t.cons) (all_held setup t lawful_t.known) in
    let cons : t.cons ≡ s.cons = same_entries_map t.cons s.cons (sym back_t ∙ ap (map state_entry) shown ∙ back_s) in
    λ i. record { returns = returns i; cons = cons i }

pub rows_of_one : (setup : List Constituency) (rows : RowsInOrder) → IsSetup setup → ViewsAreLawful → AreLawfulRows setup rows → AreRowsOfOneState setup rows
rows_of_one setup rows limits views h = record {
  state = h.0;
  lawful = h.1;
  rows_are = h.2;
  alone = λ other lawful of_other. one_state setup rows h.0 other limits views h.1 h.2 lawful of_other;
}
