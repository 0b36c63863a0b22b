-- The state that the tables of a lawful state read as is that state.
use Rattle.std.proofs.Common.{◌≡◌, ◌∙◌, ℕ, T, false, Some, None, List, [], ◌∷◌, map, IsTrue, refl, sym, ap, ap₂, subst}
use Rattle.std.specs.Prelude.{All, if◌then◌else◌, option_and_then, option_map, unwrap_or}
use Rattle.std.specs.List.{AllByRecursion}
use Rattle.std.specs.Ordering.{nat_cmp}
use Rattle.std.specs.FinMap.{FinMap, entries, entries_sorted, from_sorted, entries-from_sorted, same_entries_map}
use Rattle.std.specs.FinMap.Entries.{is_sorted}
use Rattle.std.specs.declared.cmp.Ordering.{Ordering}
use Rattle.std.proofs.lemmas.List.Elements.{recursion_from_All}
use Rattle.sqlite.specs.State.{State as Seen}
use Rattle.tally_setup.specs.Constituency.{Constituency}
use Rattle.tally_setup.specs.Limits.{IsSetup}
use Rattle.tally_returns.specs.Return.{Returns}
use Rattle.tally_returns.specs.State.{ConState, GoneCandidates, PastRecords, State, opening}
use Rattle.tally_returns.specs.View.{gone_candidate, gone_candidates, past_record, past_records, view_with}
use Rattle.tally_machine_law.specs.LawfulState.{IsLawfulState, IsUnderPlaces}
use Rattle.tally_machine_law.specs.LawStatements.{ViewsAreLawful}
use Rattle.tally_store_schema.specs.Rows.{text_cmp}
use Rattle.tally_store_schema.specs.declared.table.KeyedTable.TheVariants.{Returns as Heads, Counts, Cons, Lots, Seats, Gone, Totals, Past}
use Rattle.tally_store_open.specs.OfficeRows.{AreOfficeRows}
use Rattle.tally_store_open.proofs.StateLemmas.{IsHeld, all_held, under_held, view_entry, view_is, views_of}
use Rattle.tally_store_open.proofs.VerdictLemmas.{known_state, must_read, must_view}
use Rattle.tally_store.specs.Content.{con_entry, con_seen, cons_read, content_of, gone_entry, office_rows, past_entry, state_read, state_with, with_returns}
use Rattle.tally_store_open.specs.internal.Opening.{ShowsOffice}
use Rattle.tally_store_open.specs.Office.{IsOffice}
use Rattle.tally_store.proofs.SortedLemmas.{sorted_shows}
use Rattle.tally_store_open.proofs.TableLemmas.{rows_of_tables}

-- ---- from what is seen of a constituency back to what it has come to

map_again : {K X : Type 0} (R : K → K → Ordering) (m : FinMap R X) (es : List (K × X)) → es ≡ entries m → from_sorted {R = R} es ≡ m
map_again R m es is = same_entries_map _ _ (entries-from_sorted R es (subst (λ l. T (is_sorted R l)) (sym is) (entries_sorted m)) ∙ is)

gone_again : (gone : List (List ℕ × List ℕ)) → AllByRecursion IsUnderPlaces gone → map gone_entry (map gone_candidate gone) ≡ gone
gone_again [] h = refl
gone_again (g ∷ gone) h = ap₂ (λ k l. (k, g.1) ∷ l) (sym h.0) (gone_again gone h.1)

past_again : (past : List (ℕ × List ℕ)) → map past_entry (map past_record past) ≡ past
past_again [] = refl
past_again (p ∷ past) = ap (λ l. p ∷ l) (past_again past)

gone_is : (gone : GoneCandidates) → All IsUnderPlaces (entries gone) → from_sorted {R = text_cmp} (map gone_entry (gone_candidates gone)) ≡ gone
gone_is gone under = map_again text_cmp gone _ (gone_again (entries gone) (recursion_from_All IsUnderPlaces (entries gone) under))

past_is : (past : PastRecords) → from_sorted {R = nat_cmp} (map past_entry (past_records past)) ≡ past
past_is past = map_again nat_cmp past _ (past_again (entries past))

con_again : (con : Constituency) (c : ConState) (returns : Returns) (seats : List ℕ) → All IsUnderPlaces (entries c.gone) → con_seen (view_with con c returns seats) ≡ c
con_again con c returns seats under = λ i. record {
  edition = c.edition;
  certified = c.certified;
  note = c.note;
  lot = c.lot;
  gone = gone_is c.gone under i;
  past = past_is c.past i;
}

entry_again : (setup : List Constituency) (s : State) (given : List ℕ → List ℕ) → IsLawfulState setup s → (e : List ℕ × ConState) → IsHeld setup s e → con_entry (view_entry setup s given e) ≡ e
entry_again setup s given lawful e h =
    let under : All IsUnderPlaces (entries e.1.gone) = subst (λ (c : ConState). All IsUnderPlaces (entries c.gone)) h.state (under_held setup s lawful e h) in
    ap (λ c. (e.0, c)) (ap con_seen (view_is setup s given e h) ∙ con_again h.con e.1 s.returns (given e.0) under)

entries_again : (setup : List Constituency) (s : State) (given : List ℕ → List ℕ) → IsLawfulState setup s → (es : List (List ℕ × ConState)) → AllByRecursion (IsHeld setup s) es → map con_entry (map (view_entry setup s given) es) ≡ es
entries_again setup s given lawful [] h = refl
entries_again setup s given lawful (e ∷ es) h = ap₂ (λ x l. x ∷ l) (entry_again setup s given lawful e h.0) (entries_again setup s given lawful es h.1)

state_again : (setup : List Constituency) (s : State) (given : List ℕ → List ℕ) → IsLawfulState setup s → state_with (entries s.returns) (views_of setup s given) ≡ s
state_again setup s given lawful =
    let returns : from_sorted {R = text_cmp} (entries s.returns) ≡ s.returns = map_again text_cmp s.returns _ refl in
    let cons : from_sorted {R = text_cmp} (map con_entry (views_of setup s given)) ≡ s.cons = map_again text_cmp s.cons _ (entries_again setup s given lawful (entries s.cons) (all_held setup s lawful.known)) in
    λ i. record { returns = returns i; cons = cons i }

-- ---- the tables of a lawful state

shows_office : (seen : Seen) → ShowsOffice seen (office_rows seen)
shows_office seen = record {
  returns = sorted_shows Heads seen;
  counts = sorted_shows Counts seen;
  cons = sorted_shows Cons seen;
  lots = sorted_shows Lots seen;
  seats = sorted_shows Seats seen;
  gone = sorted_shows Gone seen;
  totals = sorted_shows Totals seen;
  past = sorted_shows Past seen;
}

pub state_is : (setup : List Constituency) (s : State) (seen : Seen) → ViewsAreLawful → IsSetup setup → IsLawfulState setup s → IsOffice setup s seen → state_read setup seen ≡ Some s
unfolding state_read
state_is setup s seen views limits lawful office =
    let rows = office_rows seen in
    let are : AreOfficeRows setup s rows = rows_of_tables setup s limits lawful office.text seen rows (shows_office seen) office.has.tables in
    let read = must_read setup rows s limits lawful are in
    let kept = with_returns setup (entries s.returns) in
    let shown = must_view setup rows s kept are (known_state setup rows s kept refl limits views lawful are) in
    ap (λ o. option_and_then (λ returns. option_map (state_with returns) (cons_read setup rows returns)) o) read.0
    ∙ ap (option_map (state_with (entries s.returns))) shown.0
    ∙ ap Some (state_again setup s are.given lawful)

-- what a store shows while it is open
pub content_is : (setup : List Constituency) (s : State) (seen : Seen) → ViewsAreLawful → IsSetup setup → IsLawfulState setup s → IsOffice setup s seen → IsTrue seen.is_open → content_of setup seen ≡ Some s
content_is setup s seen views limits lawful office now =
    ap (λ b. if b then Some (unwrap_or (state_read setup seen) (opening setup)) else None) now ∙ ap (λ o. Some (unwrap_or o (opening setup))) (state_is setup s seen views limits lawful office)

pub content_shut : (setup : List Constituency) (seen : Seen) → seen.is_open ≡ false → content_of setup seen ≡ None
content_shut setup seen shut = ap (λ b. if b then Some (unwrap_or (state_read setup seen) (opening setup)) else None) shut
