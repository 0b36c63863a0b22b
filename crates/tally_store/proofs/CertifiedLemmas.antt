-- The rows of seats of certified constituencies.
use Rattle.std.proofs.Common.{◌≡◌, ◌∙◌, ℕ, List, true, Option, Some, None, map, refl, ap, subst}
use Rattle.std.specs.Prelude.{filter, is_some, IsPermutation, unwrap_or}
use Rattle.std.specs.FinMap.{get}
use Rattle.std.specs.List.{flat_map}
use Rattle.std.specs.Option.{option_to_list}
use Rattle.std.proofs.lemmas.List.{append-nil}
use Rattle.sqlite.specs.State.{State as Seen}
use Rattle.tally_store_schema.specs.Rows.{AreRowsOf, has_key}
use Rattle.tally_store_schema.proofs.RowsLemmas.{rows_of_key}
use Rattle.tally_setup.specs.Constituency.{Constituency}
use Rattle.tally_setup.specs.Limits.{IsSetup}
use Rattle.tally_setup.specs.Setup.{constituency_with}
use Rattle.tally_returns.specs.State.{ConState, State, con_state, opening_con}
use Rattle.tally_returns.specs.View.{View, view_of}
use Rattle.tally_machine_law.specs.LawStatements.{CertificatesAreRight}
use Rattle.tally_machine_law.specs.LawfulState.{IsLawfulState}
use Rattle.tally_machine_law.specs.Step.{IsView}
use Rattle.tally_machine_law.proofs.ViewLemmas.{constituency-code}
use Rattle.tally_store_schema.specs.declared.table.KeyedTable.TheVariants.{Seats}
use Rattle.tally_store_schema.specs.Office.{rows_in, tree_of}
use Rattle.tally_store_rows.specs.Cells.{item_row, numbers_with_places, seat_rows}
use Rattle.tally_store.specs.Certified.{HasCertificates}
use Rattle.tally_store.specs.Content.{content_of}
use Rattle.tally_store_open.specs.Office.{IsOffice}
use Rattle.tally_store_open.proofs.ShownLemmas.{items_keyed}

found-some : (found : Option ConState) → is_some found ≡ true → found ≡ Some (unwrap_or found opening_con)
found-some None is = cc
found-some (Some c) is = refl

-- a constituency of the setup has a state
stands : (setup : List Constituency) (s : State) (con : Constituency) → IsLawfulState setup s → constituency_with con.code setup ≡ Some con → get s.cons con.code ≡ Some (con_state s con.code)
stands setup s con lawful found = found-some (get s.cons con.code) (lawful.known con.code ∙ ap is_some found)

seats-rows : (s : State) (given : List ℕ → List ℕ) (code : List ℕ) (c : ConState) (seen : Seen) → get s.cons code ≡ Some c → AreRowsOf (seat_rows given) s.cons (seen.now.trees (tree_of Seats))
    → IsPermutation (map (item_row code) (numbers_with_places 1 (given code))) (filter (has_key code) (rows_in Seats seen))
seats-rows s given code c seen is held =
    subst (λ rows. IsPermutation rows (filter (has_key code) (rows_in Seats seen))) (append-nil (map (item_row code) (numbers_with_places 1 (given code))))
    (subst (λ o. IsPermutation (flat_map (seat_rows given) (map (λ v. (code, v)) (option_to_list o))) (filter (has_key code) (rows_in Seats seen))) is
    (rows_of_key (seat_rows given) (λ e. items_keyed e.0 (numbers_with_places 1 (given e.0))) s.cons code (seen.now.trees (tree_of Seats)) held))

pub has-certificates : (setup : List Constituency) (s : State) (seen : Seen) → CertificatesAreRight → IsSetup setup → IsLawfulState setup s → IsOffice setup s seen → content_of setup seen ≡ Some s → HasCertificates setup seen
has-certificates setup s seen stand limits lawful office content = record {
  state = s;
  content = content;
  lawful = lawful;
  office = office;
  each = λ code con found certified.
      let tables = office.has.tables in
      let view : View = view_of con s (tables.given con.code) in
      let is_view : IsView con s view = (refl, tables.allotted code con found) in
      let known : constituency_with con.code setup ≡ Some con = subst (λ k. constituency_with k setup ≡ Some con) (constituency-code setup code con found) found in
      record {
        view = view;
        is_view = is_view;
        certificate = stand setup s limits lawful code con view found certified is_view;
        rows = seats-rows s tables.given con.code (con_state s con.code) seen (stands setup s con lawful known) tables.seats;
      };
}
