-- The rows of closed returns that were entered twice.
use Rattle.std.proofs.Common.{◌≡◌, ◌∙◌, ℕ, pos, List, [], ◌∷◌, Option, Some, None, map, refl, sym, ap, subst}
use Rattle.std.specs.Prelude.{All, filter, IsPermutation}
use Rattle.std.specs.FinMap.{entries, entries_sorted, get, get-entries}
use Rattle.std.specs.List.{AllByRecursion, flat_map}
use Rattle.std.specs.Option.{option_map_or, option_to_list}
use Rattle.std.proofs.lemmas.List.{append-nil}
use Rattle.std.proofs.lemmas.List.Elements.{All-nil, All-cons}
use Rattle.std.proofs.lemmas.List.Sorted.{All-permutation}
use Rattle.sqlite.specs.State.{State as Seen}
use Rattle.sqlite_keyed.proofs.ListLemmas.{all_weaker}
use Rattle.sqlite_value.specs.declared.value.Value.TheVariants.{Int, Text}
use Rattle.sqlite_value.specs.Order.{Row}
use Rattle.tally_store_schema.specs.Rows.{has_key}
use Rattle.tally_store_schema.proofs.RowsLemmas.{keys_rise, rows_of_key}
use Rattle.tally_setup.specs.Constituency.{Constituency}
use Rattle.tally_setup.specs.Limits.{IsSetup}
use Rattle.tally_setup.specs.Setup.{constituency_with, station_with}
use Rattle.tally_setup.specs.declared.constituency.Entry.TheVariants.{Double}
use Rattle.tally_setup.specs.declared.constituency.Station.{Station}
use Rattle.tally_returns.specs.Decide.{limits_of}
use Rattle.tally_returns.specs.Return.{StationReturn}
use Rattle.tally_returns.specs.State.{State}
use Rattle.tally_returns.specs.declared.returns.Status.{Status}
use Rattle.tally_returns.specs.declared.returns.Status.TheVariants.{Received, Queried, Corrected, Closed}
use Rattle.tally_returns.proofs.ClosedLemmas.{constituency_with-own, station_with-con}
use Rattle.tally_machine_law.specs.EnteredTwice.{ForClosedReturns}
use Rattle.tally_machine_law.specs.LawfulState.{IsLawfulState}
use Rattle.tally_keeper.specs.EnteredTwice.{IsEnteredTwiceIn}
use Rattle.tally_keeper.specs.Keeper.{Event}
use Rattle.tally_store_open.proofs.EntriesLemmas.{each_found}
use Rattle.tally_store_schema.specs.declared.table.KeyedTable.TheVariants.{Returns, Counts}
use Rattle.tally_store_schema.specs.Office.{rows_in}
use Rattle.tally_store_rows.specs.Cells.{constituency_of, count_rows, items_of, return_row, return_rows, status_number}
use Rattle.tally_store_open.specs.Office.{IsOffice}
use Rattle.tally_store_open.proofs.ShownLemmas.{items_keyed}
use Rattle.tally_store.specs.EnteredTwice.{HasRowsEnteredTwice, IsClosedRow, IsRowEnteredTwice}

closed-number : (status : Status) → status_number status ≡ status_number Closed → status ≡ Closed
closed-number Received is = cc
closed-number Queried is = cc
closed-number Corrected is = cc
closed-number Closed is = refl

module _ (setup : List Constituency) (s : State) (seen : Seen) (events : List Event) (limits : IsSetup setup) (lawful : IsLawfulState setup s) (office : IsOffice setup s seen) (closed_twice : ForClosedReturns setup s (IsEnteredTwiceIn events)) where
  -- the rows of counts of a station
  counts-rows : (e : List ℕ × StationReturn) → get s.returns e.0 ≡ Some e.1 → IsPermutation (count_rows e) (filter (has_key e.0) (rows_in Counts seen))
  counts-rows e found =
      subst (λ rows. IsPermutation rows (filter (has_key e.0) (rows_in Counts seen))) (append-nil (count_rows e))
      (subst (λ o. IsPermutation (flat_map count_rows (map (λ v. (e.0, v)) (option_to_list o))) (filter (has_key e.0) (rows_in Counts seen))) found
      (rows_of_key count_rows (λ x. items_keyed x.0 (items_of x.1.counts)) s.returns e.0 (seen.now.trees _) office.has.tables.counts))

  module _ (code : List ℕ) (con : Constituency) (known : constituency_with code setup ≡ Some con) (double : con.entry ≡ Double) where
    own : constituency_with con.code setup ≡ Some con
    own = constituency_with-own setup code con known

    -- the row of a return
    row-twice : (e : List ℕ × StationReturn) → get s.returns e.0 ≡ Some e.1
        → IsClosedRow con (return_row (constituency_of setup e.0) e) → IsRowEnteredTwice events con seen (return_row (constituency_of setup e.0) e)
    row-twice e found is = at (station_with e.0 setup) refl
      where
        same_text : Text (constituency_of setup e.0) ≡ Text con.code
        same_text = is.0

        same_number : Int (pos (status_number e.1.status)) ≡ Int (pos (status_number Closed))
        same_number = is.1

        of : constituency_of setup e.0 ≡ con.code
        of = cc

        number : status_number e.1.status ≡ status_number Closed
        number = cc

        placed : (place : Constituency × Station) → station_with e.0 setup ≡ Some place → place.0 ≡ con
        placed place there =
            let named : place.0.code ≡ con.code = sym (ap (λ found. option_map_or (λ (p : Constituency × Station). p.0.code) found []) there) ∙ of in
            let both : Some place.0 ≡ Some con = sym (station_with-con setup e.0 place.0 place.1 limits there) ∙ ap (λ q. constituency_with q setup) named ∙ own in
            cc

        at : (there : Option (Constituency × Station)) → station_with e.0 setup ≡ there → IsRowEnteredTwice events con seen (return_row (constituency_of setup e.0) e)
        at None none =
            let held = lawful.stations e.0 e.1 found in
            let no : None ≡ Some held.0 = sym (ap (Rattle.std.specs.Prelude.option_map (λ (p : Constituency × Station). limits_of p.0 p.1)) none) ∙ held.1 in
            cc
        at (Some place) there = record {
          station = e.0;
          standing = e.1;
          is = ap (λ c. return_row c e) of;
          counts = counts-rows e found;
          twice = closed_twice e.0 place.0 place.1 e.1 there (ap (λ (c : Constituency). c.entry) (placed place there) ∙ double) found (closed-number e.1.status number);
        }

    abbrev Holds : Row → Type 0
    Holds row = IsClosedRow con row → IsRowEnteredTwice events con seen row

    each-row : (es : List (List ℕ × StationReturn)) → AllByRecursion (λ e. get s.returns e.0 ≡ Some e.1) es → All Holds (flat_map (return_rows setup) es)
    each-row [] found = All-nil Holds
    each-row (e ∷ es) found = All-cons Holds (return_row (constituency_of setup e.0) e) (flat_map (return_rows setup) es) (row-twice e found.0) (each-row es found.1)

    found-each : AllByRecursion (λ e. get s.returns e.0 ≡ Some e.1) (entries s.returns)
    found-each = all_weaker _ (λ e. get s.returns e.0 ≡ Some e.1) (λ e is. get-entries s.returns e.0 ∙ is) (entries s.returns) (each_found (entries s.returns) (keys_rise (entries s.returns) (entries_sorted s.returns)))

    rows-of : All Holds (rows_in Returns seen)
    rows-of = All-permutation Holds (flat_map (return_rows setup) (entries s.returns)) (rows_in Returns seen) office.has.tables.returns.each (each-row (entries s.returns) found-each)

  pub rows-twice : HasRowsEnteredTwice setup events seen
  rows-twice code con known double = rows-of code con known double
