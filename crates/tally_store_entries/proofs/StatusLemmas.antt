-- How many returns of stations are in each status.
use Rattle.std.proofs.Common.{◌≡◌, ◌<◌, ◌≤◌, ◌+◌, ℕ, Bool, true, false, true≢false, cond, pos, List, [], length, take, get_or, Option, None, Some, Ok, Err, Result, IfOk, refl, sym, ap, subst, ◌∙◌, arith}
use Rattle.std.specs.Prelude.{is_some, option_map, option_and_then, unwrap_or}
use Rattle.std.specs.List.{count_by}
use Rattle.std.specs.Option.{option_map_or}
use Rattle.std.specs.FinMap.{get}
use Rattle.std.proofs.lemmas.List.{length-take, take_all}
use Rattle.std.proofs.lemmas.List.Sums.{count_by_more_no, count_by_more_yes}
use Rattle.sqlite_value.specs.declared.value.Value.TheVariants.{Int}
use Rattle.sqlite_value.specs.Order.{Row}
use Rattle.sqlite.specs.declared.error.Error.{Error}
use Rattle.sqlite.specs.State.{State, IsUnchanged}
use Rattle.tally_store_schema.specs.Values.{number_of}
use Rattle.tally_store_schema.specs.Rows.{AreRowsOf}
use Rattle.tally_setup.specs.Constituency.{Constituency}
use Rattle.tally_setup.specs.declared.constituency.Station.{Station}
use Rattle.tally_returns.specs.Progress.{is_received, is_queried, is_corrected, is_closed, progress_row, count_with_status}
use Rattle.tally_returns.specs.Return.{StationReturn, Returns as StationReturns}
use Rattle.tally_returns.specs.State.{ConState, con_state, opening_con}
use Rattle.tally_returns.specs.declared.progress.ProgressRow.{ProgressRow}
use Rattle.tally_returns.specs.declared.returns.Status.{Status}
use Rattle.tally_returns.specs.declared.returns.Status.TheVariants.{Received, Queried, Corrected, Closed}
use Rattle.tally_store_schema.specs.declared.table.KeyedTable.TheVariants.{Returns}
use Rattle.tally_store_schema.specs.Office.{IsFound, tree_of}
use Rattle.tally_store_rows.specs.Cells.{return_rows, status_number}
use Rattle.tally_store_rows.specs.Reading.{status_of}
use Rattle.tally_store_rows.specs.declared.views.Statuses.{Statuses}
use Rattle.tally_store_entries.specs.internal.Constituencies.{FindsProgressRow}
use Rattle.tally_store_entries.specs.internal.Found.{AreWithin, FindsKnownStatuses, FindsStatus, FindsStatuses, IsStageAmong, status_in, with_station}
use Rattle.tally_store_entries.proofs.StageLemmas.{stage-among}
use Rattle.tally_store_entries.specs.internal.Statuses.{statuses_in}
use Rattle.tally_store_entries.proofs.ReturnLemmas.{heads_keyed}
use Rattle.tally_store_entries.proofs.ViewLemmas.{found_none, found_rows}

-- ---- one station

status_again : (status : Status) → option_and_then status_of (number_of (Int (pos (status_number status)))) ≡ Some status
status_again Received = refl
status_again Queried = refl
status_again Corrected = refl
status_again Closed = refl

status_is : (station : List ℕ) (s : State) (rows : List Row) (found : Option Status) → IsFound Returns station s rows → status_in rows ≡ Some found → FindsStatus station s found
status_is station s rows found looked read setup returns held = go (get returns station) refl
  where
    go : (o : Option StationReturn) → get returns station ≡ o → found ≡ option_map (λ (standing : StationReturn). standing.status) o
    go None is =
        let none : rows ≡ [] = found_none Returns (return_rows setup) (heads_keyed setup) returns station s rows is held looked in
        let both : ◌≡◌ {A = Option (Option Status)} (Some found) (Some None) = sym read ∙ ap status_in none in
        (let e = both in cc)
    go (Some r) is =
        let one : rows ≡ return_rows setup (station, r) = found_rows Returns (return_rows setup) (heads_keyed setup) returns station s rows r is held (record { whole = (refl, tt); rising = (tt, tt) }) looked in
        let both : Some found ≡ Some (Some r.status) = sym read ∙ ap status_in one ∙ ap (option_map (λ (status : Status). Some status)) (status_again r.status) in
        (let e = both in cc)

pub finds_status : (station : List ℕ) (s : State) (rows : List Row) (result : Result (Option Status) Error) → IsFound Returns station s rows → IfOk result (λ found. status_in rows ≡ Some found) → IfOk result (FindsStatus station s)
finds_status station s rows (Err e) looked read = tt
finds_status station s rows (Ok found) looked read = status_is station s rows found looked read

-- ---- one station more

count_more : {X : Type 0} (p : X → Bool) (xs : List X) (i : ℕ) (x : X) → i < length xs → x ≡ get_or xs i x → count_by p (take (i + 1) xs) ≡ cond (p x) (count_by p (take i xs) + 1) (count_by p (take i xs))
count_more p xs i x low is = go (p x) refl
  where
    go : (b : Bool) → p x ≡ b → count_by p (take (i + 1) xs) ≡ cond b (count_by p (take i xs) + 1) (count_by p (take i xs))
    go true passes = count_by_more_yes p xs i x low (ap p (sym is) ∙ passes)
    go false fails = count_by_more_no p xs i x low (ap p (sym is) ∙ fails)

abbrev status_at : StationReturns → Station → Option Status
status_at returns station = option_map (λ (standing : StationReturn). standing.status) (get returns station.code)

one_more : (returns : StationReturns) (stations : List Station) (i : ℕ) (x : Station) → i < length stations → x ≡ get_or stations i x → (p : Status → Bool)
    → count_with_status p returns (take (i + 1) stations) ≡ cond (option_map_or p (status_at returns x) false) (count_with_status p returns (take i stations) + 1) (count_with_status p returns (take i stations))
one_more returns stations i x low is p =
    count_more (λ (station : Station). option_map_or (λ (standing : StationReturn). p standing.status) (get returns station.code) false) stations i x low is
    ∙ ap (λ b. cond b (count_with_status p returns (take i stations) + 1) (count_with_status p returns (take i stations))) (same (get returns x.code))
  where
    same : (o : Option StationReturn) → option_map_or (λ (standing : StationReturn). p standing.status) o false ≡ option_map_or p (option_map (λ (standing : StationReturn). standing.status) o) false
    same None = refl
    same (Some r) = refl

all_more : (returns : StationReturns) (before after : List Station) (status : Option Status) → length after ≡ length before + 1
    → ((p : Status → Bool) → count_with_status p returns after ≡ cond (option_map_or p status false) (count_with_status p returns before + 1) (count_with_status p returns before)) → statuses_in returns after ≡ with_station (statuses_in returns before) status
all_more returns before after None long each = λ k. record { stations = long k; received = each is_received k; queried = each is_queried k; corrected = each is_corrected k; closed = each is_closed k }
all_more returns before after (Some Received) long each = λ k. record { stations = long k; received = each is_received k; queried = each is_queried k; corrected = each is_corrected k; closed = each is_closed k }
all_more returns before after (Some Queried) long each = λ k. record { stations = long k; received = each is_received k; queried = each is_queried k; corrected = each is_corrected k; closed = each is_closed k }
all_more returns before after (Some Corrected) long each = λ k. record { stations = long k; received = each is_received k; queried = each is_queried k; corrected = each is_corrected k; closed = each is_closed k }
all_more returns before after (Some Closed) long each = λ k. record { stations = long k; received = each is_received k; queried = each is_queried k; corrected = each is_corrected k; closed = each is_closed k }

pub finds_more : (stations : List Station) (i : ℕ) (x : Station) (so_far : Statuses) (status : Option Status) (s : State) → i < length stations → x ≡ get_or stations i x → FindsStatuses (take i stations) s so_far → FindsStatus x.code s status
    → FindsStatuses (take (i + 1) stations) s (with_station so_far status)
finds_more stations i x so_far status s low is before one setup returns held =
    ap (λ f. with_station f status) (before setup returns held) ∙ ap (with_station (statuses_in returns (take i stations))) (one setup returns held)
    ∙ sym (all_more returns (take i stations) (take (i + 1) stations) (status_at returns x) (omega (arith, low, length-take i stations, length-take (i + 1) stations)) (one_more returns stations i x low is))

pub finds_first : (stations : List Station) (s : State) → FindsStatuses (take 0 stations) s (record { stations = 0; received = 0; queried = 0; corrected = 0; closed = 0 })
finds_first stations s setup returns held = refl

pub finds_all : (stations : List Station) (i : ℕ) (so_far : Statuses) (s : State) → length stations ≤ i → FindsStatuses (take i stations) s so_far → FindsStatuses stations s so_far
finds_all stations i so_far s whole found = subst (λ l. FindsStatuses l s so_far) (take_all i stations whole) found

-- ---- the numbers stay small

pub within_more : (i : ℕ) (so_far : Statuses) (status : Option Status) → AreWithin i so_far → AreWithin (i + 1) (with_station so_far status)
within_more i so_far None h = record { stations = omega (arith, h.stations); received = omega (arith, h.received); queried = omega (arith, h.queried); corrected = omega (arith, h.corrected); closed = omega (arith, h.closed) }
within_more i so_far (Some Received) h = record { stations = omega (arith, h.stations); received = omega (arith, h.received); queried = omega (arith, h.queried); corrected = omega (arith, h.corrected); closed = omega (arith, h.closed) }
within_more i so_far (Some Queried) h = record { stations = omega (arith, h.stations); received = omega (arith, h.received); queried = omega (arith, h.queried); corrected = omega (arith, h.corrected); closed = omega (arith, h.closed) }
within_more i so_far (Some Corrected) h = record { stations = omega (arith, h.stations); received = omega (arith, h.received); queried = omega (arith, h.queried); corrected = omega (arith, h.corrected); closed = omega (arith, h.closed) }
within_more i so_far (Some Closed) h = record { stations = omega (arith, h.stations); received = omega (arith, h.received); queried = omega (arith, h.queried); corrected = omega (arith, h.corrected); closed = omega (arith, h.closed) }

pub within_most : (i most : ℕ) (so_far : Statuses) → i ≤ most → AreWithin i so_far → AreWithin most so_far
within_most i most so_far low h = record { stations = omega (arith, h.stations); received = omega (arith, h.received); queried = omega (arith, h.queried); corrected = omega (arith, h.corrected); closed = omega (arith, h.closed) }

-- ---- what was found later was there before

pub status_before : (station : List ℕ) (old mid : State) (found : Option Status) → IsUnchanged old mid → FindsStatus station mid found → FindsStatus station old found
status_before station old mid found same finds setup returns held = finds setup returns (subst (λ d. AreRowsOf (return_rows setup) returns (d.trees (tree_of Returns))) (sym same.0.now_is) held)

-- ---- what is known of a constituency, or was found

pub known_before : (con : Constituency) (known : Option Statuses) (old mid : State) (found : Statuses) → IsUnchanged old mid → FindsKnownStatuses con known mid found → FindsKnownStatuses con known old found
known_before con known old mid found same finds setup returns held rows = finds setup returns held (subst (λ d. AreRowsOf (return_rows setup) returns (d.trees (tree_of Returns))) (sym same.0.now_is) rows)

-- ---- how far a constituency has come

pub finds_row : (con : Constituency) (code : List ℕ) (known : Option Statuses) (rows : List Row) (s : State) (stage : ℕ × Bool) (statuses : Statuses) → code ≡ con.code → IsStageAmong con.code rows stage → FindsKnownStatuses con known s statuses
    → FindsProgressRow con known rows s
    (record { con = code; stations = statuses.stations; received = statuses.received; queried = statuses.queried; corrected = statuses.corrected; closed = statuses.closed; edition = stage.0; certified = stage.1 })
finds_row con code known rows s stage statuses own among counted setup of there held all returns cons = go (get of.cons con.code) refl there
  where
    row : ProgressRow
    row = record { con = code; stations = statuses.stations; received = statuses.received; queried = statuses.queried; corrected = statuses.corrected; closed = statuses.closed; edition = stage.0; certified = stage.1 }

    go : (o : Option ConState) → get of.cons con.code ≡ o → is_some o ≡ true → row ≡ progress_row of con
    go None at some = absurd (true≢false (sym some))
    go (Some c) at some =
        let stands : con_state of con.code ≡ c = ap (λ o. unwrap_or o opening_con) at in
        let here = stage-among con.code s rows stage all among of.cons c at cons in
        let numbers : statuses ≡ statuses_in of.returns con.stations = counted setup of.returns held returns in
        λ i. record {
          con = own i;
          stations = (numbers i).stations;
          received = (numbers i).received;
          queried = (numbers i).queried;
          corrected = (numbers i).corrected;
          closed = (numbers i).closed;
          edition = (here.0 ∙ ap (λ (x : ConState). x.edition) (sym stands)) i;
          certified = (here.1 ∙ ap (λ (x : ConState). x.certified) (sym stands)) i;
        }
