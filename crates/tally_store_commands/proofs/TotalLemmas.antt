-- The sums of closed votes where a return is put in place of one whose
-- counts are closed too, or no longer.
use Rattle.std.proofs.Common.{◌≡◌, ◌≢◌, ◌≤◌, ◌<◌, ◌⊎◌, ◌+◌, ◌-◌, ◌∷◌, ◌∙◌, ℕ, zero, suc, List, [], Bool, true, false, length, map, Option, Some, None, Result, inl, inr, refl, sym, ap, subst, arith}
use Rattle.std.specs.Prelude.{OnOk, is_some, slice_index, sum_by}
use Rattle.std.specs.FinMap.{get, insert}
use Rattle.std.specs.List.{range_with_len}
use Rattle.std.specs.Option.{option_map_or}
use Rattle.std.specs.Str.{bytes_eq}
use Rattle.std.proofs.lemmas.List.FromFn.{get_or-map-range_with_len, length-map-range_with_len}
use Rattle.std.proofs.lemmas.List.Sums.{sum_by-cons}
use Rattle.std.proofs.lemmas.List.{get_or_past}
use Rattle.std.proofs.lemmas.Result.{IfOk-weaker}
use Rattle.sqlite.specs.declared.error.Error.{Error}
use Rattle.sqlite.specs.State.{State as Seen, HasCleanDisk, IsUnchanged}
use Rattle.tally_store_schema.specs.Rows.{AreRowsOf}
use Rattle.tally_setup.specs.Constituency.{Constituency}
use Rattle.tally_setup.specs.Limits.{IsSetup}
use Rattle.tally_setup.specs.Setup.{constituency_with, station_with}
use Rattle.tally_setup.specs.declared.constituency.Station.{Station}
use Rattle.tally_returns.specs.Counts.{VoteCounts}
use Rattle.tally_returns.specs.Return.{StationReturn, Returns}
use Rattle.tally_returns.specs.State.{State}
use Rattle.tally_returns.specs.View.{blank_of, closed_counts, spoiled_of, votes_at, votes_of_lists}
use Rattle.tally_returns.proofs.ClosedLemmas.{closed_counts-same, get-kept, get-put, put-elsewhere, station-elsewhere}
use Rattle.tally_keeper.specs.MovedSum.{moved_sum}
use Rattle.tally_keeper.specs.internal.Sums.{moved_sums}
use Rattle.tally_setup.proofs.NamedLemmas.{Has, Apart, Differ, apart-has, bytes_flipped, code_of_station, con-found, con-only, not_apart, station-found, stations-differ}
use Rattle.tally_keeper.proofs.SumLemmas.{at_place, closed-total, if_closed, mapped-same, total}
use Rattle.tally_machine_law.specs.LawfulState.{IsLawfulState}
use Rattle.tally_store_schema.specs.Tables.{setup_tree}
use Rattle.tally_store_schema.specs.Office.{IsInside, tree_of}
use Rattle.tally_store_schema.specs.declared.table.KeyedTable.TheVariants.{Totals}
use Rattle.tally_store_rows.specs.Cells.{total_rows, totals_of}
use Rattle.tally_store_entries.specs.internal.Constituencies.{ChangesOnly, ChangesSums, DifferBy, FindsSums}
use Rattle.tally_store_entries.specs.internal.Entries.{stored_in}
use Rattle.tally_store_entries.proofs.FindLemmas.{inside_still}
use Rattle.tally_store_commands.specs.internal.Moves.{CountsSo}
use Rattle.tally_store_commands.specs.internal.Sums.{with_counts_moved}

-- ---- a sum over stations where one has another return now

total-elsewhere : (g : Option StationReturn → ℕ) (returns : Returns) (code : List ℕ) (standing : StationReturn) (stations : List Station) → Apart code_of_station code stations
    → total g (insert returns code standing) stations ≡ total g returns stations
total-elsewhere g returns code standing [] apart = refl
total-elsewhere g returns code standing (x ∷ stations) apart =
    let here : g (get (insert returns code standing) x.code) ≡ g (get returns x.code) = ap g (get-kept returns code standing x.code (λ same. not_apart x.code code same apart.0)) in
    let rest = total-elsewhere g returns code standing stations apart.1 in
    omega (arith, here, rest)

pub total-replaced : (g : Option StationReturn → ℕ) (returns : Returns) (code : List ℕ) (before : Option StationReturn) (standing : StationReturn) (stations : List Station) (station : Station)
    → get returns code ≡ before → Differ code_of_station stations → Has station stations → code ≡ station.code
    → total g (insert returns code standing) stations + g before ≡ total g returns stations + g (Some standing)
total-replaced g returns code before standing [] station was differ has is = absurd has
total-replaced g returns code before standing (x ∷ stations) station was differ (inl same) is =
    let at : code ≡ x.code = is ∙ ap (λ (s : Station). s.code) (sym same) in
    let here : g (get (insert returns code standing) x.code) ≡ g (Some standing) = ap (λ q. g (get (insert returns code standing) q)) (sym at) ∙ ap g (get-put returns code standing) in
    let there : g (get returns x.code) ≡ g before = ap (λ q. g (get returns q)) (sym at) ∙ ap g was in
    let apart : Apart code_of_station code stations = subst (λ q. Apart code_of_station q stations) (sym at) differ.0 in
    let rest = total-elsewhere g returns code standing stations apart in
    omega (arith, here, there, rest)
total-replaced g returns code before standing (x ∷ stations) station was differ (inr has) is =
    let apart : bytes_eq code x.code ≡ false = ap (λ q. bytes_eq q x.code) is ∙ bytes_flipped x.code station.code (apart-has code_of_station x.code stations station differ.0 has) in
    let here : g (get (insert returns code standing) x.code) ≡ g (get returns x.code) = ap g (get-kept returns code standing x.code (λ same. not_apart x.code code same apart)) in
    let rest = total-replaced g returns code before standing stations station was differ.1 has is in
    omega (arith, here, rest)

-- ---- a sum of closed votes

one : (f : VoteCounts → ℕ) (counts : VoteCounts) → sum_by f (counts ∷ []) ≡ f counts
one f counts = sum_by-cons f counts [] ∙ plus (f counts)
  where
    plus : (n : ℕ) → n + 0 ≡ n
    plus n = omega arith

added : (new old was now by : ℕ) → new + was ≡ old + now → was ≡ 0 → now ≡ by → new ≡ old + by
added new old was now by sum none is = omega (arith, sum, none, is)

taken : (new old was now by : ℕ) → new + was ≡ old + now → was ≡ by → now ≡ 0 → new ≡ old - by
taken new old was now by sum is none = omega (arith, sum, is, none)

total-moved : (f : VoteCounts → ℕ) (returns : Returns) (code : List ℕ) (before standing : StationReturn) (counts : VoteCounts) (stations : List Station) (add : Bool)
    → total (if_closed f) (insert returns code standing) stations + if_closed f (Some before) ≡ total (if_closed f) returns stations + if_closed f (Some standing) → CountsSo add counts before standing
    → total (if_closed f) (insert returns code standing) stations ≡ moved_sum (total (if_closed f) returns stations) (f counts) add
total-moved f returns code before standing counts stations true sum so =
    added (total (if_closed f) (insert returns code standing) stations) (total (if_closed f) returns stations) (if_closed f (Some before)) (if_closed f (Some standing)) (f counts) sum
    (ap (sum_by f) so.0) (ap (sum_by f) so.1 ∙ one f counts)
total-moved f returns code before standing counts stations false sum so =
    taken (total (if_closed f) (insert returns code standing) stations) (total (if_closed f) returns stations) (if_closed f (Some before)) (if_closed f (Some standing)) (f counts) sum
    (ap (sum_by f) so.0 ∙ one f counts) (ap (sum_by f) so.1)

closed-replaced : (f : VoteCounts → ℕ) (returns : Returns) (code : List ℕ) (before standing : StationReturn) (counts : VoteCounts) (stations : List Station) (station : Station) (add : Bool)
    → get returns code ≡ Some before → Differ code_of_station stations → Has station stations → code ≡ station.code → CountsSo add counts before standing
    → sum_by f (closed_counts (insert returns code standing) stations) ≡ moved_sum (sum_by f (closed_counts returns stations)) (f counts) add
closed-replaced f returns code before standing counts stations station add was differ has is so =
    closed-total f (insert returns code standing) stations
    ∙ total-moved f returns code before standing counts stations add (total-replaced (if_closed f) returns code (Some before) standing stations station was differ has is) so
    ∙ ap (λ n. moved_sum n (f counts) add) (sym (closed-total f returns stations))

-- ---- the sums of each constituency

-- the sums of the closed returns of a constituency
abbrev sums_in : Returns → Constituency → VoteCounts
sums_in returns con = record {
  votes = votes_of_lists (length con.lists) (closed_counts returns con.stations);
  blank = blank_of (closed_counts returns con.stations);
  spoiled = spoiled_of (closed_counts returns con.stations);
}

abbrev sums_at : Returns → Option Constituency → VoteCounts
sums_at returns found = option_map_or (sums_in returns) found (record { votes = []; blank = 0; spoiled = 0 })

-- where each sum is moved so, the sums are
sums-moved : (con : Constituency) (old new : Returns) (counts : VoteCounts) (add : Bool)
    → ((f : VoteCounts → ℕ) → sum_by f (closed_counts new con.stations) ≡ moved_sum (sum_by f (closed_counts old con.stations)) (f counts) add)
    → sums_in new con ≡ with_counts_moved (sums_in old con) counts add
sums-moved con old new counts add each = λ i. record {
  votes = votes i;
  blank = each (λ (n : VoteCounts). n.blank) i;
  spoiled = each (λ (n : VoteCounts). n.spoiled) i;
}
  where
    lists : ℕ
    lists = length con.lists

    at : ℕ → ℕ
    at place = moved_sum (slice_index (votes_of_lists lists (closed_counts old con.stations)) place) (slice_index counts.votes place) add

    votes : votes_of_lists lists (closed_counts new con.stations) ≡ moved_sums (votes_of_lists lists (closed_counts old con.stations)) counts.votes add
    votes =
        mapped-same (votes_at (closed_counts new con.stations)) at lists (λ place within.
        each (at_place place)
        ∙ ap (λ n. moved_sum n (slice_index counts.votes place) add) (sym (get_or-map-range_with_len (votes_at (closed_counts old con.stations)) 0 lists place place 0 within (omega arith))))
        ∙ ap (λ n. map at (range_with_len 0 n)) (sym (length-map-range_with_len (votes_at (closed_counts old con.stations)) 0 lists))

-- those of the constituency of the station are moved by the counts of its return
pub totals-moved : (setup : List Constituency) (returns : Returns) (station : List ℕ) (con : Constituency) (place : Station) (before standing : StationReturn) (counts : VoteCounts) (add : Bool)
    → IsSetup setup → station_with station setup ≡ Some (con, place) → get returns station ≡ Some before → CountsSo add counts before standing
    → totals_of setup (insert returns station standing) con.code ≡ with_counts_moved (totals_of setup returns con.code) counts add
totals-moved setup returns station con place before standing counts add limits at was so =
    ap (sums_at (insert returns station standing)) only
    ∙ sums-moved con returns (insert returns station standing) counts add (λ f.
    closed-replaced f returns station before standing counts con.stations place add was (stations-differ setup con limits found.0) found.1 found.2 so)
    ∙ ap (λ sums. with_counts_moved sums counts add) (sym (ap (sums_at returns) only))
  where
    found : Has con setup × Has place con.stations × (station ≡ place.code)
    found = station-found setup station con place at

    only : constituency_with con.code setup ≡ Some con
    only = con-only setup con limits found.0

-- those of every other constituency stay
pub totals-apart : (setup : List Constituency) (returns : Returns) (station : List ℕ) (con : Constituency) (place : Station) (standing : StationReturn) (other : List ℕ)
    → IsSetup setup → station_with station setup ≡ Some (con, place) → other ≢ con.code → totals_of setup (insert returns station standing) other ≡ totals_of setup returns other
totals-apart setup returns station con place standing other limits at apart = go (constituency_with other setup) refl
  where
    go : (found : Option Constituency) → constituency_with other setup ≡ found → sums_at (insert returns station standing) found ≡ sums_at returns found
    go None is = refl
    go (Some c) is =
        ap (λ counts. sums_of c counts)
        (closed_counts-same (insert returns station standing) returns c.stations
        (put-elsewhere returns station standing c.stations (station-elsewhere setup other station con c place limits at is (λ same. apart ((con-found setup other c is).0 ∙ same)))))
      where
        sums_of : Constituency → List VoteCounts → VoteCounts
        sums_of k counts = record { votes = votes_of_lists (length k.lists) counts; blank = blank_of counts; spoiled = spoiled_of counts }

-- ---- the rows of sums that were looked up, moved and written

-- a look-up before the change leaves the tables
only-since : (old mid new : Seen) → IsUnchanged old mid → ChangesOnly Totals mid new → ChangesOnly Totals old new
only-since old mid new same only = record {
  inside = only.inside;
  others = λ u apart. only.others u apart ∙ ap (λ d. d.trees (tree_of u)) same.0.now_is;
  setup_is = only.setup_is ∙ ap (λ d. d.trees setup_tree) same.0.now_is;
}

-- sums that are moved are for as many lists
pub moved-long : (found counts now : VoteCounts) (add : Bool) → now ≡ with_counts_moved found counts add → length now.votes ≡ length found.votes
moved-long found counts now add is =
    ap (λ (sums : VoteCounts). length sums.votes) is ∙ length-map-range_with_len (λ place. moved_sum (slice_index found.votes place) (slice_index counts.votes place) add) 0 (length found.votes)

-- a number that is moved by 0 is what it was
unmoved : (n by : ℕ) (add : Bool) → by ≡ 0 → n ≡ moved_sum n by add
unmoved n by true none = omega (arith, none)
unmoved n by false none = omega (arith, none)

past-or-within : (n place : ℕ) → (n ≤ place) ⊎ (place < n)
past-or-within zero place = inl (omega arith)
past-or-within (suc n) zero = inr (omega arith)
past-or-within (suc n) (suc place) = go (past-or-within n place)
  where
    go : (n ≤ place) ⊎ (place < n) → (suc n ≤ suc place) ⊎ (suc place < suc n)
    go (inl past) = inl (omega (arith, past))
    go (inr within) = inr (omega (arith, within))

-- so sums differ from those that are moved at most by the counts
moved-differ : (before counts now : VoteCounts) (add : Bool) → now ≡ with_counts_moved before counts add → DifferBy counts before now
moved-differ before counts now add is = record {
  lists = sym (moved-long before counts now add is);
  votes = λ place none. votes place none (past-or-within (length before.votes) place);
  blank = λ none. unmoved before.blank counts.blank add none ∙ sym (ap (λ (v : VoteCounts). v.blank) is);
  spoiled = λ none. unmoved before.spoiled counts.spoiled add none ∙ sym (ap (λ (v : VoteCounts). v.spoiled) is);
}
  where
    at : ℕ → ℕ
    at place = moved_sum (slice_index before.votes place) (slice_index counts.votes place) add

    votes : (place : ℕ) → slice_index counts.votes place ≡ 0 → (length before.votes ≤ place) ⊎ (place < length before.votes) → slice_index before.votes place ≡ slice_index now.votes place
    votes place none (inl past) = get_or_past before.votes place 0 past ∙ sym (get_or_past now.votes place 0 (omega (arith, past, moved-long before counts now add is)))
    votes place none (inr within) =
        unmoved (slice_index before.votes place) (slice_index counts.votes place) add none
        ∙ sym (ap (λ (v : VoteCounts). slice_index v.votes place) is ∙ get_or-map-range_with_len at 0 (length before.votes) place place 0 within (omega arith))

pub sums-written : (con : Constituency) (counts found now : VoteCounts) (add : Bool) (old mid new : Seen) (result : Result Unit Error) → length con.lists ≤ 60 → HasCleanDisk new → IsInside old → IsUnchanged old mid
    → FindsSums con.code old found → length found.votes ≡ length con.lists → now ≡ with_counts_moved found counts add → ChangesSums con.code counts now mid new result
    → (setup : List Constituency) (s : State) (station : List ℕ) (place : Station) (before standing : StationReturn)
    → IsSetup setup → station_with station setup ≡ Some (con, place) → IsLawfulState setup s → get s.returns station ≡ Some before → CountsSo add counts before standing
    → AreRowsOf (total_rows setup s.returns) s.cons (stored_in Totals old)
    → OnOk result (ChangesOnly Totals old new × AreRowsOf (total_rows setup (insert s.returns station standing)) s.cons (stored_in Totals new))
sums-written con counts found now add old mid new result few clean inside same finds lists is writes setup s station place before standing limits at lawful was so held =
    IfOk-weaker result _ _ (λ _ done. (only-since old mid new same done.0, done.1))
    (writes clean (inside_still old mid same inside) s.cons (totals_of setup s.returns) (totals_of setup (insert s.returns station standing)) known
    (moved-differ (totals_of setup s.returns con.code) counts now add (is ∙ ap (λ sums. with_counts_moved sums counts add) found_is))
    (totals-moved setup s.returns station con place before standing counts add limits at was so ∙ ap (λ sums. with_counts_moved sums counts add) (sym found_is) ∙ sym is)
    (λ other apart. totals-apart setup s.returns station con place standing other limits at apart)
    (subst (λ d. AreRowsOf (total_rows setup s.returns) s.cons (d.trees (tree_of Totals))) (sym same.0.now_is) held))
  where
    only : constituency_with con.code setup ≡ Some con
    only = con-only setup con limits (station-found setup station con place at).0

    known : is_some (get s.cons con.code) ≡ true
    known = lawful.known con.code ∙ ap is_some only

    long : length (totals_of setup s.returns con.code).votes ≡ length con.lists
    long =
        ap (λ o. length (sums_at s.returns o).votes) only ∙ length-map-range_with_len (votes_at (closed_counts s.returns con.stations)) 0 (length con.lists)

    found_is : found ≡ totals_of setup s.returns con.code
    found_is = finds setup s.returns s.cons known (omega (arith, long, few)) held
