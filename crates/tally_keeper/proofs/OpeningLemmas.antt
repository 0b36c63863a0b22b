-- What is held of each constituency as it opens.
use Rattle.std.proofs.Common.{◌≡◌, ◌+◌, ◌∷◌, ◌++◌, ◌∙◌, ℕ, zero, suc, List, [], Bool, true, false, cond, length, map, take, replicate, Option, Some, None, refl, sym, ap, subst, arith}
use Rattle.std.specs.Prelude.{option_map, is_some}
use Rattle.std.specs.Cmp.Lexicographic.{nat_list_cmp_total}
use Rattle.std.specs.FinMap.{empty, find, from_entries, from_entries_push, get, get-empty, get-from_entries, insert, nat_cmp-IsAntisymmetric, slice_cmp-IsAntisymmetric}
use Rattle.std.specs.Ordering.{nat_cmp}
use Rattle.std.specs.Str.{bytes_eq}
use Rattle.std.proofs.lemmas.List.{get_or-replicate, length-replicate, map-append}
use Rattle.std.proofs.lemmas.Map.Text.{is_eq-slice_cmp}
use Rattle.tally_setup.specs.Code.{code_cmp}
use Rattle.tally_setup.specs.Constituency.{Constituency}
use Rattle.tally_setup.specs.Limits.{IsSetup}
use Rattle.tally_setup.specs.Setup.{constituency_with}
use Rattle.tally_setup.specs.declared.constituency.Station.{Station}
use Rattle.tally_returns.specs.Progress.{is_received, is_queried, is_corrected, is_closed, count_with_status}
use Rattle.tally_returns.specs.Return.{StationReturn}
use Rattle.tally_returns.specs.State.{opening_con, opening_cons}
use Rattle.tally_returns.specs.View.{View, blank_of, closed_counts, counts_if_closed, gone_candidate, past_record, spoiled_of, view_with, votes_at, votes_of_lists}
use Rattle.tally_returns.specs.declared.returns.Status.{Status}
use Rattle.tally_keeper.specs.Kept.{opening_kept}
use Rattle.tally_keeper.specs.internal.Rows.{IsTallied, con_of, cons_of, opening_view, opening_views, seats_of}
use Rattle.tally_keeper.proofs.ChangeLemmas.{kept}
use Rattle.tally_keeper.proofs.GoneLemmas.{entries-empty}
use Rattle.tally_setup.proofs.NamedLemmas.{Apart, Differ, bytes_flipped, differ-from}
use Rattle.tally_keeper.proofs.SumLemmas.{mapped-is, one_if, stations_in-total, total}
use Rattle.tally_keeper.proofs.TreeLemmas.{get-cons_of, get-seats_of, same_maps}

-- no station has a return
none-closed : (stations : List Station) → closed_counts empty stations ≡ []
none-closed [] = refl
none-closed (x ∷ stations) = ap (λ found. counts_if_closed found ++ closed_counts empty stations) (get-empty code_cmp x.code) ∙ none-closed stations

none-total : (g : Option StationReturn → ℕ) → g None ≡ 0 → (stations : List Station) → total g empty stations ≡ 0
none-total g least [] = refl
none-total g least (x ∷ stations) =
    let here : g (get empty x.code) ≡ 0 = ap g (get-empty code_cmp x.code) ∙ least in
    let rest = none-total g least stations in
    omega (arith, here, rest)

none-in : (is_status : Status → Bool) (stations : List Station) → count_with_status is_status empty stations ≡ 0
none-in is_status stations = stations_in-total is_status empty stations ∙ none-total (one_if is_status) refl stations

no-votes : (lists : ℕ) → replicate lists 0 ≡ votes_of_lists lists []
no-votes lists = mapped-is (replicate lists 0) (votes_at []) lists (length-replicate lists 0) (λ k within. get_or-replicate lists k 0 0 within)

-- what a constituency opens with, in numbers
abbrev pub opened : Constituency → List ℕ → View
opened con votes = record {
  edition = 1;
  certified = false;
  note = [];
  lot = [];
  stations = length con.stations;
  received = 0;
  queried = 0;
  corrected = 0;
  closed = 0;
  votes = votes;
  blank = 0;
  spoiled = 0;
  seats = [];
  gone = [];
  past = [];
}

pub opened-is : (con : Constituency) → opened con (replicate (length con.lists) 0) ≡ opening_view con
opened-is con = λ i. record {
  edition = 1;
  certified = false;
  note = [];
  lot = [];
  stations = length con.stations;
  received = sym (none-in is_received con.stations) i;
  queried = sym (none-in is_queried con.stations) i;
  corrected = sym (none-in is_corrected con.stations) i;
  closed = sym (none-in is_closed con.stations) i;
  votes = (no-votes (length con.lists) ∙ sym (ap (votes_of_lists (length con.lists)) (none-closed con.stations))) i;
  blank = sym (ap blank_of (none-closed con.stations)) i;
  spoiled = sym (ap spoiled_of (none-closed con.stations)) i;
  seats = [];
  gone = sym (ap (map gone_candidate) (entries-empty code_cmp)) i;
  past = sym (ap (map past_record) (entries-empty nat_cmp)) i;
}

opening-con : (con : Constituency) → con_of (opening_view con) ≡ opening_con
opening-con con = λ i. record opening_con {
  gone = ap (λ es. from_entries (map (λ g. (g.list ∷ g.place ∷ [], g.note)) (map gone_candidate es))) (entries-empty code_cmp) i;
  past = ap (λ es. from_entries (map (λ p. (p.edition, p.seats)) (map past_record es))) (entries-empty nat_cmp) i;
}

-- ---- a value for each constituency

find-con : {X : Type 0} (f : Constituency → X) (cons : List Constituency) (q : List ℕ) → find code_cmp q (map (λ (con : Constituency). (con.code, f con)) cons) ≡ option_map f (constituency_with q cons)
find-con f [] q = refl
find-con f (con ∷ cons) q =
    ap (λ b. cond b (Some (f con)) (find code_cmp q (map (λ (con : Constituency). (con.code, f con)) cons))) (is_eq-slice_cmp q con.code)
    ∙ by_case (bytes_eq q con.code) (find-con f cons q)
  where
    by_case : (b : Bool) → find code_cmp q (map (λ (con : Constituency). (con.code, f con)) cons) ≡ option_map f (constituency_with q cons)
        → cond b (Some (f con)) (find code_cmp q (map (λ (con : Constituency). (con.code, f con)) cons)) ≡ option_map f (cond b (Some con) (constituency_with q cons))
    by_case true is = refl
    by_case false is = is

get-con : {X : Type 0} (f : Constituency → X) (cons : List Constituency) (q : List ℕ) → get (from_entries {R = code_cmp} (map (λ (con : Constituency). (con.code, f con)) cons)) q ≡ option_map f (constituency_with q cons)
get-con f cons q = get-from_entries nat_list_cmp_total (map (λ (con : Constituency). (con.code, f con)) cons) q ∙ find-con f cons q

-- the office opens
pub opening-tallied : (setup : List Constituency) → IsTallied setup empty (opening_views setup)
opening-tallied setup = record {
  lawful = λ station standing there. let e : None ≡ Some standing = sym (get-empty code_cmp station) ∙ there in absurd cc;
  seen = λ code view there. by_found code view (constituency_with code setup) refl (sym (get-con opening_view setup code) ∙ there);
  known = λ code. ap is_some (get-con opening_view setup code) ∙ same (constituency_with code setup);
}
  where
    same : (found : Option Constituency) → is_some (option_map opening_view found) ≡ is_some found
    same None = refl
    same (Some con) = refl

    by_found : (code : List ℕ) (view : View) (found : Option Constituency) → constituency_with code setup ≡ found → option_map opening_view found ≡ Some view
        → (con : Constituency) × (constituency_with code setup ≡ Some con) × (view ≡ view_with con (con_of view) empty view.seats)
    by_found code view None is some = absurd cc
    by_found code view (Some con) is some =
        let now : opening_view con ≡ view = cc in
        (con, is, subst (λ (v : View). v ≡ view_with con (con_of v) empty v.seats) now (λ i. view_with con (sym (opening-con con) i) empty []))

pub opening-kept : (setup : List Constituency) → kept setup empty (opening_views setup) ≡ opening_kept setup
opening-kept setup = λ i. record { setup = setup; returns = empty; cons = cons i; seats = seats i }
  where
    cons : cons_of (opening_views setup) ≡ opening_cons setup
    cons = same_maps (cons_of (opening_views setup)) (opening_cons setup) (λ q.
        get-cons_of (opening_views setup) q ∙ ap (option_map con_of) (get-con opening_view setup q) ∙ opens (constituency_with q setup) ∙ sym (get-con (λ con. opening_con) setup q))
      where
        opens : (found : Option Constituency) → option_map con_of (option_map opening_view found) ≡ option_map (λ (con : Constituency). opening_con) found
        opens None = refl
        opens (Some con) = ap Some (opening-con con)

    seats : seats_of (opening_views setup) ≡ from_entries (map (λ (con : Constituency). (con.code, [])) setup)
    seats = same_maps (seats_of (opening_views setup)) (from_entries (map (λ (con : Constituency). (con.code, [])) setup)) (λ q.
        get-seats_of (opening_views setup) q ∙ ap (option_map (λ (v : View). v.seats)) (get-con opening_view setup q) ∙ none (constituency_with q setup) ∙ sym (get-con (λ con. []) setup q))
      where
        none : (found : Option Constituency) → option_map (λ (v : View). v.seats) (option_map opening_view found) ≡ option_map (λ (con : Constituency). []) found
        none None = refl
        none (Some con) = refl

-- ---- one constituency more

abbrev code_of_con : Constituency → List ℕ
code_of_con con = con.code

differ-push : (cons : List Constituency) (con : Constituency) → Differ code_of_con (cons ++ con ∷ []) → constituency_with con.code cons ≡ None
differ-push [] con differ = refl
differ-push (x ∷ cons) con differ =
    ap (λ b. cond b (Some x) (constituency_with con.code cons)) (bytes_flipped x.code con.code (last cons differ.0)) ∙ differ-push cons con differ.1
  where
    last : (cons : List Constituency) → Apart code_of_con x.code (cons ++ con ∷ []) → bytes_eq x.code con.code ≡ false
    last [] apart = apart.0
    last (y ∷ cons) apart = last cons apart.1

differ-take : (n : ℕ) (cons : List Constituency) → Differ code_of_con cons → Differ code_of_con (take n cons)
differ-take zero cons differ = tt
differ-take (suc n) [] differ = tt
differ-take (suc n) (x ∷ cons) differ = (first n cons differ.0, differ-take n cons differ.1)
  where
    first : (n : ℕ) (cons : List Constituency) → Apart code_of_con x.code cons → Apart code_of_con x.code (take n cons)
    first zero cons apart = tt
    first (suc n) [] apart = tt
    first (suc n) (y ∷ cons) apart = (apart.0, first n cons apart.1)

pub opening_views-more : (setup : List Constituency) (i : ℕ) (con : Constituency) → IsSetup setup → take (i + 1) setup ≡ take i setup ++ con ∷ []
    → opening_views (take (i + 1) setup) ≡ insert (opening_views (take i setup)) con.code (opening_view con)
opening_views-more setup i con limits more =
    let differ = subst (Differ code_of_con) more (differ-take (i + 1) setup (differ-from code_of_con setup limits.codes)) in
    let none : find code_cmp con.code (map (λ (c : Constituency). (c.code, opening_view c)) (take i setup)) ≡ None = find-con opening_view (take i setup) con.code ∙ ap (option_map opening_view) (differ-push (take i setup) con differ) in
    ap opening_views more ∙ ap from_entries (map-append (λ (c : Constituency). (c.code, opening_view c)) (take i setup) (con ∷ []))
    ∙ from_entries_push nat_list_cmp_total (slice_cmp-IsAntisymmetric nat_cmp-IsAntisymmetric) (map (λ (c : Constituency). (c.code, opening_view c)) (take i setup)) con.code (opening_view con) none
