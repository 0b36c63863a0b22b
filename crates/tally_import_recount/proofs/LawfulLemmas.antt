-- What is counted are returns of the stations of a constituency.
use Rattle.std.proofs.Common.{◌≡◌, ◌≤◌, ◌<◌, ◌+◌, ◌++◌, ◌∷◌, ◌∙◌, ℕ, zero, suc, List, [], Bool, true, false, cond, Option, Some, None, Result, Ok, Err, length, map, get_or, refl, sym, ap, subst, arith, option_map}
use Rattle.std.specs.Prelude.{◌≢◌, nat_le}
use Rattle.std.specs.Cmp.Lexicographic.{nat_list_cmp_total}
use Rattle.std.specs.FinMap as fin
use Rattle.std.specs.List.{find}
use Rattle.std.specs.Ordering.{eq_by_cmp}
use Rattle.std.specs.Str.{bytes_eq}
use Rattle.std.proofs.lemmas.Bool.{leb-true}
use Rattle.std.proofs.lemmas.List.{get_or-append-add, get_or-map, get_or_append_left, length-append, length-map}
use Rattle.std.proofs.lemmas.Slice.Eq.{bytes_eq-Decides}
use Rattle.tally_setup.specs.Code.{code_cmp}
use Rattle.tally_setup.specs.Codes.{AreDistinct}
use Rattle.tally_setup.specs.Constituency.{Constituency, entitled, station_codes}
use Rattle.tally_setup.specs.Setup.{all_station_codes, all_stations, constituency_with}
use Rattle.tally_setup.specs.declared.constituency.Station.{Station}
use Rattle.tally_returns.specs.Checks.{check, first_refusal, refused_or}
use Rattle.tally_returns.specs.Counts.{VoteCounts, all_votes, are_counts}
use Rattle.tally_returns.specs.Decide.{limits_of, station_in}
use Rattle.tally_returns.specs.Lodge.{StationLimits, Stations, after_lodge, lodge, lodge_answer, reply_after_checks, reply_at_code}
use Rattle.tally_returns.specs.Return.{StationReturn, Returns, first_return}
use Rattle.tally_returns.specs.declared.ask.Ask.TheVariants.{Lodge}
use Rattle.tally_returns.specs.declared.refusal.Refusal.{Refusal}
use Rattle.tally_returns.specs.declared.refusal.Refusal.TheVariants.{BadCounts, TooManyVotes}
use Rattle.tally_returns.specs.declared.reply.LodgeReply.{LodgeReply}
use Rattle.tally_returns.specs.declared.reply.LodgeReply.TheVariants.{Lodged, Same}
use Rattle.tally_returns.proofs.ClosedLemmas.{tied-same}
use Rattle.tally_returns_rows.specs.Import.{after_row, returns_after_import}
use Rattle.tally_returns_rows.specs.declared.import.Row.{Row}
use Rattle.tally_returns_rows.specs.declared.import.Row.TheVariants as row
use Rattle.tally_import.specs.ReturnRows.{station_limits_in}
use Rattle.tally_report_allotment.specs.Recount.{AreCountsAt, AreReturnsOf}
use Rattle.tally_import_recount.specs.Counted.{IsOfSetup, counts_in, returns_judged, rows_judged}

-- ---- each return is one of its station

-- the counts pass the checks of this station
abbrev Passes : StationLimits → VoteCounts → Type 0
Passes limits c = (are_counts limits.lists c ≡ true) × (all_votes c ≤ limits.entitled)

abbrev PassesAt : Option StationLimits → VoteCounts → Type 0
PassesAt there c = (limits : StationLimits) × (there ≡ Some limits) × Passes limits c

-- each recorded return passes those of its station
abbrev AllPass : Stations → Returns → Type 0
AllPass stations m = (q : List ℕ) (r : StationReturn) → fin.get m q ≡ Some r → PassesAt (stations q) r.counts

-- what is lodged passes them
lodged-passes : (there : Option StationLimits) (found : Option StationReturn) (slip : List ℕ) (c : VoteCounts) (rev : ℕ)
    → reply_at_code there found slip c ≡ Ok (Lodged rev) → PassesAt there c
lodged-passes None found slip c rev is = cc
lodged-passes (Some limits) found slip c rev is = go (are_counts limits.lists c) (nat_le (all_votes c) limits.entitled) refl refl is
  where
    go : (b d : Bool) → are_counts limits.lists c ≡ b → nat_le (all_votes c) limits.entitled ≡ d
        → refused_or (first_refusal (check b BadCounts ∷ check d TooManyVotes ∷ [])) (reply_after_checks found slip c) ≡ Ok (Lodged rev)
        → PassesAt (Some limits) c
    go true true good few e = (limits, refl, (good, leb-true (all_votes c) limits.entitled few))
    go true false good few e = cc
    go false d good few e = cc

insert-passes : (stations : Stations) (m : Returns) (station slip : List ℕ) (c : VoteCounts) → AllPass stations m → PassesAt (stations station) c
    → AllPass stations (fin.insert m station (first_return slip c))
insert-passes stations m station slip c all one q r is = go (eq_by_cmp code_cmp q station) refl (sym (fin.get-insert nat_list_cmp_total m station (first_return slip c) q) ∙ is)
  where
    go : (b : Bool) → eq_by_cmp code_cmp q station ≡ b → cond b (Some (first_return slip c)) (fin.get m q) ≡ Some r → PassesAt (stations q) r.counts
    go true tied same =
        let counts : c ≡ r.counts = ap (λ (o : Option StationReturn). counts_or c o) same in
        subst (λ (p : List ℕ). PassesAt (stations p) r.counts) (sym (tied-same q station tied)) (subst (PassesAt (stations station)) counts one)
      where
        counts_or : VoteCounts → Option StationReturn → VoteCounts
        counts_or d None = d
        counts_or d (Some x) = x.counts
    go false tied same = all q r same

lodge-passes : (stations : Stations) (m : Returns) (station slip : List ℕ) (c : VoteCounts) → AllPass stations m → AllPass stations (lodge stations m station slip c)
lodge-passes stations m station slip c all = go (lodge_answer stations m station slip c) refl
  where
    go : (answer : Result LodgeReply Refusal) → lodge_answer stations m station slip c ≡ answer → AllPass stations (after_lodge m station slip c answer)
    go (Ok (Lodged rev)) is = insert-passes stations m station slip c all (lodged-passes (stations station) (fin.get m station) slip c rev is)
    go (Ok (Same rev)) is = all
    go (Err refusal) is = all

row-passes : (stations : Stations) (m : Returns) (r : Row) → AllPass stations m → AllPass stations (after_row stations m r)
row-passes stations m (row.Lodge (Lodge station slip c)) all = lodge-passes stations m station slip c all
row-passes stations m r all = all

rows-pass : (stations : Stations) (m : Returns) (rows : List Row) → AllPass stations m → AllPass stations (returns_after_import stations m rows)
rows-pass stations m [] all = all
rows-pass stations m (r ∷ rows) all = rows-pass stations (after_row stations m r) rows (row-passes stations m r all)

none-pass : (stations : Stations) → AllPass stations fin.empty
none-pass stations q r is = absurd-none (sym (fin.get-empty code_cmp q) ∙ is)
  where
    absurd-none : ◌≡◌ {A = Option StationReturn} None (Some r) → PassesAt (stations q) r.counts
    absurd-none e = cc

-- ---- a station of a constituency is found by its code

front-distinct : (xs ys : List (List ℕ)) → AreDistinct (xs ++ ys) → AreDistinct xs
front-distinct xs ys distinct i j d less within =
    let long : j < length (xs ++ ys) = omega (arith, within, length-append xs ys) in
    subst (λ (x : List ℕ). x ≢ get_or xs j d) (get_or_append_left xs ys d i (omega (arith, less, within)))
    (subst (λ (y : List ℕ). get_or (xs ++ ys) i d ≢ y) (get_or_append_left xs ys d j within) (distinct i j d less long))

back-distinct : (xs ys : List (List ℕ)) → AreDistinct (xs ++ ys) → AreDistinct ys
back-distinct xs ys distinct i j d less within =
    let long : length xs + j < length (xs ++ ys) = omega (arith, within, length-append xs ys) in
    subst (λ (x : List ℕ). x ≢ get_or ys j d) (get_or-append-add xs ys i d)
    (subst (λ (y : List ℕ). get_or (xs ++ ys) (length xs + i) d ≢ y) (get_or-append-add xs ys j d) (distinct (length xs + i) (length xs + j) d (omega (arith, less)) long))

-- the codes of the stations of a setup, one constituency before the others
codes-first : (con : Constituency) (stations : List Station) (more : List (Constituency × Station))
    → map (λ (p : Constituency × Station). p.1.code) (map (λ (s : Station). (con, s)) stations ++ more)
    ≡ station_codes stations ++ map (λ (p : Constituency × Station). p.1.code) more
codes-first con [] more = refl
codes-first con (s ∷ stations) more = ap (λ l. s.code ∷ l) (codes-first con stations more)

stations-distinct : (setup : List Constituency) (code : List ℕ) (con : Constituency) → AreDistinct (all_station_codes setup)
    → constituency_with code setup ≡ Some con → AreDistinct (station_codes con.stations)
stations-distinct [] code con distinct is = cc
stations-distinct (c ∷ setup) code con distinct is = go (bytes_eq code c.code) is (stations-distinct setup code con)
  where
    parted : AreDistinct (station_codes c.stations ++ all_station_codes setup)
    parted = subst AreDistinct (codes-first c c.stations (all_stations setup)) distinct

    go : (b : Bool) → cond b (Some c) (constituency_with code setup) ≡ Some con
        → (AreDistinct (all_station_codes setup) → constituency_with code setup ≡ Some con → AreDistinct (station_codes con.stations))
        → AreDistinct (station_codes con.stations)
    go true same later =
        let here : c ≡ con = cc in
        subst (λ (x : Constituency). AreDistinct (station_codes x.stations)) here (front-distinct (station_codes c.stations) (all_station_codes setup) parted)
    go false same later = later (back-distinct (station_codes c.stations) (all_station_codes setup) parted) same

find-at : {X : Type 0} (p : X → Bool) (xs : List X) (k : ℕ) (d : X) → k < length xs → p (get_or xs k d) ≡ true
    → ((i : ℕ) → i < k → p (get_or xs i d) ≡ false) → find p xs ≡ Some (get_or xs k d)
find-at p [] k d within passes others = absurd (omega (arith, within))
find-at {X} p (x ∷ xs) zero d within passes others = ap (λ b. cond b (Some x) (find p xs)) passes
find-at {X} p (x ∷ xs) (suc k) d within passes others =
    ap (λ b. cond b (Some x) (find p xs)) (others zero (omega arith))
    ∙ find-at p xs k d (omega (arith, within)) passes (λ i less. others (suc i) (omega (arith, less)))

differ : (a b : List ℕ) → a ≢ b → bytes_eq b a ≡ false
differ a b apart = go (bytes_eq b a) (bytes_eq-Decides b a).0
  where
    go : (c : Bool) → (c ≡ true → b ≡ a) → c ≡ false
    go true same = absurd (apart (sym (same refl)))
    go false same = refl

own-station : (con : Constituency) (place : ℕ) (d : Station) → AreDistinct (station_codes con.stations) → place < length con.stations
    → station_in con (get_or con.stations place d).code ≡ Some (get_or con.stations place d)
own-station con place d distinct within =
    find-at (λ (s : Station). bytes_eq (get_or con.stations place d).code s.code) con.stations place d within
    ((bytes_eq-Decides (get_or con.stations place d).code (get_or con.stations place d).code).1 refl)
    (λ i less. differ (get_or con.stations i d).code (get_or con.stations place d).code
    (subst (λ (x : List ℕ). x ≢ (get_or con.stations place d).code) (get_or-map (λ (s : Station). s.code) con.stations i d [] (omega (arith, less, within)))
    (subst (λ (y : List ℕ). get_or (station_codes con.stations) i [] ≢ y) (get_or-map (λ (s : Station). s.code) con.stations place d [] within)
    (distinct i place [] less (omega (arith, within, length-map con.stations (λ (s : Station). s.code)))))))

-- ---- what is counted

pub returns-of : (con : Constituency) (words : List (List ℕ)) (rows : List Row) → IsOfSetup con → AreReturnsOf con (map (counts_in (returns_judged con words rows)) con.stations)
returns-of con words rows of_setup = record {
  one_each = length-map con.stations (counts_in m);
  lawful = λ place station c within is.
      let s = get_or con.stations place station in
      let counted : counts_in m s ≡ Some c = sym (get_or-map (counts_in m) con.stations place station None within) ∙ is in
      let here : station_limits_in con s.code ≡ Some (limits_of con s) = ap (option_map (limits_of con)) (own-station con place station distinct within) in
      at s c (fin.get m s.code) refl counted here;
}
  where
    m : Returns
    m = returns_judged con words rows

    distinct : AreDistinct (station_codes con.stations)
    distinct = stations-distinct of_setup.0 of_setup.1 con of_setup.2.station_codes of_setup.3

    pass : AllPass (station_limits_in con) m
    pass = rows-pass (station_limits_in con) fin.empty (rows_judged words rows) (none-pass (station_limits_in con))

    at : (s : Station) (c : VoteCounts) (found : Option StationReturn) → fin.get m s.code ≡ found → option_map (λ (r : StationReturn). r.counts) found ≡ Some c
        → station_limits_in con s.code ≡ Some (limits_of con s) → AreCountsAt con s c
    at s c None is counted here = cc
    at s c (Some r) is counted here =
        let p = pass s.code r is in
        let same : p.0 ≡ limits_of con s = cc in
        let counts : r.counts ≡ c = cc in
        record {
          counts = subst (λ (x : VoteCounts). are_counts (length con.lists) x ≡ true) counts (subst (λ (l : StationLimits). are_counts l.lists r.counts ≡ true) same p.2.0);
          votes = subst (λ (x : VoteCounts). all_votes x ≤ entitled s) counts (subst (λ (l : StationLimits). all_votes r.counts ≤ l.entitled) same p.2.1);
        }
