-- The places of stations, and what is found by a code.
use Rattle.std.proofs.Common.{◌≡◌, ◌<◌, ◌≤◌, ℕ, zero, suc, List, [], ◌∷◌, ◌++◌, length, map, take, Option, Some, None, arith, refl, ap, ◌∙◌, sym, append-nil, append_assoc}
use Rattle.std.specs.List.{slice_get}
use Rattle.std.specs.Option.{option_and_then}
use Rattle.std.specs.Borrow.{Bor}
use Rattle.std.specs.Slice.{IsItemAt}
use Rattle.std.specs.Option.{option_copied}
use Rattle.std.proofs.lemmas.Option.{slice_get_past, slice_get_read}
use Rattle.std.proofs.lemmas.List.{map-append}
use Rattle.std.proofs.Math.Seq.{take-length}
use Rattle.tally_setup.specs.Constituency.{Constituency, station_codes}
use Rattle.tally_setup.specs.declared.constituency.Station.{Station}
use Rattle.tally_setup.specs.declared.setup.StationPlace.{StationPlace}
use Rattle.tally_setup.specs.Setup.{all_stations, station_with, constituency_with, all_station_codes}
use Rattle.tally_setup.specs.Codes.{index_of}
use Rattle.tally_setup.specs.internal.Index.{station_at, places_in, IsIndexed}
use Rattle.tally_setup.proofs.CodesLemmas.{find-index_of}

-- one more element at the front of a list, and the element itself
pub taken_one_more : {X : Type 0} (xs : List X) (n : ℕ) → n < length xs → (x : X) × (slice_get xs n ≡ Some x) × (take (suc n) xs ≡ take n xs ++ x ∷ [])
taken_one_more [] n l = absurd (omega arith)
taken_one_more (y ∷ ys) zero l = (y, refl, refl)
taken_one_more (y ∷ ys) (suc n) l = let more = taken_one_more ys n (omega arith) in (more.0, more.1, ap (λ t. y ∷ t) more.2)

abbrev pub with_con : Constituency → Station → Constituency × Station
with_con con station = (con, station)

-- the places of the first stations of a constituency are those of these stations
pub at-places_in : (cons : List Constituency) (i : ℕ) (con : Constituency) → slice_get cons i ≡ Some con → (n : ℕ) → n ≤ length con.stations → map (station_at cons) (places_in i n) ≡ map Some (map (with_con con) (take n con.stations))
at-places_in cons i con at zero fits = refl
at-places_in cons i con at (suc n) fits =
    let more = taken_one_more con.stations n (omega arith) in
    let here : station_at cons (record { con = i; station = n }) ≡ Some (con, more.0) = rw (at, more.1) in
    let these : map Some (map (with_con con) (take (suc n) con.stations)) ≡ map Some (map (with_con con) (take n con.stations)) ++ Some (con, more.0) ∷ [] =
    ap (λ t. map Some (map (with_con con) t)) more.2
    ∙ ap (map Some) (map-append (with_con con) (take n con.stations) (more.0 ∷ []))
    ∙ map-append Some (map (with_con con) (take n con.stations)) ((con, more.0) ∷ []) in
    map-append (station_at cons) (places_in i n) (record { con = i; station = n } ∷ [])
    ∙ ap (λ t. t ++ station_at cons (record { con = i; station = n }) ∷ []) (at-places_in cons i con at n (omega arith))
    ∙ ap (λ o. map Some (map (with_con con) (take n con.stations)) ++ o ∷ []) here
    ∙ sym these

-- one more constituency, and its stations
pub at-places_in-all : (cons : List Constituency) (i : ℕ) (con : Constituency) → slice_get cons i ≡ Some con → map (station_at cons) (places_in i (length con.stations)) ≡ map Some (map (with_con con) con.stations)
at-places_in-all cons i con at = at-places_in cons i con at (length con.stations) (omega arith) ∙ ap (λ t. map Some (map (with_con con) t)) (take-length con.stations)

pub all_stations-more : (cons : List Constituency) (i : ℕ) (con : Constituency) → slice_get cons i ≡ Some con → all_stations (take (suc i) cons) ≡ all_stations (take i cons) ++ map (with_con con) con.stations
all_stations-more [] i con at = cc
all_stations-more (first ∷ others) zero con at = let e : first ≡ con = cc in rw e (append-nil (map (with_con con) con.stations))
all_stations-more (first ∷ others) (suc i) con at = ap (λ t. map (with_con first) first.stations ++ t) (all_stations-more others i con at) ∙ sym (append_assoc (map (with_con first) first.stations) (all_stations (take i others)) (map (with_con con) con.stations))

-- the places of one more constituency's stations
pub places-more : (cons : List Constituency) (places : List StationPlace) (i : ℕ) (con : Constituency) → slice_get cons i ≡ Some con → map (station_at cons) places ≡ map Some (all_stations (take i cons))
    → map (station_at cons) (places ++ places_in i (length con.stations)) ≡ map Some (all_stations (take (suc i) cons))
places-more cons places i con at so_far =
    map-append (station_at cons) places (places_in i (length con.stations))
    ∙ ap (λ t. t ++ map (station_at cons) (places_in i (length con.stations))) so_far
    ∙ ap (λ t. map Some (all_stations (take i cons)) ++ t) (at-places_in-all cons i con at)
    ∙ sym (map-append Some (all_stations (take i cons)) (map (with_con con) con.stations))
    ∙ ap (map Some) (sym (all_stations-more cons i con at))

-- an element by its place, where the places give the elements
pub slice_get-mapped : {P X : Type 0} (f : P → Option X) (ps : List P) (xs : List X) → map f ps ≡ map Some xs → (i : ℕ) → slice_get xs i ≡ option_and_then f (slice_get ps i)
slice_get-mapped f [] [] e i = refl
slice_get-mapped f [] (x ∷ xs) e i = cc
slice_get-mapped f (p ∷ ps) [] e i = cc
slice_get-mapped f (p ∷ ps) (x ∷ xs) e zero = cc
slice_get-mapped f (p ∷ ps) (x ∷ xs) e (suc i) = slice_get-mapped f ps xs (cc) i

-- what `get` answers, as an element of the list
pub slice_get-lookup : {X : Type 0} (xs : List X) (i : ℕ) (r : Option (Bor X)) → IsItemAt xs i r → slice_get xs i ≡ option_copied r
slice_get-lookup xs i None item = slice_get_past xs i item.3
slice_get-lookup xs i (Some x) item = slice_get_read xs (length xs) i x.now refl item.3.0 item.1

-- the constituency of a code is the one at the code's place
pub constituency_with-place : (cons : List Constituency) (codes stations : List (List ℕ)) (places : List StationPlace) → IsIndexed cons codes stations places → (q : List ℕ) → constituency_with q cons ≡ option_and_then (slice_get cons) (index_of q codes)
constituency_with-place cons codes stations places index q = find-index_of (λ (con : Constituency). con.code) q cons ∙ ap (λ c. option_and_then (slice_get cons) (index_of q c)) (sym index.codes_are)

abbrev pub station_at_index : List Constituency → List StationPlace → ℕ → Option (Constituency × Station)
station_at_index cons places i = option_and_then (station_at cons) (slice_get places i)

-- the station of a code is the one whose place is recorded at the code's place
pub station_with-place : (cons : List Constituency) (codes stations : List (List ℕ)) (places : List StationPlace) → IsIndexed cons codes stations places → (q : List ℕ) → station_with q cons ≡ option_and_then (station_at_index cons places) (index_of q stations)
station_with-place cons codes stations places index q =
    find-index_of (λ (p : Constituency × Station). p.1.code) q (all_stations cons)
    ∙ ap (λ c. option_and_then (slice_get (all_stations cons)) (index_of q c)) (sym index.stations_are)
    ∙ each (index_of q stations)
  where
    each : (o : Option ℕ) → option_and_then (slice_get (all_stations cons)) o ≡ option_and_then (station_at_index cons places) o
    each None = refl
    each (Some i) = slice_get-mapped (station_at cons) places (all_stations cons) index.places_are i

-- the codes of the stations of one more constituency
pub all_station_codes-push : (cons : List Constituency) (con : Constituency) → all_station_codes (cons ++ con ∷ []) ≡ all_station_codes cons ++ station_codes con.stations
all_station_codes-push [] con = of_stations con.stations
  where
    of_stations : (stations : List Station) → map (λ (p : Constituency × Station). p.1.code) (map (with_con con) stations ++ []) ≡ station_codes stations
    of_stations [] = refl
    of_stations (station ∷ stations) = ap (λ codes. station.code ∷ codes) (of_stations stations)
all_station_codes-push (first ∷ others) con =
    map-append (λ (p : Constituency × Station). p.1.code) (map (with_con first) first.stations) (all_stations (others ++ con ∷ []))
    ∙ ap (λ codes. map (λ (p : Constituency × Station). p.1.code) (map (with_con first) first.stations) ++ codes) (all_station_codes-push others con)
    ∙ sym (append_assoc (map (λ (p : Constituency × Station). p.1.code) (map (with_con first) first.stations)) (all_station_codes others) (station_codes con.stations))
    ∙ ap (λ codes. codes ++ station_codes con.stations) (sym (map-append (λ (p : Constituency × Station). p.1.code) (map (with_con first) first.stations) (all_stations others)))
