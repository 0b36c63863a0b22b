-- What a code names in a setup: one constituency, and one station of one constituency.
use Rattle.std.proofs.Common.{◌≡◌, ◌≢◌, ◌<◌, ◌∷◌, ◌++◌, ◌∙◌, ◌⊎◌, ℕ, zero, suc, List, [], Bool, true, false, cond, length, map, Some, inl, inr, refl, sym, ap, subst, arith}
use Rattle.std.specs.Prelude.{All, slice_index_or}
use Rattle.std.specs.List.{find}
use Rattle.std.specs.Str.{bytes_eq}
use Rattle.std.proofs.lemmas.Slice.Eq.{bytes_eq-Decides}
use Rattle.tally_setup.specs.Codes.{AreDistinct}
use Rattle.tally_setup.specs.Constituency.{Constituency}
use Rattle.tally_setup.specs.Limits.{IsConstituency, IsSetup}
use Rattle.tally_setup.specs.Setup.{all_stations, constituency_with, station_with}
use Rattle.tally_setup.specs.declared.constituency.Station.{Station}

-- the test of codes
pub same_bytes : (q k : List ℕ) → bytes_eq q k ≡ true → q ≡ k
same_bytes q k is = (bytes_eq-Decides q k).0 is

pub bytes_same : (q k : List ℕ) → q ≡ k → bytes_eq q k ≡ true
bytes_same q k is = (bytes_eq-Decides q k).1 is

pub bytes_apart : (q k : List ℕ) → q ≢ k → bytes_eq q k ≡ false
bytes_apart q k ne = go (bytes_eq q k) refl
  where
    go : (b : Bool) → bytes_eq q k ≡ b → b ≡ false
    go true is = absurd (ne (same_bytes q k is))
    go false is = refl

pub bytes_flipped : (q k : List ℕ) → bytes_eq q k ≡ false → bytes_eq k q ≡ false
bytes_flipped q k apart = bytes_apart k q (λ is. let e : false ≡ true = sym apart ∙ bytes_same q k (sym is) in absurd cc)

-- x is in the list
abbrev pub Has : {X : Type 0} → X → List X → Type 0
Has x [] = ⊥
Has x (y ∷ ys) = (y ≡ x) ⊎ Has x ys

module _ {X : Type 0} where
  pub all-has : (P : X → Type 0) (x : X) (xs : List X) → All P xs → Has x xs → P x
  all-has P x [] all has = absurd has
  all-has P x (y ∷ ys) all (inl is) = subst P is (all 0 x (omega arith))
  all-has P x (y ∷ ys) all (inr has) = all-has P x ys (λ k d less. all (suc k) d (omega (arith, less))) has

  pub has-found : (p : X → Bool) (xs : List X) (x : X) → find p xs ≡ Some x → (p x ≡ true) × Has x xs
  has-found p [] x is = cc
  has-found p (y ∷ ys) x is = go (p y) refl is (has-found p ys x)
    where
      go : (b : Bool) → p y ≡ b → cond b (Some y) (find p ys) ≡ Some x → (find p ys ≡ Some x → (p x ≡ true) × Has x ys) → (p x ≡ true) × Has x (y ∷ ys)
      go true passes found later = let same : y ≡ x = cc in (subst (λ z. p z ≡ true) same passes, inl same)
      go false fails found later = let rest = later found in (rest.0, inr rest.1)

  has-left : (x : X) (xs ys : List X) → Has x xs → Has x (xs ++ ys)
  has-left x [] ys has = absurd has
  has-left x (y ∷ xs) ys (inl is) = inl is
  has-left x (y ∷ xs) ys (inr has) = inr (has-left x xs ys has)

  has-right : (x : X) (xs ys : List X) → Has x ys → Has x (xs ++ ys)
  has-right x [] ys has = has
  has-right x (y ∷ xs) ys has = inr (has-right x xs ys has)

  has-either : (x : X) (xs ys : List X) → Has x (xs ++ ys) → Has x xs ⊎ Has x ys
  has-either x [] ys has = inr has
  has-either x (y ∷ xs) ys (inl is) = inl (inl is)
  has-either x (y ∷ xs) ys (inr has) = go (has-either x xs ys has)
    where
      go : Has x xs ⊎ Has x ys → Has x (y ∷ xs) ⊎ Has x ys
      go (inl here) = inl (inr here)
      go (inr there) = inr there

module _ {X : Type 0} (h : X → List ℕ) where
  -- no element has the code
  abbrev pub Apart : List ℕ → List X → Type 0
  Apart q [] = Unit {0}
  Apart q (y ∷ ys) = (bytes_eq q (h y) ≡ false) × Apart q ys

  -- no two elements have one code
  abbrev pub Differ : List X → Type 0
  Differ [] = Unit {0}
  Differ (y ∷ ys) = Apart (h y) ys × Differ ys

  apart-from : (q : List ℕ) (ys : List X) → ((j : ℕ) (d : List ℕ) → j < length (map h ys) → q ≢ slice_index_or (map h ys) j d) → Apart q ys
  apart-from q [] ne = tt
  apart-from q (y ∷ ys) ne = (bytes_apart q (h y) (ne 0 q (omega arith)), apart-from q ys (λ j d less. ne (suc j) d (omega (arith, less))))

  pub differ-from : (ys : List X) → AreDistinct (map h ys) → Differ ys
  differ-from [] all = tt
  differ-from (y ∷ ys) all = (
    apart-from (h y) ys (λ j d less. all 0 (suc j) d (omega arith) (omega (arith, less))),
    differ-from ys (λ i j d less within. all (suc i) (suc j) d (omega (arith, less)) (omega (arith, within))),
  )

  pub apart-has : (q : List ℕ) (ys : List X) (y : X) → Apart q ys → Has y ys → bytes_eq q (h y) ≡ false
  apart-has q [] y apart has = absurd has
  apart-has q (z ∷ zs) y apart (inl is) = subst (λ x. bytes_eq q (h x) ≡ false) is apart.0
  apart-has q (z ∷ zs) y apart (inr has) = apart-has q zs y apart.1 has

  -- where elements differ, the first of a code is the only one
  pub found-has : (q : List ℕ) (ys : List X) (y : X) → Differ ys → Has y ys → q ≡ h y → find (λ (z : X). bytes_eq q (h z)) ys ≡ Some y
  found-has q [] y differ has is = absurd has
  found-has q (z ∷ zs) y differ (inl same) is =
      ap (λ b. cond b (Some z) (find (λ (z : X). bytes_eq q (h z)) zs)) (bytes_same q (h z) (is ∙ ap h (sym same))) ∙ ap Some same
  found-has q (z ∷ zs) y differ (inr has) is =
      let apart : bytes_eq q (h z) ≡ false = ap (λ k. bytes_eq k (h z)) is ∙ bytes_flipped (h z) (h y) (apart-has (h z) zs y differ.0 has) in
      ap (λ b. cond b (Some z) (find (λ (z : X). bytes_eq q (h z)) zs)) apart ∙ found-has q zs y differ.1 has is

  apart-left : (q : List ℕ) (xs ys : List X) → Apart q (xs ++ ys) → Apart q xs
  apart-left q [] ys apart = tt
  apart-left q (x ∷ xs) ys apart = (apart.0, apart-left q xs ys apart.1)

  pub differ-left : (xs ys : List X) → Differ (xs ++ ys) → Differ xs
  differ-left [] ys differ = tt
  differ-left (x ∷ xs) ys differ = (apart-left (h x) xs ys differ.0, differ-left xs ys differ.1)

  pub differ-right : (xs ys : List X) → Differ (xs ++ ys) → Differ ys
  differ-right [] ys differ = differ
  differ-right (x ∷ xs) ys differ = differ-right xs ys differ.1

  -- either one of the elements has the code, or none has
  pub has_or_apart : (q : List ℕ) (ys : List X) → ((y : X) × Has y ys × (q ≡ h y)) ⊎ Apart q ys
  has_or_apart q [] = inr tt
  has_or_apart q (y ∷ ys) = go (bytes_eq q (h y)) refl (has_or_apart q ys)
    where
      go : (b : Bool) → bytes_eq q (h y) ≡ b → ((z : X) × Has z ys × (q ≡ h z)) ⊎ Apart q ys → ((z : X) × Has z (y ∷ ys) × (q ≡ h z)) ⊎ Apart q (y ∷ ys)
      go true is rest = inl (y, inl refl, same_bytes q (h y) is)
      go false is (inl found) = inl (found.0, inr found.1, found.2)
      go false is (inr apart) = inr (is, apart)

-- ---- the stations of a setup

abbrev pub code_of_station : Station → List ℕ
code_of_station station = station.code

abbrev code_of_con : Constituency → List ℕ
code_of_con con = con.code

abbrev code_of_place : Constituency × Station → List ℕ
code_of_place place = place.1.code

abbrev placed : Constituency → List Station → List (Constituency × Station)
placed con stations = map (λ (station : Station). (con, station)) stations

has-placed : (con : Constituency) (station : Station) (stations : List Station) → Has station stations → Has (con, station) (placed con stations)
has-placed con station [] has = absurd has
has-placed con station (x ∷ stations) (inl is) = inl (ap (λ (s : Station). (con, s)) is)
has-placed con station (x ∷ stations) (inr has) = inr (has-placed con station stations has)

placed-has : (c con : Constituency) (station : Station) (stations : List Station) → Has (con, station) (placed c stations) → (c ≡ con) × Has station stations
placed-has c con station [] has = absurd has
placed-has c con station (x ∷ stations) (inl is) = (ap (λ (p : Constituency × Station). p.0) is, inl (ap (λ (p : Constituency × Station). p.1) is))
placed-has c con station (x ∷ stations) (inr has) = let rest = placed-has c con station stations has in (rest.0, inr rest.1)

has-all_stations : (cons : List Constituency) (con : Constituency) (station : Station) → Has con cons → Has station con.stations → Has (con, station) (all_stations cons)
has-all_stations [] con station has stands = absurd has
has-all_stations (c ∷ cons) con station (inl is) stands =
    has-left (con, station) (placed c c.stations) (all_stations cons) (subst (λ (x : Constituency). Has (con, station) (placed x x.stations)) (sym is) (has-placed con station con.stations stands))
has-all_stations (c ∷ cons) con station (inr has) stands = has-right (con, station) (placed c c.stations) (all_stations cons) (has-all_stations cons con station has stands)

all_stations-has : (cons : List Constituency) (con : Constituency) (station : Station) → Has (con, station) (all_stations cons) → Has con cons × Has station con.stations
all_stations-has [] con station has = absurd has
all_stations-has (c ∷ cons) con station has = go (has-either (con, station) (placed c c.stations) (all_stations cons) has) (all_stations-has cons con station)
  where
    go : Has (con, station) (placed c c.stations) ⊎ Has (con, station) (all_stations cons) → (Has (con, station) (all_stations cons) → Has con cons × Has station con.stations)
        → Has con (c ∷ cons) × Has station con.stations
    go (inl here) later =
        let is = placed-has c con station c.stations here in
        (inl is.0, subst (λ (x : Constituency). Has station x.stations) is.0 is.1)
    go (inr there) later = let is = later there in (inr is.0, is.1)

apart-placed : (con : Constituency) (q : List ℕ) (stations : List Station) → Apart code_of_place q (placed con stations) → Apart code_of_station q stations
apart-placed con q [] apart = tt
apart-placed con q (x ∷ stations) apart = (apart.0, apart-placed con q stations apart.1)

differ-placed : (con : Constituency) (stations : List Station) → Differ code_of_place (placed con stations) → Differ code_of_station stations
differ-placed con [] differ = tt
differ-placed con (x ∷ stations) differ = (apart-placed con x.code stations differ.0, differ-placed con stations differ.1)

differ-stations : (cons : List Constituency) (con : Constituency) → Differ code_of_place (all_stations cons) → Has con cons → Differ code_of_station con.stations
differ-stations [] con differ has = absurd has
differ-stations (c ∷ cons) con differ (inl is) =
    subst (λ (x : Constituency). Differ code_of_station x.stations) is (differ-placed c c.stations (differ-left code_of_place (placed c c.stations) (all_stations cons) differ))
differ-stations (c ∷ cons) con differ (inr has) = differ-stations cons con (differ-right code_of_place (placed c c.stations) (all_stations cons) differ) has

-- ---- what a code names

pub con-limits : (setup : List Constituency) (con : Constituency) → IsSetup setup → Has con setup → IsConstituency con
con-limits setup con limits has = all-has IsConstituency con setup limits.each_constituency has

pub cons-differ : (setup : List Constituency) → IsSetup setup → Differ code_of_con setup
cons-differ setup limits = differ-from code_of_con setup limits.codes

pub con-only : (setup : List Constituency) (con : Constituency) → IsSetup setup → Has con setup → constituency_with con.code setup ≡ Some con
con-only setup con limits has = found-has code_of_con con.code setup con (cons-differ setup limits) has refl

pub con-found : (setup : List Constituency) (code : List ℕ) (con : Constituency) → constituency_with code setup ≡ Some con → (code ≡ con.code) × Has con setup
con-found setup code con is = let found = has-found (λ (c : Constituency). bytes_eq code c.code) setup con is in (same_bytes code con.code found.0, found.1)

pub stations-differ : (setup : List Constituency) (con : Constituency) → IsSetup setup → Has con setup → Differ code_of_station con.stations
stations-differ setup con limits has = differ-stations setup con (differ-from code_of_place (all_stations setup) limits.station_codes) has

pub station-only : (setup : List Constituency) (con : Constituency) (station : Station) → IsSetup setup → Has con setup → Has station con.stations
    → station_with station.code setup ≡ Some (con, station)
station-only setup con station limits has stands =
    found-has code_of_place station.code (all_stations setup) (con, station) (differ-from code_of_place (all_stations setup) limits.station_codes) (has-all_stations setup con station has stands) refl

-- the station of a code is a station of its constituency
pub station-found : (setup : List Constituency) (code : List ℕ) (con : Constituency) (station : Station) → station_with code setup ≡ Some (con, station)
    → Has con setup × Has station con.stations × (code ≡ station.code)
station-found setup code con station is =
    let found = has-found (λ (place : Constituency × Station). bytes_eq code place.1.code) (all_stations setup) (con, station) is in
    let has = all_stations-has setup con station found.1 in
    (has.0, has.1, same_bytes code station.code found.0)

-- a code is not apart from itself
pub not_apart : (q k : List ℕ) → q ≡ k → bytes_eq k q ≡ false → ⊥
not_apart q k is apart = let e : false ≡ true = sym apart ∙ bytes_same k q (sym is) in absurd cc

pub has-at : {X : Type 0} (xs : List X) (i : ℕ) (d : X) → i < length xs → Has (slice_index_or xs i d) xs
has-at [] i d less = absurd (omega (arith, less))
has-at (x ∷ xs) zero d less = inl refl
has-at (x ∷ xs) (suc i) d less = inr (has-at xs i d (omega (arith, less)))
