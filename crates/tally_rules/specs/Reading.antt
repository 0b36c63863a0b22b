-- The setup that a text is, or its first fault and the entry that has it. Each definition below has
-- the order of checks of one part of the format.
use Rattle.std.specs.Prelude.{ℕ, ℤ, pos, negsuc, Bool, ◌+◌, ◌-◌, ◌==◌, ◌&&◌, not, nat_lt}
use Rattle.std.specs.Prelude.{nat_le, List, [], ◌∷◌, ◌++◌, length, map, Option, Some, None}
use Rattle.std.specs.Prelude.{option_map, is_some, sum_by}
use Rattle.std.specs.Prelude.{Result, Ok, Err, if◌then◌else◌, codes}
use Rattle.std.specs.List.{list_all}
use Rattle.std.specs.Map.{lookup}
use Rattle.std.specs.Option.{ok_or, option_and_then}
use Rattle.std.specs.Str.{is_utf8, bytes_eq}
use Rattle.toml.specs.Data.{Data, Items, no_items, item, table, get, as_str, as_integer, as_array}
use Rattle.toml.specs.Data.{as_table}
use Rattle.toml.specs.Parse.{parse_document}
use Rattle.tally_frac.specs.Limits.{most_lists, most_seats, most_votes, whole_base}
use Rattle.tally_setup.specs.Code.{code_of}
use Rattle.tally_setup.specs.Codes.{index_of, is_among_codes}
use Rattle.tally_setup.specs.Constituency.{Constituency, ListEntry, entitled, list_codes}
use Rattle.tally_setup.specs.Constituency.{station_codes}
use Rattle.tally_rules.specs.Fault.{Fault, not_toml, missing, bad_value, over_limit, duplicate}
use Rattle.tally_rules.specs.Fault.{unknown_profile, Placed}
use Rattle.tally_setup.specs.Limits.{most_agents, most_candidates, most_constituencies}
use Rattle.tally_setup.specs.Limits.{most_electors, most_normal_stations, most_profiles}
use Rattle.tally_setup.specs.Limits.{most_stations}
use Rattle.tally_setup.specs.Method.{method_named}
use Rattle.tally_rules.specs.Place.{coded, constituency_way, in_code, in_entry, list_way, nowhere}
use Rattle.tally_rules.specs.Place.{nth}
use Rattle.tally_setup.specs.Setup.{constituency_codes, all_station_codes}
use Rattle.tally_setup.specs.Text.{is_name}
use Rattle.tally_setup.specs.declared.constituency.Entry.{Entry}
use Rattle.tally_setup.specs.declared.constituency.Entry.TheVariants.{Single, Double}
use Rattle.tally_setup.specs.declared.constituency.Station.{Station}
use Rattle.tally_rules.specs.declared.place.Holder.{Holder}
use Rattle.tally_rules.specs.declared.place.SetupArray.{SetupArray}
use Rattle.tally_rules.specs.declared.place.SetupArray.TheVariants.{Candidates, Constituencies}
use Rattle.tally_rules.specs.declared.place.SetupArray.TheVariants.{Lists as ListArray, Profiles}
use Rattle.tally_rules.specs.declared.place.SetupArray.TheVariants.{Stations}
use Rattle.tally_rules.specs.declared.place.Way.{Way}
use Rattle.tally_setup.specs.declared.profile.Base.{Base}
use Rattle.tally_setup.specs.declared.profile.Base.TheVariants.{Valid, Lists}
use Rattle.tally_setup.specs.declared.profile.LotRule.{LotRule}
use Rattle.tally_setup.specs.declared.profile.LotRule.TheVariants.{Fixed, Alternating}
use Rattle.tally_setup.specs.declared.profile.Method.{Method}
use Rattle.tally_setup.specs.declared.profile.Profile.{Profile}

-- one step after another, as far as the first fault
infixl 10 ◌>>=◌
abbrev pub ◌>>=◌ : {A B E : Type 0} → Result A E → (A → Result B E) → Result B E
Ok a >>= step = step a
Err fault >>= step = Err fault

-- ---- the keys of an entry

-- the value of a key
unfoldable pub read_value : List ℕ → Data → Result Data Fault
read_value key entry = ok_or (get key entry) (missing key)

-- the text of a key
unfoldable pub read_text : List ℕ → Data → Result (List ℕ) Fault
read_text key entry = do
  value ← read_value key entry
  ok_or (as_str value) (bad_value key)

-- a whole number from low to high
abbrev pub number_in : ℕ → ℕ → ℤ → Option ℕ
number_in low high (pos n) = if nat_le low n && nat_le n high then Some n else None
number_in low high (negsuc n) = None

-- the number of a key, from low to high
unfoldable pub read_number : List ℕ → ℕ → ℕ → Data → Result ℕ Fault
read_number key low high entry = do
  value ← read_value key entry
  ok_or (option_and_then (number_in low high) (as_integer value)) (bad_value key)

-- the code of a key
unfoldable pub read_code : List ℕ → Data → Result (List ℕ) Fault
read_code key entry = do
  text ← read_text key entry
  ok_or (code_of text) (bad_value key)

-- `code`, which differs from those taken
unfoldable pub new_code : List (List ℕ) → Data → Result (List ℕ) Fault
new_code taken entry = do
  code ← read_code (codes "code") entry
  if is_among_codes code taken then Err (duplicate code) else Ok code

-- a name, the value of a key or one of the items of its array
unfoldable pub name_from : List ℕ → Data → Result (List ℕ) Fault
name_from key value = do
  text ← ok_or (as_str value) (bad_value key)
  if is_name text then Ok text else Err (bad_value key)

-- `name`
unfoldable pub read_name : Data → Result (List ℕ) Fault
read_name entry = do
  value ← read_value (codes "name") entry
  name_from (codes "name") value

-- `method`
unfoldable pub read_method : Data → Result Method Fault
read_method entry = do
  word ← read_text (codes "method") entry
  ok_or (method_named word) (bad_value (codes "method"))

-- `base`
abbrev pub base_named : List ℕ → Option Base
base_named word =
    if bytes_eq word (codes "valid") then Some Valid
    else if bytes_eq word (codes "lists") then Some Lists
    else None

unfoldable pub read_base : Data → Result Base Fault
read_base entry = do
  word ← read_text (codes "base") entry
  ok_or (base_named word) (bad_value (codes "base"))

-- `lot`, which may be absent: lots are fixed then
abbrev pub lot_rule_named : List ℕ → Option LotRule
lot_rule_named word =
    if bytes_eq word (codes "fixed") then Some Fixed
    else if bytes_eq word (codes "alternating") then Some Alternating
    else None

unfoldable pub read_lot_rule : Data → Result LotRule Fault
read_lot_rule entry =
    if is_some (get (codes "lot") entry)
    then (read_text (codes "lot") entry >>=
    (λ word. ok_or (lot_rule_named word) (bad_value (codes "lot"))))
    else Ok Fixed

-- `entry`, which may be absent: returns are entered once then
abbrev pub entry_named : List ℕ → Option Entry
entry_named word =
    if bytes_eq word (codes "single") then Some Single
    else if bytes_eq word (codes "double") then Some Double
    else None

unfoldable pub read_entry : Data → Result Entry Fault
read_entry con =
    if is_some (get (codes "entry") con)
    then (read_text (codes "entry") con >>=
    (λ word. ok_or (entry_named word) (bad_value (codes "entry"))))
    else Ok Single

-- `size`, which may be absent: a constituency is of normal size then. It says how many stations
-- there may be.
abbrev pub station_limit_named : List ℕ → Option ℕ
station_limit_named word =
    if bytes_eq word (codes "normal") then Some most_normal_stations
    else if bytes_eq word (codes "large") then Some most_stations
    else None

unfoldable pub read_station_limit : Data → Result ℕ Fault
read_station_limit con =
    if is_some (get (codes "size") con)
    then (read_text (codes "size") con >>=
    (λ word. ok_or (station_limit_named word) (bad_value (codes "size"))))
    else Ok most_normal_stations

-- `agents` of a station with these electors, which may be absent: there are none then
unfoldable pub read_agents : ℕ → Data → Result ℕ Fault
read_agents electors station =
    if is_some (get (codes "agents") station)
    then (read_number (codes "agents") 0 most_agents station >>=
    (λ agents. if nat_le (electors + agents) most_electors then Ok agents
    else Err (bad_value (codes "agents"))))
    else Ok 0

-- ---- arrays

-- the items as a list
abbrev pub list_of : Items → List Data
list_of no_items = []
list_of (item d ds) = d ∷ list_of ds

-- the array of a key: there is an item, each is of the kind that is wanted, and there are at most
-- this many
unfoldable pub read_array : (Data → Bool) → List ℕ → ℕ → Data → Result (List Data) Fault
read_array is_wanted key limit entry = do
  value ← read_value key entry
  items ← ok_or (option_map list_of (as_array value)) (bad_value key)
  if length items == 0 then Err (missing key)
      else if not (list_all is_wanted items) then Err (bad_value key)
      else if nat_lt limit (length items) then Err (over_limit key)
      else Ok items

abbrev pub is_text : Data → Bool
is_text value = is_some (as_str value)

abbrev pub is_table : Data → Bool
is_table value = is_some (as_table value)

-- the entries of an array of tables, in order, each read beside those before it
unfoldable pub in_turn : {A : Type 0} → (List A → Data → Result A Placed) → List A → List Data →
    Result (List A) Placed
in_turn read before [] = Ok before
in_turn read before (entry ∷ entries) = do
  a ← read before entry
  in_turn read (before ++ a ∷ []) entries

-- ---- codes that differ

-- the entry of an array that has a code first, among those of these codes
abbrev pub first_in : SetupArray → List (List ℕ) → Fault → Option Way
first_in array taken (duplicate code) =
    option_map (λ place. coded array (place + 1) code) (index_of code taken)
first_in array taken fault = None

-- the code of the entry after those of these codes
unfoldable pub next_code : SetupArray → List (List ℕ) → Data → Result (List ℕ) Placed
next_code array taken entry =
    in_code (first_in array taken) (nth array (length taken + 1)) (new_code taken entry)

-- ---- profiles, lists, stations, constituencies

abbrev pub profile_codes : List (List ℕ × Profile) → List (List ℕ)
profile_codes profiles = map (λ (p : List ℕ × Profile). p.0) profiles

-- what an entry of `profile` has beside its code
unfoldable pub rest_of_profile : Data → Result Profile Fault
rest_of_profile entry = do
  method ← read_method entry
  threshold ← read_number (codes "threshold") 0 whole_base entry
  base ← read_base entry
  lot ← read_lot_rule entry
  Ok (record { method = method; threshold = threshold; base = base; lot = lot })

-- an entry of `profile`, after those of these codes
unfoldable pub profile_entry : List (List ℕ) → Data → Result (List ℕ × Profile) Placed
profile_entry taken entry = do
  code ← next_code Profiles taken entry
  profile ← in_entry (coded Profiles (length taken + 1) code) (rest_of_profile entry)
  Ok (code, profile)

-- an item of `candidates`, of this number
abbrev pub candidate : Holder → Holder → ℕ → Data → Result (List ℕ) Placed
candidate con list number value =
    in_entry (nth (Candidates con list) number) (name_from (codes "candidates") value)

-- `candidates` of a list of a constituency
unfoldable pub read_candidates : Holder → Holder → Data → Result (List (List ℕ)) Placed
read_candidates con list entry = do
  names ← in_entry (list_way con list)
      (read_array is_text (codes "candidates") most_candidates entry)
  in_turn (λ before. candidate con list (length before + 1)) [] names

-- what an entry of `list` has beside its code, of this constituency and this list
unfoldable pub rest_of_list : Holder → Holder → Data → Result ListEntry Placed
rest_of_list con list entry = do
  name ← in_entry (list_way con list) (read_name entry)
  candidates ← read_candidates con list entry
  Ok (record { code = list.code; name = name; candidates = candidates })

-- an entry of `list` of a constituency, after those of these codes
unfoldable pub list_entry : Holder → List (List ℕ) → Data → Result ListEntry Placed
list_entry con taken entry = do
  code ← next_code (ListArray con) taken entry
  rest_of_list con (record { number = length taken + 1; code = code }) entry

-- `list` of a constituency
unfoldable pub read_lists : Holder → Data → Result (List ListEntry) Placed
read_lists con entry = do
  entries ← in_entry (constituency_way con) (read_array is_table (codes "list") most_lists entry)
  in_turn (λ before. list_entry con (list_codes before)) [] entries

-- The station at a place, from 0, among those of these constituencies and after them those so far
-- of one more. The first of these has the number that is given.
abbrev pub station_way : ℕ → List Constituency → Holder → ℕ → List ℕ → Way
station_way number [] con place code = coded (Stations con) (place + 1) code
station_way number (first ∷ others) con place code =
    if nat_lt place (length first.stations)
    then coded (Stations (record { number = number; code = first.code })) (place + 1) code
    else station_way (number + 1) others con (place - length first.stations) code

-- the station that has a code first, among those of these codes
abbrev pub first_station : List Constituency → Holder → List (List ℕ) → Fault → Option Way
first_station before con taken (duplicate code) =
    option_map (λ place. station_way 1 before con place code) (index_of code taken)
first_station before con taken fault = None

-- what an entry of `station` has beside its code
unfoldable pub station_coded : List ℕ → Data → Result Station Fault
station_coded code entry = do
  electors ← read_number (codes "electors") 1 most_electors entry
  agents ← read_agents electors entry
  Ok (record { code = code; electors = electors; agents = agents })

-- the same, of this number and code
unfoldable pub rest_of_station : Holder → ℕ → List ℕ → Data → Result Station Placed
rest_of_station con number code entry =
    in_entry (coded (Stations con) number code) (station_coded code entry)

-- an entry of `station` of a constituency, after these constituencies and these stations
unfoldable pub station_entry : List Constituency → Holder → List Station → Data →
    Result Station Placed
station_entry before con stations entry = do
  code ← in_code (first_station before con (all_station_codes before ++ station_codes stations))
      (nth (Stations con) (length stations + 1))
      (new_code (all_station_codes before ++ station_codes stations) entry)
  rest_of_station con (length stations + 1) code entry

-- each entry of `station` of a constituency, which has at most this many, after these
-- constituencies
unfoldable pub read_each_station : List Constituency → Holder → ℕ → Data
    → Result (List Station) Placed
read_each_station before con limit entry = do
  entries ← in_entry (constituency_way con) (read_array is_table (codes "station") limit entry)
  in_turn (station_entry before con) [] entries

-- those stations, where at most as many may vote at them as an allotment can have votes
abbrev pub with_few_entitled : Holder → List Station → Result (List Station) Placed
with_few_entitled con stations =
    in_entry (constituency_way con) (if nat_le (sum_by entitled stations) most_votes
    then Ok stations else Err (over_limit (codes "electors")))

-- `station` of a constituency, which has at most this many, after these constituencies
unfoldable pub read_stations : List Constituency → Holder → ℕ → Data → Result (List Station) Placed
read_stations before con limit entry = do
  stations ← read_each_station before con limit entry
  with_few_entitled con stations

-- the profile of a code
abbrev pub profile_with : List ℕ → List (List ℕ × Profile) → Option Profile
profile_with code profiles = lookup (bytes_eq code) profiles

-- what an entry of `constituency` has beside its code, after these, of this constituency
unfoldable pub rest_of_constituency : List (List ℕ × Profile) → List Constituency → Holder → Data →
    Result Constituency Placed
rest_of_constituency profiles before con entry = do
  name ← in_entry (constituency_way con) (read_name entry)
  seats ← in_entry (constituency_way con) (read_number (codes "seats") 1 most_seats entry)
  profile_code ← in_entry (constituency_way con) (read_code (codes "profile") entry)
  profile ← in_entry
      (constituency_way con) (ok_or (profile_with profile_code profiles) unknown_profile)
  needed ← in_entry (constituency_way con) (read_entry entry)
  limit ← in_entry (constituency_way con) (read_station_limit entry)
  lists ← read_lists con entry
  stations ← read_stations before con limit entry
  Ok (record {
    code = con.code;
    name = name;
    seats = seats;
    profile_code = profile_code;
    profile = profile;
    entry = needed;
    lists = lists;
    stations = stations;
  })

-- an entry of `constituency`, after these
unfoldable pub constituency_entry : List (List ℕ × Profile) → List Constituency → Data →
    Result Constituency Placed
constituency_entry profiles before entry = do
  code ← next_code Constituencies (constituency_codes before) entry
  rest_of_constituency profiles before (record { number = length before + 1; code = code }) entry

-- `profile` of the document
unfoldable pub read_profiles : Data → Result (List (List ℕ × Profile)) Placed
read_profiles document = do
  entries ← nowhere (read_array is_table (codes "profile") most_profiles document)
  in_turn (λ before. profile_entry (profile_codes before)) [] entries

-- `constituency` of the document
unfoldable pub read_constituencies : List (List ℕ × Profile) → Data
    → Result (List Constituency) Placed
read_constituencies profiles document = do
  entries ← nowhere (read_array is_table (codes "constituency") most_constituencies document)
  in_turn (constituency_entry profiles) [] entries

-- ---- the text

-- the table that the bytes are in TOML
unfoldable pub document_of : List ℕ → Result Data Placed
document_of bytes =
    if is_utf8 bytes then ok_or (option_map table (parse_document bytes)) (not_toml, None)
    else Err (not_toml, None)

-- what a text reads as
abbrev pub Reading : Type 0
Reading = Result (List Constituency) Placed

-- the setup of a document: its profiles, and then its constituencies
unfoldable pub setup_of : Data → Result (List Constituency) Placed
setup_of document = do
  profiles ← read_profiles document
  read_constituencies profiles document

-- the setup of a text, which has at most 8,388,608 bytes
unfoldable pub setup_of_text : List ℕ → Result (List Constituency) Placed
setup_of_text text =
    if nat_lt 8388608 (length text) then Err (over_limit (codes "text"), None)
    else (document_of text >>= setup_of)
