-- Which command a JSON body is (RFC 8259, as `serde_json` reads it).
use Rattle.std.specs.Prelude.{◌≡◌, ℕ, List, [], ◌∷◌, codes, nat_le, if◌then◌else◌, Option, Some}
use Rattle.std.specs.Prelude.{None, IsUtf8}
use Rattle.std.specs.Option.{option_and_then}
use Rattle.serde_json.specs.Data.{Data, Items, no_items, item}
use Rattle.serde_json.specs.Read.{read}
use Rattle.serde_json.specs.Find.{get, as_array, as_number, as_str, as_u64}
use Rattle.tally_setup.specs.Code.{code_of}
use Rattle.tally_returns.specs.AskSeen.{AskSeen, lodge, query, correct, close, confirm, draw}
use Rattle.tally_returns.specs.AskSeen.{certify, reopen, vacate}
use Rattle.tally_returns.specs.Counts.{VoteCounts}
use Rattle.tally_desk_routes.specs.declared.routes.ConCommand.{ConCommand}
use Rattle.tally_desk_routes.specs.declared.routes.ConCommand.TheVariants as on_con
use Rattle.tally_desk_routes.specs.declared.routes.StationCommand.{StationCommand}
use Rattle.tally_desk_routes.specs.declared.routes.StationCommand.TheVariants as on_station

-- the value that a body is, or none
abbrev pub IsBody : List ℕ → Option Data → Type 0
IsBody body (Some value) = IsUtf8 body × (read body ≡ Some value)
IsBody body None = IsUtf8 body → read body ≡ None

-- one step after another, as far as something is missing
infixl 10 ◌>>=◌
abbrev pub ◌>>=◌ : {A B : Type 0} → Option A → (A → Option B) → Option B
Some a >>= step = step a
None >>= step = None

abbrev pub within_u32 : ℕ → Option ℕ
within_u32 n = if nat_le n 4294967295 then Some n else None

-- a whole number from 0 to 4,294,967,295
abbrev pub as_whole : Data → Option ℕ
as_whole value = option_and_then within_u32 (option_and_then as_u64 (as_number value))

abbrev pub number_under : List ℕ → Data → Option ℕ
number_under key body = option_and_then as_whole (get key body)

abbrev pub text_under : List ℕ → Data → Option (List ℕ)
text_under key body = option_and_then as_str (get key body)

abbrev pub as_code : Data → Option (List ℕ)
as_code value = option_and_then code_of (as_str value)

abbrev pub code_under : List ℕ → Data → Option (List ℕ)
code_under key body = option_and_then as_code (get key body)

-- what each member of an array is, where each is one
abbrev pub all_items : {A : Type 0} → (Data → Option A) → Items → Option (List A)
all_items member no_items = Some []
all_items member (item value values) = do
  first ← member value
  others ← all_items member values
  Some (first ∷ others)

abbrev pub numbers_under : List ℕ → Data → Option (List ℕ)
numbers_under key body =
    option_and_then (all_items as_whole) (option_and_then as_array (get key body))

abbrev pub codes_under : List ℕ → Data → Option (List (List ℕ))
codes_under key body = option_and_then (all_items as_code) (option_and_then as_array (get key body))

unfoldable pub counts_of_body : Data → Option VoteCounts
counts_of_body body = do
  blank ← number_under (codes "blank") body
  spoiled ← number_under (codes "spoiled") body
  votes ← numbers_under (codes "votes") body
  Some (record { votes = votes; blank = blank; spoiled = spoiled })

unfoldable pub lodge_in : List ℕ → Data → Option AskSeen
lodge_in station body = do
  slip ← code_under (codes "slip") body
  counts ← counts_of_body body
  Some (lodge station slip counts)

unfoldable pub query_in : List ℕ → Data → Option AskSeen
query_in station body = do
  rev ← number_under (codes "rev") body
  note ← text_under (codes "note") body
  Some (query station rev note)

unfoldable pub correct_in : List ℕ → Data → Option AskSeen
correct_in station body = do
  rev ← number_under (codes "rev") body
  slip ← code_under (codes "slip") body
  counts ← counts_of_body body
  Some (correct station rev slip counts)

unfoldable pub close_in : List ℕ → Data → Option AskSeen
close_in station body = do
  rev ← number_under (codes "rev") body
  Some (close station rev)

unfoldable pub confirm_in : List ℕ → Data → Option AskSeen
confirm_in station body = do
  rev ← number_under (codes "rev") body
  slip ← code_under (codes "slip") body
  counts ← counts_of_body body
  Some (confirm station rev slip counts)

unfoldable pub draw_in : List ℕ → Data → Option AskSeen
draw_in con body = do
  edition ← number_under (codes "edition") body
  order ← codes_under (codes "order") body
  Some (draw con edition order)

unfoldable pub certify_in : List ℕ → Data → Option AskSeen
certify_in con body = do
  edition ← number_under (codes "edition") body
  Some (certify con edition)

unfoldable pub reopen_in : List ℕ → Data → Option AskSeen
reopen_in con body = do
  edition ← number_under (codes "edition") body
  note ← text_under (codes "note") body
  Some (reopen con edition note)

unfoldable pub vacate_in : List ℕ → Data → Option AskSeen
vacate_in con body = do
  list ← code_under (codes "list") body
  place ← number_under (codes "place") body
  note ← text_under (codes "note") body
  Some (vacate con list place note)

-- The command that a JSON value is, of one of these commands on the station or the constituency of
-- this code.
abbrev pub station_command : StationCommand → List ℕ → Data → Option AskSeen
station_command on_station.Lodge station body = lodge_in station body
station_command on_station.Query station body = query_in station body
station_command on_station.Correct station body = correct_in station body
station_command on_station.Close station body = close_in station body
station_command on_station.Confirm station body = confirm_in station body

abbrev pub con_command : ConCommand → List ℕ → Data → Option AskSeen
con_command on_con.Draw con body = draw_in con body
con_command on_con.Certify con body = certify_in con body
con_command on_con.Reopen con body = reopen_in con body
con_command on_con.Vacate con body = vacate_in con body

-- The command that a body is, by what each JSON value is: none, where it is no such command.
abbrev pub IsCommand : (Data → Option AskSeen) → List ℕ → Option AskSeen → Type 0
IsCommand command body seen =
    (value : Option Data) × IsBody body value × (seen ≡ option_and_then command value)
