-- A register, and the rows that it has taken.
use Rattle.std.proofs.Common.{◌≡◌, ◌+◌, ◌++◌, ◌∷◌, ◌∙◌, ℕ, List, [], Bool, true, false, cond, Option, Some, None, Result, Err, length, refl, sym, ap, subst, option_map}
use Rattle.std.specs.Prelude.{◌≢◌, not, if◌then◌else◌, nat_eq, count_by}
use Rattle.std.specs.Cmp.Lexicographic.{pointwise}
use Rattle.std.specs.FinMap as map
use Rattle.std.specs.HashMap as table
use Rattle.std.proofs.lemmas.List.{append-nil}
use Rattle.std.proofs.lemmas.List.Elements.{filter-append}
use Rattle.std.proofs.lemmas.List.Sums.{sum_by_push}
use Rattle.tally_setup.specs.Constituency.{Constituency, entitled}
use Rattle.tally_setup.specs.declared.constituency.Entry.TheVariants.{Single}
use Rattle.tally_setup.specs.declared.constituency.Station.{Station}
use Rattle.tally_returns.specs.Counts.{VoteCounts}
use Rattle.tally_returns.specs.Decide.{limits_of, station_in}
use Rattle.tally_returns.specs.Lodge.{Stations, limits_for, lodge, lodge_answer, reply_at_code, reply_at_station}
use Rattle.tally_returns.specs.Return.{StationReturn, Returns}
use Rattle.tally_returns.specs.declared.ask.Ask.{Ask}
use Rattle.tally_returns.specs.declared.ask.Ask.TheVariants as ask
use Rattle.tally_returns.specs.declared.ask.Ask.TheVariants.{Lodge}
use Rattle.tally_returns.specs.declared.refusal.Refusal.{Refusal}
use Rattle.tally_returns.specs.declared.refusal.Refusal.TheVariants.{NoStation}
use Rattle.tally_returns.specs.declared.reply.LodgeReply.{LodgeReply}
use Rattle.tally_returns_rows.specs.Import.{RowAnswer, after_row, answers, is_lodged, returns_after_import, row_answer}
use Rattle.tally_returns_rows.specs.declared.import.Row.{Row}
use Rattle.tally_returns_rows.specs.declared.import.Row.TheVariants as row
use Rattle.tally_returns_rows.proofs.RowsLemmas.{answers-push, imported-push}
use Rattle.tally_import.specs.ReturnRows.{station_limits_in}
use Rattle.tally_import.specs.internal.Table.{Holds, Table}
use Rattle.tally_import_recount.specs.Counted.{answers_judged, is_left_out, is_passed, returns_judged, rows_judged}
use Rattle.tally_import_recount.specs.declared.register.Register.{Register}
use Rattle.tally_import_recount.specs.internal.Register.{HasStations, HasTaken, Numbers}

-- ---- what is answered, by the tables

-- the limits of a station, by how many may vote there
limits-by : (con : Constituency) (o : Option Station)
    → option_map (limits_of con) o ≡ option_map (λ n. limits_for (length con.lists) n con.entry) (option_map entitled o)
limits-by con None = refl
limits-by con (Some station) = refl

limits-held : (con : Constituency) (numbers : Numbers) (code : List ℕ) → HasStations con numbers
    → station_limits_in con code ≡ option_map (λ n. limits_for (length con.lists) n con.entry) (table.get (pointwise nat_eq) numbers code)
limits-held con numbers code has = limits-by con (station_in con code) ∙ ap (option_map (λ n. limits_for (length con.lists) n con.entry)) (sym (has code))

-- at a code that is no station
pub answer-nowhere : (con : Constituency) (numbers : Numbers) (s : Returns) (station slip : List ℕ) (counts : VoteCounts) → HasStations con numbers
    → table.get (pointwise nat_eq) numbers station ≡ None
    → lodge_answer (station_limits_in con) s station slip counts ≡ Err NoStation
answer-nowhere con numbers s station slip counts has none =
    ap (λ l. reply_at_code l (map.get s station) slip counts)
    (limits-held con numbers station has ∙ ap (option_map (λ n. limits_for (length con.lists) n con.entry)) none)

-- at a station
pub answer-there : (con : Constituency) (numbers : Numbers) (held : Table) (s : Returns) (lists n : ℕ) (station slip : List ℕ) (counts : VoteCounts)
    (found : Option StationReturn) (result : Result LodgeReply Refusal)
    → lists ≡ length con.lists → HasStations con numbers → Holds held s
    → table.get (pointwise nat_eq) numbers station ≡ Some n
    → found ≡ table.get (pointwise nat_eq) held station
    → result ≡ reply_at_station (limits_for lists n Single) found slip counts
    → lodge_answer (station_limits_in con) s station slip counts ≡ result
answer-there con numbers held s lists n station slip counts found result same has holds there is decided =
    ap (λ l. reply_at_code l (map.get s station) slip counts)
    (limits-held con numbers station has ∙ ap (option_map (λ m. limits_for (length con.lists) m con.entry)) there)
    ∙ ap (λ f. reply_at_station (limits_for (length con.lists) n con.entry) f slip counts) (sym (is ∙ holds station))
    ∙ ap (λ k. reply_at_station (limits_for k n Single) found slip counts) (sym same)
    ∙ sym decided

-- ---- one row more

judged-push : (words : List (List ℕ)) (rows : List Row) (r : Row) (b : Bool) → is_left_out words r ≡ b
    → rows_judged words (rows ++ r ∷ []) ≡ rows_judged words rows ++ (if b then [] else r ∷ [])
judged-push words rows r b is =
    filter-append (λ q. not (is_left_out words q)) rows (r ∷ [])
    ∙ ap (λ l. rows_judged words rows ++ l) (ap (λ c. cond (not c) (r ∷ []) []) is ∙ go b)
  where
    go : (c : Bool) → cond (not c) (r ∷ []) [] ≡ (if c then [] else r ∷ [])
    go true = refl
    go false = refl

-- a row of a station that is left out changes nothing
pub taken-left_out : (con : Constituency) (words : List (List ℕ)) (rows : List Row) (r : Row) (register : Register) → is_left_out words r ≡ true
    → HasTaken con words rows register → HasTaken con words (rows ++ r ∷ []) register
taken-left_out con words rows r register out h =
    let same : rows_judged words (rows ++ r ∷ []) ≡ rows_judged words rows = judged-push words rows r true out ∙ append-nil (rows_judged words rows) in
    record {
      lists = h.lists;
      stations = h.stations;
      left_out = h.left_out;
      table = subst (λ l. Holds register.returns (returns_after_import (station_limits_in con) map.empty l)) (sym same) h.table;
      passed = h.passed ∙ ap (λ l. count_by is_passed (answers (station_limits_in con) map.empty l)) (sym same);
    }

count-push : (answered : List RowAnswer) (a : RowAnswer) (b : Bool) → is_lodged a ≡ b
    → count_by is_passed (answered ++ a ∷ []) ≡ count_by is_passed answered + (if b then 0 else 1)
count-push answered a b is =
    sum_by_push (λ x. cond (is_passed x) 1 0) answered a ∙ ap (λ n. count_by is_passed answered + n) one
  where
    go : (c : Bool) → ◌≡◌ {A = ℕ} (cond (not c) 1 0) (if c then 0 else 1)
    go true = refl
    go false = refl

    one : ◌≡◌ {A = ℕ} (cond (is_passed a) 1 0) (if b then 0 else 1)
    one = ap (λ c. cond (not c) 1 0) is ∙ go b

-- another row is judged: it was lodged or not
pub taken-judged : (con : Constituency) (words : List (List ℕ)) (rows : List Row) (r : Row) (old new : Register) (b : Bool) → is_left_out words r ≡ false
    → HasTaken con words rows old
    → new.lists ≡ old.lists → new.entitled ≡ old.entitled → new.left_out ≡ old.left_out
    → Holds new.returns (after_row (station_limits_in con) (returns_judged con words rows) r)
    → is_lodged (row_answer (station_limits_in con) (returns_judged con words rows) r) ≡ b
    → new.passed ≡ old.passed + (if b then 0 else 1)
    → HasTaken con words (rows ++ r ∷ []) new
taken-judged con words rows r old new b judged h lists entitled left_out held lodged passed =
    let s = station_limits_in con in
    let more : rows_judged words (rows ++ r ∷ []) ≡ rows_judged words rows ++ r ∷ [] = judged-push words rows r false judged in
    record {
      lists = lists ∙ h.lists;
      stations = subst (HasStations con) (sym entitled) h.stations;
      left_out = rw left_out h.left_out;
      table = subst (Holds new.returns)
          (sym (ap (returns_after_import s map.empty) more ∙ imported-push s map.empty (rows_judged words rows) r)) held;
      passed = passed
          ∙ ap (λ n. n + (if b then 0 else 1)) h.passed
          ∙ sym (count-push (answers_judged con words rows) (row_answer s (returns_judged con words rows) r) b lodged)
          ∙ ap (count_by is_passed) (sym (ap (answers s map.empty) more ∙ answers-push s map.empty (rows_judged words rows) r));
    }

-- a row that is judged and brings nothing
pub taken-nothing : (con : Constituency) (words : List (List ℕ)) (rows : List Row) (r : Row) (old new : Register) → is_left_out words r ≡ false
    → after_row (station_limits_in con) (returns_judged con words rows) r ≡ returns_judged con words rows
    → is_lodged (row_answer (station_limits_in con) (returns_judged con words rows) r) ≡ false
    → new ≡ record old { passed = old.passed + 1 }
    → HasTaken con words rows old → HasTaken con words (rows ++ r ∷ []) new
taken-nothing con words rows r old new judged same lodged counted h =
    let held : Holds new.returns (returns_judged con words rows) = subst (λ (t : Table). Holds t (returns_judged con words rows)) (sym (ap (λ (x : Register). x.returns) counted)) h.table in
    taken-judged con words rows r old new false judged h
    (ap (λ (x : Register). x.lists) counted) (ap (λ (x : Register). x.entitled) counted) (ap (λ (x : Register). x.left_out) counted)
    (subst (Holds new.returns) (sym same) held) lodged (ap (λ (x : Register). x.passed) counted)

-- a Lodge
pub taken-lodge : (con : Constituency) (words : List (List ℕ)) (rows : List Row) (station slip : List ℕ) (counts : VoteCounts) (old mid new : Register) (b : Bool)
    → is_left_out words (row.Lodge (Lodge station slip counts)) ≡ false
    → mid ≡ record old { returns = mid.returns }
    → new ≡ record mid { passed = mid.passed + (if b then 0 else 1) }
    → HasTaken con words rows old
    → Holds mid.returns (lodge (station_limits_in con) (returns_judged con words rows) station slip counts)
    → b ≡ is_lodged (Some (lodge_answer (station_limits_in con) (returns_judged con words rows) station slip counts))
    → HasTaken con words (rows ++ row.Lodge (Lodge station slip counts) ∷ []) new
taken-lodge con words rows station slip counts old mid new b judged kept counted h held lodged =
    taken-judged con words rows (row.Lodge (Lodge station slip counts)) old new b judged h
    (ap (λ (x : Register). x.lists) counted ∙ ap (λ (x : Register). x.lists) kept)
    (ap (λ (x : Register). x.entitled) counted ∙ ap (λ (x : Register). x.entitled) kept)
    (ap (λ (x : Register). x.left_out) counted ∙ ap (λ (x : Register). x.left_out) kept)
    (subst (λ (t : Table). Holds t (lodge (station_limits_in con) (returns_judged con words rows) station slip counts)) (sym (ap (λ (x : Register). x.returns) counted)) held)
    (sym lodged)
    (ap (λ (x : Register). x.passed) counted ∙ ap (λ (x : Register). x.passed + (if b then 0 else 1)) kept)

-- another request than Lodge brings nothing
pub other-ask : (a : Ask) → ((station slip : List ℕ) (counts : VoteCounts) → a ≢ Lodge station slip counts) → (words : List (List ℕ)) (stations : Stations) (returns : Returns)
    → (is_left_out words (row.Lodge a) ≡ false) × (after_row stations returns (row.Lodge a) ≡ returns) × (is_lodged (row_answer stations returns (row.Lodge a)) ≡ false)
other-ask (Lodge station slip counts) other words stations returns = absurd (other station slip counts refl)
other-ask (ask.Query station rev note) other words stations returns = (refl, refl, refl)
other-ask (ask.Correct station rev slip counts) other words stations returns = (refl, refl, refl)
other-ask (ask.Close station rev) other words stations returns = (refl, refl, refl)
other-ask (ask.Confirm station rev slip counts) other words stations returns = (refl, refl, refl)
other-ask (ask.ShowReturn station) other words stations returns = (refl, refl, refl)
other-ask (ask.Draw con edition order) other words stations returns = (refl, refl, refl)
other-ask (ask.Certify con edition) other words stations returns = (refl, refl, refl)
other-ask (ask.Reopen con edition note) other words stations returns = (refl, refl, refl)
other-ask (ask.Vacate con list place note) other words stations returns = (refl, refl, refl)
other-ask (ask.ShowCon con) other words stations returns = (refl, refl, refl)
other-ask ask.ShowProgress other words stations returns = (refl, refl, refl)
