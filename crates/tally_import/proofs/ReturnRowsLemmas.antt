-- What comes of a text, by the records that were given of it.
use Rattle.std.proofs.Common.{◌≡◌, ◌<◌, ◌≤◌, ◌+◌, ◌++◌, ◌∷◌, ◌∙◌, ℕ, Bool, zero, suc, List, [], true, false, Option, Some, None, length, take, drop, map, refl, sym, ap, subst, arith, add-one, length-append, append_assoc, inl, inr}
use Rattle.std.specs.Prelude.{◌≢◌, if◌then◌else◌, nat_lt, option_map, is_some, IfSome, Result, Ok, Err}
use Rattle.std.proofs.lemmas.Bool.{lt-ltb, le-ltb}
use Rattle.std.specs.HashSet.{contains}
use Rattle.std.specs.List.{list_any}
use Rattle.std.specs.Str.{bytes_eq}
use Rattle.tally_setup.specs.Constituency.{Constituency, list_codes, station_codes}
use Rattle.tally_returns.specs.Lodge.{Stations}
use Rattle.tally_returns_rows.specs.Given.{with_given}
use Rattle.tally_returns_rows.specs.Source.{Coming, GivesNext, at_end, row_limit}
use Rattle.tally_returns_rows.specs.declared.import.Row.{Row}
use Rattle.tally_returns_rows.specs.declared.source.ImportFault.{ImportFault}
use Rattle.tally_returns_rows.specs.declared.source.ImportFault.TheVariants as cause
use Rattle.tally_import_records.specs.Input.{AreAll, complete_records, text_records, text_stop}
use Rattle.tally_import_records.specs.Given.{HasGiven, IsReadingOn, sep_of}
use Rattle.tally_import.specs.ReturnRows.{Advances, AllRowsCame, GivesRow, IsAtStage, IsNext, IsReadingRows, IsTrueAt, coming_after, bytes_coming, records_coming, import_fault, is_header, fault_without_header, came_by, ending, fault_alone, rows_coming, station_limits_in, still_coming, text_coming}
use Rattle.tally_import.specs.ReturnRowsValue.{coming_at, own_fault}
use Rattle.tally_import.specs.Rows.{row_of}
use Rattle.tally_import_records.specs.declared.end.Stop.{Stop}
use Rattle.tally_import_records.specs.declared.end.Stop.TheVariants.{TooLong, Read}
use Rattle.tally_import_records.specs.RecordsValue.{Records}
use Rattle.tally_import.specs.declared.return_rows.Rows.{Rows}
use Rattle.tally_import.specs.declared.return_rows.Stage.{Stage}
use Rattle.tally_import.specs.declared.return_rows.Stage.TheVariants.{Unread, Reading, Ended}
use Rattle.tally_import_records.specs.declared.separator.Sep.{Sep}
use Rattle.tally_import.proofs.ConstituencyLemmas.{is_some-stations}
use Rattle.tally_import_records.proofs.GivenLemmas.{AreAll-text, HasGiven-front}
use Rattle.tally_import_records.proofs.PieceLemmas.{drop-nothing}

-- ---- rows of records

-- the row of the record after the first n
pub row-at : {X Y : Type 0} (f : X → Y) (limit n : ℕ) (given : List X) (x : X) (after : List X) → length given ≡ n → n < limit
    → (rest : List Y) × (drop n (map f (take limit (given ++ x ∷ after))) ≡ f x ∷ rest) × (drop (suc n) (map f (take limit (given ++ x ∷ after))) ≡ rest)
row-at f zero n given x after count within = absurd (omega (arith, within))
row-at f (suc l) zero [] x after count within = (map f (take l after), refl, refl)
row-at f (suc l) zero (g ∷ given) x after count within = absurd (omega (arith, count))
row-at f (suc l) (suc n) [] x after count within = absurd (omega (arith, count))
row-at f (suc l) (suc n) (g ∷ given) x after count within = row-at f l n given x after (omega (arith, count)) (omega (arith, within))

-- no row is left after all of them
pub rows-over : {X Y : Type 0} (f : X → Y) (limit n : ℕ) (given : List X) → length given ≤ n → drop n (map f (take limit given)) ≡ []
rows-over f zero n given count = drop-nothing n
rows-over f (suc l) n [] count = drop-nothing n
rows-over f (suc l) zero (g ∷ given) count = absurd (omega (arith, count))
rows-over f (suc l) (suc n) (g ∷ given) count = rows-over f l n given (omega (arith, count))

-- nor after as many as may come
pub rows-full : {X Y : Type 0} (f : X → Y) (limit : ℕ) (xs : List X) → drop limit (map f (take limit xs)) ≡ []
rows-full f zero xs = refl
rows-full f (suc l) [] = drop-nothing (suc l)
rows-full f (suc l) (x ∷ xs) = rows-full f l xs

-- ---- what comes after a header

pub header-coming : (con : Constituency) (header : List (List ℕ)) (records : List (List (List ℕ))) (stop : Option Stop)
    → is_header (list_codes con.lists) header ≡ true → records_coming con (header ∷ records) stop ≡ rows_coming con records stop
header-coming con header records stop is = ap (λ b. if b then rows_coming con records stop else fault_alone (Some cause.BadHeader)) is

pub other-coming : (con : Constituency) (header : List (List ℕ)) (records : List (List (List ℕ))) (stop : Option Stop)
    → is_header (list_codes con.lists) header ≡ false → records_coming con (header ∷ records) stop ≡ fault_alone (Some cause.BadHeader)
other-coming con header records stop is = ap (λ b. if b then rows_coming con records stop else fault_alone (Some cause.BadHeader)) is

-- ---- what is given next

import_fault-own : (stop : Stop) → import_fault stop ≢ cause.Store
import_fault-own TooLong e = cc
import_fault-own Read e = cc

not-long : (n : ℕ) (stop : Option Stop) → n ≤ row_limit → (if nat_lt row_limit n then Some cause.TooLong else option_map import_fault stop) ≡ option_map import_fault stop
not-long n stop within = ap (λ b. if b then Some cause.TooLong else option_map import_fault stop) (le-ltb row_limit n within)

-- what comes of a text whose records are the header and these
whole-coming : (con : Constituency) (sep : Sep) (text : List ℕ) (header : List (List ℕ)) (given : List (List (List ℕ))) (stop : Option Stop) (came : ℕ)
    → is_header (list_codes con.lists) header ≡ true → length given ≡ came → came ≤ row_limit
    → text_records sep text ≡ header ∷ given → text_stop text ≡ stop → coming_after came (text_coming con sep text) ≡ fault_alone (option_map import_fault stop)
whole-coming con sep text header given stop came good count within records how =
    let f = row_of (station_limits_in con) (length con.lists) in
    let coming : text_coming con sep text ≡ rows_coming con given stop =
    ap (λ l. records_coming con l (text_stop text)) records ∙ ap (records_coming con (header ∷ given)) how ∙ header-coming con header given stop good in
    ap (coming_after came) coming
    ∙ ap (λ (rows : List Row). record { rows = rows; fault = (rows_coming con given stop).fault }) (rows-over f row_limit came given (omega (arith, count)))
    ∙ ap fault_alone (not-long (length given) stop (omega (arith, count, within)))

-- what comes of bytes whose complete records are the header and these
pub bytes-coming : (con : Constituency) (sep : Sep) (bytes : List ℕ) (header : List (List ℕ)) (given : List (List (List ℕ))) (stop : Option Stop) (came : ℕ)
    → is_header (list_codes con.lists) header ≡ true → length given ≡ came → came ≤ row_limit
    → complete_records sep bytes stop ≡ header ∷ given → coming_after came (bytes_coming con sep bytes stop) ≡ fault_alone (option_map import_fault stop)
bytes-coming con sep bytes header given stop came good count within records =
    let f = row_of (station_limits_in con) (length con.lists) in
    let coming : bytes_coming con sep bytes stop ≡ rows_coming con given stop =
    ap (λ l. records_coming con l stop) records ∙ header-coming con header given stop good in
    ap (coming_after came) coming
    ∙ ap (λ (rows : List Row). record { rows = rows; fault = (rows_coming con given stop).fault }) (rows-over f row_limit came given (omega (arith, count)))
    ∙ ap fault_alone (not-long (length given) stop (omega (arith, count, within)))

-- all rows that were complete before a failed read came
pub rows-read : (con : Constituency) (sep : Sep) (text left : Option (List ℕ)) (header : List (List ℕ)) (given : List (List (List ℕ))) (came : ℕ)
    → is_header (list_codes con.lists) header ≡ true → length given ≡ came → came ≤ row_limit
    → AreAll sep text left (header ∷ given) (Some Read) → IfSome text (λ t. AllRowsCame con sep came t left)
rows-read con sep None left header given came good count within all = tt
rows-read con sep (Some text) left header given came good count within all =
    (all.0, all.1, bytes-coming con sep all.0 header given (Some Read) came good count within all.2)

-- a read failed before a record was complete
pub header-read : (con : Constituency) (sep : Sep) (text left : Option (List ℕ)) (stop : Option Stop)
    → AreAll sep text left [] stop → fault_without_header stop ≡ cause.Read → IfSome text (λ t. AllRowsCame con sep 0 t left)
header-read con sep text left None all is = cc
header-read con sep text left (Some TooLong) all is = cc
header-read con sep None left (Some Read) all is = tt
header-read con sep (Some text) left (Some Read) all is = (all.0, all.1, ap (λ l. coming_after 0 (records_coming con l (Some Read))) all.2)

pub rows-end : (con : Constituency) (sep : Sep) (text left : Option (List ℕ)) (header : List (List ℕ)) (given : List (List (List ℕ))) (came : ℕ)
    → is_header (list_codes con.lists) header ≡ true → length given ≡ came → came ≤ row_limit
    → AreAll sep text left (header ∷ given) None → IfSome text (λ t. coming_after came (text_coming con sep t) ≡ fault_alone None)
rows-end con sep None left header given came good count within all = tt
rows-end con sep (Some text) left header given came good count within all =
    let h = AreAll-text sep text left (header ∷ given) None all (λ e. cc) in
    whole-coming con sep text header given None came good count within h.0 h.1

pub rows-stop : (con : Constituency) (sep : Sep) (text left : Option (List ℕ)) (header : List (List ℕ)) (given : List (List (List ℕ))) (came : ℕ) (stop : Stop)
    → is_header (list_codes con.lists) header ≡ true → length given ≡ came → came ≤ row_limit
    → AreAll sep text left (header ∷ given) (Some stop) → IsNext text (λ t. coming_after came (text_coming con sep t)) (import_fault stop)
rows-stop con sep text left header given came Read good count within all = (import_fault-own Read, inl tt)
rows-stop con sep None left header given came TooLong good count within all = (import_fault-own TooLong, inr tt)
rows-stop con sep (Some text) left header given came TooLong good count within all =
    let h = AreAll-text sep text left (header ∷ given) (Some TooLong) all (λ e. cc) in
    let is = whole-coming con sep text header given (Some TooLong) came good count within h.0 h.1 in
    (import_fault-own TooLong, inr (ap (λ c. c.rows) is, ap (λ c. c.fault) is))

-- what comes of a text that begins with the header and these records
front-coming : (con : Constituency) (r : Records) (text : List ℕ) (left : Option (List ℕ)) (header : List (List ℕ)) (given : List (List (List ℕ)))
    → is_header (list_codes con.lists) header ≡ true → HasGiven (Some text) left (header ∷ given) r
    → (more : List (List (List ℕ))) × (text_coming con (sep_of r) text ≡ rows_coming con (given ++ more) (text_stop text))
front-coming con r text left header given good has =
    let front = HasGiven-front text left (header ∷ given) r has in
    (front.0, ap (λ l. records_coming con l (text_stop text)) front.1 ∙ header-coming con header (given ++ front.0) (text_stop text) good)

pub rows-next : (con : Constituency) (r : Records) (text left : Option (List ℕ)) (header fields : List (List ℕ)) (given : List (List (List ℕ))) (came : ℕ)
    → is_header (list_codes con.lists) header ≡ true → length given ≡ came → came < row_limit
    → HasGiven text left (header ∷ (given ++ fields ∷ [])) r
    → IfSome text (λ t. (rest : List Row) × (drop came (text_coming con (sep_of r) t).rows ≡ row_of (station_limits_in con) (length con.lists) fields ∷ rest)
    × (drop (came + 1) (text_coming con (sep_of r) t).rows ≡ rest))
rows-next con r None left header fields given came good count within has = tt
rows-next con r (Some text) left header fields given came good count within has =
    let f = row_of (station_limits_in con) (length con.lists) in
    let front = front-coming con r text left header (given ++ fields ∷ []) good has in
    let rows : (text_coming con (sep_of r) text).rows ≡ map f (take row_limit (given ++ fields ∷ front.0)) =
    ap (λ c. c.rows) front.1 ∙ ap (λ l. map f (take row_limit l)) (append_assoc given (fields ∷ []) front.0) in
    let at = row-at f row_limit came given fields front.0 count within in
    (at.0, ap (drop came) rows ∙ at.1, ap (λ n. drop n (text_coming con (sep_of r) text).rows) (add-one came) ∙ ap (drop (suc came)) rows ∙ at.2)

pub rows-many : (con : Constituency) (r : Records) (text left : Option (List ℕ)) (header fields : List (List ℕ)) (given : List (List (List ℕ)))
    → is_header (list_codes con.lists) header ≡ true → length given ≡ row_limit
    → HasGiven text left (header ∷ (given ++ fields ∷ [])) r → IsNext text (λ t. coming_after row_limit (text_coming con (sep_of r) t)) cause.TooLong
rows-many con r None left header fields given good count has = ((λ e. cc), inr tt)
rows-many con r (Some text) left header fields given good count has =
    let f = row_of (station_limits_in con) (length con.lists) in
    let front = front-coming con r text left header (given ++ fields ∷ []) good has in
    let all = (given ++ fields ∷ []) ++ front.0 in
    let many : row_limit < length all = omega (arith, count, length-append (given ++ fields ∷ []) front.0, length-append given (fields ∷ [])) in (
      (λ e. cc),
      inr (
        ap (λ c. drop row_limit c.rows) front.1 ∙ rows-full f row_limit all,
        ap (λ c. c.fault) front.1 ∙ ap (λ b. if b then Some cause.TooLong else option_map import_fault (text_stop text)) (lt-ltb row_limit (length all) many),
      ),
    )

-- ---- the header

pub header-stop : (con : Constituency) (sep : Sep) (text left : Option (List ℕ)) (stop : Option Stop)
    → AreAll sep text left [] stop → IsNext text (text_coming con sep) (fault_without_header stop)
header-stop con sep None left None all = ((λ e. cc), inr tt)
header-stop con sep (Some text) left None all =
    let h = AreAll-text sep text left [] None all (λ e. cc) in
    let is : text_coming con sep text ≡ fault_alone (Some cause.BadHeader) = ap (λ l. records_coming con l (text_stop text)) h.0 ∙ ap (records_coming con []) h.1 in
    ((λ e. cc), inr (ap (λ c. c.rows) is, ap (λ c. c.fault) is))
header-stop con sep text left (Some Read) all = (import_fault-own Read, inl tt)
header-stop con sep None left (Some TooLong) all = (import_fault-own TooLong, inr tt)
header-stop con sep (Some text) left (Some TooLong) all =
    let h = AreAll-text sep text left [] (Some TooLong) all (λ e. cc) in
    let is : text_coming con sep text ≡ fault_alone (Some cause.TooLong) = ap (λ l. records_coming con l (text_stop text)) h.0 ∙ ap (records_coming con []) h.1 in
    (import_fault-own TooLong, inr (ap (λ c. c.rows) is, ap (λ c. c.fault) is))

pub header-bad : (con : Constituency) (r : Records) (text left : Option (List ℕ)) (header : List (List ℕ))
    → is_header (list_codes con.lists) header ≡ false → HasGiven text left (header ∷ []) r → IsNext text (text_coming con (sep_of r)) cause.BadHeader
header-bad con r None left header bad has = ((λ e. cc), inr tt)
header-bad con r (Some text) left header bad has =
    let front = HasGiven-front text left (header ∷ []) r has in
    let is : text_coming con (sep_of r) text ≡ fault_alone (Some cause.BadHeader) =
    ap (λ l. records_coming con l (text_stop text)) front.1 ∙ other-coming con header front.0 (text_stop text) bad in
    ((λ e. cc), inr (ap (λ c. c.rows) is, ap (λ c. c.fault) is))

-- ---- the rows at work

-- every header and the records after it that may have been given
abbrev pub Step : Option (List ℕ) → Option (List ℕ) → Records → List (List ℕ) → Records → Type 0
Step old_left left old fields new =
    (text : Option (List ℕ)) (given : List (List (List ℕ))) → HasGiven text old_left given old → HasGiven text left (given ++ fields ∷ []) new

abbrev pub Over : Option (List ℕ) → Option (List ℕ) → Records → Option Stop → Type 0
Over old_left left old stop =
    (text : Option (List ℕ)) (given : List (List (List ℕ))) → HasGiven text old_left given old → AreAll (sep_of old) text left given stop

-- the rows came to their end, or were stopped
pub rows-ended : (text old_left left : Option (List ℕ)) (con : Constituency) (sep : Sep) (old new : Rows) (stop : Option Stop)
    → IsReadingRows text old_left con sep old → Over old_left left old.records stop → GivesRow text left con sep old (at_end (option_map import_fault stop)) new
rows-ended text old_left left con sep old new None at over =
    let come = at.come.2 in
    rows-end con sep text left at.come.0 at.come.1 old.came come.good come.count at.within
    (subst (λ s. AreAll s text left (at.come.0 ∷ at.come.1) None) at.separator (over text (at.come.0 ∷ at.come.1) come.given))
rows-ended text old_left left con sep old new (Some stop) at over =
    let come = at.come.2 in
    rows-stop con sep text left at.come.0 at.come.1 old.came stop come.good come.count at.within
    (subst (λ s. AreAll s text left (at.come.0 ∷ at.come.1) (Some stop)) at.separator (over text (at.come.0 ∷ at.come.1) come.given))

-- a read failed after the rows
pub rows-failed : (text old_left left : Option (List ℕ)) (con : Constituency) (sep : Sep) (old : Rows) (stop : Option Stop)
    → IsReadingRows text old_left con sep old → Over old_left left old.records stop
    → ◌≡◌ {A = Result (Option Row) ImportFault} (at_end (option_map import_fault stop)) (Err cause.Read)
    → IfSome text (λ t. AllRowsCame con sep old.came t left)
rows-failed text old_left left con sep old None at over is = cc
rows-failed text old_left left con sep old (Some TooLong) at over is = cc
rows-failed text old_left left con sep old (Some Read) at over is =
    let come = at.come.2 in
    rows-read con sep text left at.come.0 at.come.1 old.came come.good come.count at.within
    (subst (λ s. AreAll s text left (at.come.0 ∷ at.come.1) (Some Read)) at.separator (over text (at.come.0 ∷ at.come.1) come.given))

-- one record more than may come
pub rows-too_many : (text old_left left : Option (List ℕ)) (con : Constituency) (sep : Sep) (old new : Rows) (records : Records) (fields : List (List ℕ))
    → IsReadingRows text old_left con sep old → Step old_left left old.records fields records → sep_of records ≡ sep_of old.records → old.came ≡ row_limit
    → GivesRow text left con sep old (Err cause.TooLong) new
rows-too_many text old_left left con sep old new records fields at step same full =
    let come = at.come.2 in
    subst (λ n. IsNext text (λ t. coming_after n (text_coming con sep t)) cause.TooLong) (sym full)
    (subst (λ s. IsNext text (λ t. coming_after row_limit (text_coming con s t)) cause.TooLong) (same ∙ at.separator)
    (rows-many con records text left at.come.0 fields at.come.1 come.good (come.count ∙ full) (step text (at.come.0 ∷ at.come.1) come.given)))

-- one row more
pub rows-row : (text old_left left : Option (List ℕ)) (con : Constituency) (sep : Sep) (old new : Rows) (fields : List (List ℕ)) (row : Row)
    → IsReadingRows text old_left con sep old → Step old_left left old.records fields new.records → sep_of new.records ≡ sep_of old.records → IsReadingOn new.records
    → new.lists ≡ old.lists → new.stations ≡ old.stations → new.came ≡ old.came + 1 → old.came < row_limit
    → ((limits : Stations) → ((code : List ℕ) → contains bytes_eq old.stations code ≡ is_some (limits code)) → row ≡ row_of limits old.lists fields)
    → GivesRow text left con sep old (Ok (Some row)) new
rows-row text old_left left con sep old new fields row at step same reading lists stations one room found =
    let come = at.come.2 in
    let header = at.come.0 in
    let given = at.come.1 in
    let is : row ≡ row_of (station_limits_in con) (length con.lists) fields = found (station_limits_in con) at.stations ∙ ap (λ n. row_of (station_limits_in con) n fields) at.lists in (
      record {
        reading = reading;
        separator = same ∙ at.separator;
        lists = lists ∙ at.lists;
        few = at.few;
        stations = subst (λ set. (code : List ℕ) → contains bytes_eq set code ≡ is_some (station_limits_in con code)) (sym stations) at.stations;
        within = omega (arith, one, room);
        come = (
          header,
          given ++ fields ∷ [],
          record {
            good = come.good;
            count = omega (arith, come.count, one, length-append given (fields ∷ []));
            given = step text (header ∷ given) come.given;
          },
        );
      },
      subst (First sep new.came) (sym is) (subst (λ n. First sep n (row_of (station_limits_in con) (length con.lists) fields)) (sym one)
          (subst (λ s. First s (old.came + 1) (row_of (station_limits_in con) (length con.lists) fields)) (same ∙ at.separator)
          (rows-next con new.records text left header fields given old.came come.good come.count room (step text (header ∷ given) come.given)))),
    )
  where
    First : (s : Sep) (n : ℕ) (r : Row) → Type 0
    First s n r = IfSome text (λ t. (rest : List Row) × (drop old.came (text_coming con s t).rows ≡ r ∷ rest) × (drop n (text_coming con s t).rows ≡ rest))

-- the header was read
pub rows-opened : (text old_left left : Option (List ℕ)) (con : Constituency) (sep : Sep) (old : Records) (rows : Rows) (header : List (List ℕ))
    → HasGiven text old_left [] old → Step old_left left old header rows.records → IsReadingOn rows.records → sep_of rows.records ≡ sep
    → is_header (list_codes con.lists) header ≡ true → rows.lists ≡ length con.lists → length con.lists ≤ 60
    → ((code : List ℕ) → contains bytes_eq rows.stations code ≡ list_any (bytes_eq code) (station_codes con.stations)) → rows.came ≡ 0
    → IsReadingRows text left con sep rows
rows-opened text old_left left con sep old rows header given step reading same is lists few stations none = record {
  reading = reading;
  separator = same;
  lists = lists;
  few = few;
  stations = λ code. stations code ∙ is_some-stations con code;
  within = omega (arith, none);
  come = (header, [], record { good = is; count = sym none; given = step text [] given });
}

-- ---- the stages

-- the rows give what a source gives
pub advanced-reading : (text old_left left : Option (List ℕ)) (con : Constituency) (sep : Sep) (old new : Rows) (row : Row)
    → GivesRow text left con sep old (Ok (Some row)) new → Advances text con sep old_left (Reading old) (Ok (Some row)) left (Reading new)
advanced-reading None old_left left con sep old new row given = (given.0, tt)
advanced-reading (Some t) old_left left con sep old new row given =
    (given.0, (given.1.0, given.1.1, ap (λ rows. Some (record { rows = rows; fault = (text_coming con sep t).fault })) given.1.2))

pub advanced-end : (text old_left left : Option (List ℕ)) (con : Constituency) (sep : Sep) (old new : Rows)
    → GivesRow text left con sep old (Ok None) new → Advances text con sep old_left (Reading old) (Ok None) left (Ended None)
advanced-end None old_left left con sep old new given = ((λ e. cc), (tt, refl))
advanced-end (Some t) old_left left con sep old new given =
    ((λ e. cc), ((ap (λ c. c.rows) given, ap (λ c. c.fault) given), ap Some (sym given)))

-- what comes of no row and a fault is that alone
only-is : (c : Coming) (fault : Option ImportFault) → c.rows ≡ [] → c.fault ≡ fault → c ≡ fault_alone fault
only-is c fault rows is = ap (λ (r : List Row). record { rows = r; fault = c.fault }) rows ∙ ap fault_alone is

own-some : (fault : ImportFault) → fault ≢ cause.Store → Some fault ≢ Some cause.Store
own-some fault own e = own (let is : fault ≡ cause.Store = cc in is)

-- a fault, which stays
pub advanced-fault : (text old_left left : Option (List ℕ)) (con : Constituency) (sep : Sep) (old : Stage) (fault : ImportFault)
    → IsNext text (still_coming con sep old) fault → Advances text con sep old_left old (Err fault) left (Ended (Some fault))
advanced-fault None old_left left con sep old fault (own, inl sudden) = (own-some fault own, (own, inl sudden))
advanced-fault None old_left left con sep old fault (own, inr next) = (own-some fault own, (own, inr (tt, refl)))
advanced-fault (Some t) old_left left con sep old fault (own, inl sudden) = (own-some fault own, (own, inl sudden))
advanced-fault (Some t) old_left left con sep old fault (own, inr next) =
    (own-some fault own, (own, inr (next, ap Some (sym (only-is (still_coming con sep old t) (Some fault) next.0 next.1)))))

-- the header was read, and no row has come
pub advanced-first : (text old_left mid_left left : Option (List ℕ)) (con : Constituency) (sep : Sep) (rows : Rows) (result : Result (Option Row) ImportFault) (new : Stage)
    → rows.came ≡ 0 → Advances text con sep mid_left (Reading rows) result left new → Advances text con sep old_left Unread result left new
advanced-first text old_left mid_left left con sep rows result new none given =
    (given.0, subst (λ known. GivesNext known result (option_map (still_coming con sep new) text)) (same text) given.1)
  where
    same : (text : Option (List ℕ)) → option_map (still_coming con sep (Reading rows)) text ≡ option_map (still_coming con sep Unread) text
    same None = refl
    same (Some t) = ap (λ n. Some (coming_after n (text_coming con sep t))) none

pub advanced-next : (text old_left left : Option (List ℕ)) (con : Constituency) (sep : Sep) (old new : Rows) (fault : ImportFault)
    → GivesRow text left con sep old (Err fault) new → Advances text con sep old_left (Reading old) (Err fault) left (Ended (Some fault))
advanced-next text old_left left con sep old new fault given = advanced-fault text old_left left con sep (Reading old) fault given

-- ---- the rows as contracts see them

-- the end gives no row
pub given-end : (given : List Row) (fault : Option ImportFault) → with_given given (at_end fault) ≡ given
given-end given None = refl
given-end given (Some fault) = refl

own-same : (fault : ImportFault) → fault ≢ cause.Store → own_fault fault ≡ fault
own-same cause.BadHeader own = refl
own-same cause.TooLong own = refl
own-same cause.Read own = refl
own-same cause.Memory own = refl
own-same cause.Store own = absurd (own refl)

-- what still comes is known by how many rows came and how they ended
pub still-shown : (text left : Option (List ℕ)) (con : Constituency) (sep : Sep) (stage : Stage) → IsAtStage text left con sep stage
    → option_map (coming_at con sep (came_by stage) (ending stage)) text ≡ option_map (still_coming con sep stage) text
still-shown None left con sep stage at = refl
still-shown (Some t) left con sep Unread at = refl
still-shown (Some t) left con sep (Reading rows) at = refl
still-shown (Some t) left con sep (Ended None) at = refl
still-shown (Some t) left con sep (Ended (Some fault)) at = ap (λ f. Some (fault_alone (Some f))) (own-same fault (λ e. at (ap Some e)))

pub advanced-shown : (text old_left left : Option (List ℕ)) (con : Constituency) (sep : Sep) (old new : Stage) (result : Result (Option Row) ImportFault)
    → IsAtStage text old_left con sep old → Advances text con sep old_left old result left new
    → GivesNext (option_map (coming_at con sep (came_by old) (ending old)) text) result (option_map (coming_at con sep (came_by new) (ending new)) text)
advanced-shown text old_left left con sep old new result at given =
    subst (λ k. GivesNext k result (option_map (coming_at con sep (came_by new) (ending new)) text)) (sym (still-shown text old_left con sep old at))
    (subst (λ k. GivesNext (option_map (still_coming con sep old) text) result k) (sym (still-shown text left con sep new given.0)) given.1)

-- ---- how rows ended, and what was noted of their reader

-- rows that ended with a failed read had one
pub failed-noted : (stage : Stage) (failed : Bool) → IsTrueAt stage failed → ending stage ≡ Some (Some cause.Read) → failed ≡ true
failed-noted Unread failed noted is = cc
failed-noted (Reading rows) failed noted is = cc
failed-noted (Ended None) failed noted is = cc
failed-noted (Ended (Some cause.BadHeader)) failed noted is = cc
failed-noted (Ended (Some cause.TooLong)) failed noted is = cc
failed-noted (Ended (Some cause.Read)) failed noted is = noted
failed-noted (Ended (Some cause.Memory)) failed noted is = cc
failed-noted (Ended (Some cause.Store)) failed noted is = cc

-- rows that came to their end had none
pub none-noted : (stage : Stage) (failed : Bool) → IsTrueAt stage failed → ending stage ≡ Some None → failed ≡ false
none-noted Unread failed noted is = cc
none-noted (Reading rows) failed noted is = cc
none-noted (Ended None) failed noted is = noted
none-noted (Ended (Some fault)) failed noted is = cc
