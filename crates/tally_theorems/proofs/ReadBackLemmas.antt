-- What is published of the returns is read back.
use Rattle.std.proofs.Common.{◌≡◌, ◌<◌, ◌≤◌, ◌+◌, ◌-◌, ◌*◌, ◌/◌, ◌%◌, ◌++◌, ◌∷◌, ◌∙◌, ℕ, zero, suc, List, [], Bool, true, false, cond, Option, Some, None, Result, Ok, Err, length, map, refl, sym, ap, subst, inl, inr, arith, length-append}
use Rattle.std.specs.Prelude.{◌&&◌, ◌==◌, All, IfSome, if◌then◌else◌, nat_le, nat_lt, count_by, is_some, option_map, codes}
use Rattle.std.specs.Char.{is_ascii_digit}
use Rattle.std.specs.FinMap as fin
use Rattle.std.specs.Fmt.{decimal}
use Rattle.std.specs.List.{flat_map, list_all}
use Rattle.std.specs.Str.{bytes_eq}
use Rattle.std.proofs.lemmas.Bool.{and_from, and_parts, eqb-true, le-leb, leb-true, le-ltb}
use Rattle.std.proofs.lemmas.Cmp.{lists_equiv, nat_list_eq_equiv}
use Rattle.std.proofs.lemmas.Fmt.{decimal_by_steps, decimal_nonempty, length-decimal-le}
use Rattle.std.proofs.lemmas.Grind.{common_steps}
use Rattle.std.proofs.lemmas.List.{take_all}
use Rattle.std.proofs.lemmas.List.Folds.{list_all-append}
use Rattle.std.proofs.lemmas.List.Sums.{fold-append, sum_by-cons}
use Rattle.csv.specs.Reading.{default_config, records_from, records_next, strip_bom}
use Rattle.csv.specs.Writing.{default_writer, escaped, field_text, fields_text, is_blank, needs_quotes, row_text}
use Rattle.csv.specs.declared.parser.State.TheVariants as st
use Rattle.csv.proofs.RoundTrip.{read-write}
use Rattle.tally_setup.specs.Code.{code_cmp, is_code}
use Rattle.tally_setup.specs.Constituency.{Constituency, ListEntry, list_codes, entitled}
use Rattle.tally_setup.specs.Limits.{IsConstituency, IsListEntry, IsStation}
use Rattle.tally_setup.specs.declared.constituency.Station.{Station}
use Rattle.tally_setup.proofs.CodeLemmas.{length-code}
use Rattle.tally_returns.specs.Counts.{VoteCounts, all_votes, are_counts, is_number}
use Rattle.tally_returns.specs.Decide.{limits_of}
use Rattle.tally_returns.specs.Lawful.{IsLawful}
use Rattle.tally_returns.specs.Checks.{check, first_refusal, refused_or}
use Rattle.tally_returns.specs.Lodge.{Stations, after_lodge, lodge, lodge_answer, reply_at_code}
use Rattle.tally_returns.specs.Return.{Returns, StationReturn, first_return}
use Rattle.tally_returns.specs.State.{State, opening, stations_of}
use Rattle.tally_returns.specs.StationRows.{station_row}
use Rattle.tally_returns.specs.declared.ask.Ask.TheVariants as ask
use Rattle.tally_returns.specs.declared.refusal.Refusal.{Refusal}
use Rattle.tally_returns.specs.declared.refusal.Refusal.TheVariants.{BadCounts, TooManyVotes}
use Rattle.tally_returns.specs.declared.reply.LodgeReply.{LodgeReply}
use Rattle.tally_returns.specs.declared.reply.LodgeReply.TheVariants.{Lodged, Same}
use Rattle.tally_returns.specs.declared.station_row.StationRow.{StationRow}
use Rattle.tally_returns.proofs.ClosedLemmas.{get-kept, get-put}
use Rattle.tally_setup.proofs.NamedLemmas.{Apart, Differ, Has, all-has, apart-has, bytes_flipped, bytes_same, code_of_station, con-found, con-limits, found-has, station-only, stations-differ}
use Rattle.tally_returns_rows.specs.Import.{RowAnswer, after_row, answers, count_of, first_note, is_bad, is_differing, is_lodged, is_refused, is_same, note_at, note_number, or_else, returns_after_import}
use Rattle.tally_returns_rows.specs.Source.{Coming, row_limit}
use Rattle.tally_returns_rows.specs.declared.import.FirstRow.{FirstRow}
use Rattle.tally_returns_rows.specs.declared.import.ImportCount.{ImportCount}
use Rattle.tally_returns_rows.specs.declared.import.Row.{Row}
use Rattle.tally_returns_rows.specs.declared.import.Row.TheVariants as row
use Rattle.tally_returns_rows.specs.declared.source.ImportFault.{ImportFault}
use Rattle.tally_returns_rows.specs.declared.source.ImportFault.TheVariants.{BadHeader, TooLong}
use Rattle.tally_keeper.proofs.StepLemmas.{lawful-at, limits-known}
use Rattle.tally_import_records.specs.Input.{complete_records, size_limit, text_records, text_stop}
use Rattle.tally_import_records.specs.declared.end.Stop.TheVariants as stopped
use Rattle.tally_import_records.specs.declared.separator.Sep.TheVariants.{Comma}
use Rattle.tally_import_records.proofs.FrontLemmas.{records_from-nothing}
use Rattle.tally_import.specs.ReturnRows.{records_coming, rows_coming, station_limits_in}
use Rattle.tally_import.specs.Rows.{first_unread, is_number_text, row_of, written_number}
use Rattle.tally_report_overview.specs.ReturnsText.{header_fields, record_of, return_fields, returns_text}
use Rattle.tally_theorems.specs.ReadBack.{IsConOf, ImportsReturns, ReadBackIsCountedLodged, ReadBackReturnsAreThose, ReturnsAreReadBack, all_lodged, as_lodged, has_return, lodge_of, rows_in}

-- ---- numbers

abbrev next_digit : ℕ → ℕ → ℕ
next_digit n digit = 10 * n + (digit - 48)

-- these are digits, and write the number
abbrev Writes : ℕ → List ℕ → Type 0
Writes n digits = (list_all is_ascii_digit digits ≡ true) × (written_number digits ≡ n)

is_digit : (d : ℕ) → d < 10 → is_ascii_digit (48 + d) ≡ true
is_digit d small = grind (arith, common_steps)

one-digit : (n : ℕ) → n < 10 → Writes n ((48 + n) ∷ [])
one-digit n small = (and_from _ _ (is_digit n small) refl, omega arith)

more-digits : (n : ℕ) (digits : List ℕ) → 10 ≤ n → Writes (n / 10) digits → Writes n (digits ++ ((48 + n % 10) ∷ []))
more-digits n digits large writes = (
  list_all-append is_ascii_digit digits ((48 + n % 10) ∷ []) ∙ and_from _ _ writes.0 (and_from _ _ (is_digit (n % 10) (omega arith)) refl),
  fold-append next_digit 0 digits ((48 + n % 10) ∷ []) ∙ ap (λ k. 10 * k + ((48 + n % 10) - 48)) writes.1 ∙ omega arith,
)

decimal-writes : (n : ℕ) → n ≤ 1000000 → Writes n (decimal n)
decimal-writes n few = decimal_by_steps Writes one-digit more-digits n (omega arith)

decimal-short : (n : ℕ) → n ≤ 1000000 → length (decimal n) ≤ 9
decimal-short n few = length-decimal-le 9 n (omega arith) (omega arith) (omega arith)

decimal-number : (n : ℕ) → n ≤ 1000000 → is_number_text (decimal n) ≡ true
decimal-number n few =
    and_from _ _
    (and_from _ _ (le-leb 1 (length (decimal n)) (decimal_nonempty n (omega arith))) (le-leb (length (decimal n)) 9 (decimal-short n few)))
    (decimal-writes n few).0

numbers-read : (place : ℕ) (ns : List ℕ) → list_all is_number ns ≡ true → first_unread place (map decimal ns) ≡ None
numbers-read place [] all = refl
numbers-read place (n ∷ ns) all =
    let both = and_parts (is_number n) (list_all is_number ns) all in
    ap (λ b. if b then first_unread (place + 1) (map decimal ns) else Some place) (decimal-number n (leb-true n 1000000 both.0)) ∙ numbers-read (place + 1) ns both.1

numbers-written : (ns : List ℕ) → list_all is_number ns ≡ true → map written_number (map decimal ns) ≡ ns
numbers-written [] all = refl
numbers-written (n ∷ ns) all =
    let both = and_parts (is_number n) (list_all is_number ns) all in
    ap (λ k. k ∷ map written_number (map decimal ns)) (decimal-writes n (leb-true n 1000000 both.0)).1 ∙ ap (λ l. n ∷ l) (numbers-written ns both.1)

numbers-length : (ns : List ℕ) → length (map decimal ns) ≡ length ns
numbers-length [] = refl
numbers-length (n ∷ ns) = ap suc (numbers-length ns)

-- ---- lengths

-- each of these fields has at most 16 bytes
Short : List (List ℕ) → Type 0
Short [] = Unit {0}
Short (x ∷ xs) = (length x ≤ 16) × Short xs

short-codes : (lists : List ListEntry) → All IsListEntry lists → Short (list_codes lists)
unfolding Short
short-codes [] all = tt
short-codes (list ∷ lists) all =
    (length-code list.code (all 0 list (omega arith)).code, short-codes lists (λ k d less. all (suc k) d (omega (arith, less))))

codes-length : (lists : List ListEntry) → length (list_codes lists) ≡ length lists
codes-length [] = refl
codes-length (list ∷ lists) = ap suc (codes-length lists)

escaped-length : (x : List ℕ) → length (escaped default_writer x) ≤ 2 * length x
unfolding escaped
escaped-length [] = omega arith
escaped-length (b ∷ rest) = go (b == 34) (escaped-length rest)
  where
    go : (same : Bool) → length (escaped default_writer rest) ≤ 2 * length rest
        → length (if same then 34 ∷ b ∷ escaped default_writer rest else b ∷ escaped default_writer rest) ≤ 2 * length (b ∷ rest)
    go true less = omega (arith, less)
    go false less = omega (arith, less)

field-length : (x : List ℕ) → length x ≤ 16 → length (field_text default_writer x) ≤ 34
field-length x short = go (needs_quotes default_writer x)
  where
    go : (needs : Bool) → length (if needs then 34 ∷ (escaped default_writer x ++ (34 ∷ [])) else x) ≤ 34
    go true = omega (arith, escaped-length x, length-append (escaped default_writer x) (34 ∷ []))
    go false = omega (arith, short)

-- a digit is no quote
no-quote : (b : ℕ) → is_ascii_digit b ≡ true → (b == 34) ≡ false
no-quote b digit = go (b == 34) refl
  where
    go : (same : Bool) → (b == 34) ≡ same → same ≡ false
    go true is =
        let at : b ≡ 34 = eqb-true b 34 is in
        let low : 48 ≤ b = leb-true 48 b (and_parts _ _ digit).0 in
        absurd (omega (arith, at, low))
    go false is = refl

digits-escaped : (x : List ℕ) → list_all is_ascii_digit x ≡ true → length (escaped default_writer x) ≤ length x
unfolding escaped
digits-escaped [] all = omega arith
digits-escaped (b ∷ rest) all =
    let both = and_parts (is_ascii_digit b) (list_all is_ascii_digit rest) all in
    go (b == 34) (no-quote b both.0) (digits-escaped rest both.1)
  where
    go : (same : Bool) → same ≡ false → length (escaped default_writer rest) ≤ length rest
        → length (if same then 34 ∷ b ∷ escaped default_writer rest else b ∷ escaped default_writer rest) ≤ length (b ∷ rest)
    go true is less = cc
    go false is less = omega (arith, less)

number-field : (n : ℕ) → n ≤ 1000000 → length (field_text default_writer (decimal n)) ≤ 9
number-field n few = go (needs_quotes default_writer (decimal n))
  where
    short : length (decimal n) ≤ 7
    short = length-decimal-le 7 n (omega arith) (omega arith) (omega arith)

    go : (needs : Bool) → length (if needs then 34 ∷ (escaped default_writer (decimal n) ++ (34 ∷ [])) else decimal n) ≤ 9
    go true = omega (arith, digits-escaped (decimal n) (decimal-writes n few).0, short, length-append (escaped default_writer (decimal n)) (34 ∷ []))
    go false = omega (arith, short)

fields-more : (x : List ℕ) (xs : List (List ℕ)) (a b : ℕ) → length (field_text default_writer x) ≤ a → length (fields_text default_writer xs) ≤ b
    → length (fields_text default_writer (x ∷ xs)) ≤ a + 1 + b
unfolding fields_text
fields-more x xs a b first rest = omega (arith, first, rest, length-append (field_text default_writer x) (fields_text default_writer xs))

no-fields : length (fields_text default_writer []) ≤ 0
unfolding fields_text
no-fields = omega arith

numbers-fields : (ns : List ℕ) → list_all is_number ns ≡ true → length (fields_text default_writer (map decimal ns)) ≤ 10 * length ns
numbers-fields [] all = no-fields
numbers-fields (n ∷ ns) all =
    let both = and_parts (is_number n) (list_all is_number ns) all in
    let more = fields-more (decimal n) (map decimal ns) 9 (10 * length ns) (number-field n (leb-true n 1000000 both.0)) (numbers-fields ns both.1) in
    omega (arith, more)

fields-length : (xs : List (List ℕ)) → Short xs → length (fields_text default_writer xs) ≤ 35 * length xs
unfolding Short fields_text
fields-length [] short = omega arith
fields-length (x ∷ xs) short =
    let first = field-length x short.0 in
    let rest = fields-length xs short.1 in
    omega (arith, first, rest, length-append (field_text default_writer x) (fields_text default_writer xs))

-- a record of this many short fields
abbrev IsShort : List (List ℕ) → Type 0
IsShort fields = Short fields × (length fields ≤ 64)

abbrev end_of : Bool → List ℕ
end_of blank = (if blank then 34 ∷ 34 ∷ [] else []) ++ 10 ∷ []

end-length : (blank : Bool) → length (end_of blank) ≤ 3
end-length true = omega arith
end-length false = omega arith

end-some : (blank : Bool) → 1 ≤ length (end_of blank)
end-some true = omega arith
end-some false = omega arith

row-length : (x : List ℕ) (xs : List (List ℕ)) → IsShort (x ∷ xs) → length (row_text default_writer (x ∷ xs)) ≤ 2300
unfolding Short
row-length x xs short =
    let first = field-length x short.0.0 in
    let rest = fields-length xs short.0.1 in
    let end = end-length (is_blank default_writer (x ∷ xs)) in
    omega (
      arith,
      first,
      rest,
      end,
      short.1,
      length-append (field_text default_writer x) (fields_text default_writer xs),
      length-append (field_text default_writer x ++ fields_text default_writer xs) (end_of (is_blank default_writer (x ∷ xs))),
    )

row-some : (x : List ℕ) (xs : List (List ℕ)) → 1 ≤ length (row_text default_writer (x ∷ xs))
row-some x xs =
    omega (
      arith,
      end-some (is_blank default_writer (x ∷ xs)),
      length-append (field_text default_writer x ++ fields_text default_writer xs) (end_of (is_blank default_writer (x ∷ xs))),
    )

-- each record has a field, and at most this many bytes as a row
Fit : ℕ → List (List (List ℕ)) → Type 0
Fit most [] = Unit {0}
Fit most ([] ∷ records) = ⊥
Fit most ((x ∷ xs) ∷ records) = (length (row_text default_writer (x ∷ xs)) ≤ most) × Fit most records

fit-wider : (most : ℕ) (records : List (List (List ℕ))) → most ≤ 2300 → Fit most records → Fit 2300 records
unfolding Fit
fit-wider most [] more fit = tt
fit-wider most ([] ∷ records) more fit = absurd fit
fit-wider most ((x ∷ xs) ∷ records) more fit = (omega (arith, more, fit.0), fit-wider most records more fit.1)

abbrev text_of : List (List (List ℕ)) → List ℕ
text_of records = flat_map (row_text default_writer) records

text-length : (records : List (List (List ℕ))) → Fit 700 records → length (text_of records) ≤ 700 * length records
unfolding Fit
text-length [] fit = omega arith
text-length ([] ∷ records) fit = absurd fit
text-length ((x ∷ xs) ∷ records) fit =
    omega (arith, fit.0, text-length records fit.1, length-append (row_text default_writer (x ∷ xs)) (text_of records))

text-some : (records : List (List (List ℕ))) → Fit 2300 records → length records ≤ length (text_of records)
unfolding Fit
text-some [] fit = omega arith
text-some ([] ∷ records) fit = absurd fit
text-some ((x ∷ xs) ∷ records) fit =
    omega (arith, row-some x xs, text-some records fit.1, length-append (row_text default_writer (x ∷ xs)) (text_of records))

-- ---- the records of a text that was written

written-read : (records : List (List (List ℕ))) (n : ℕ) → Fit 2300 records → length records ≤ n → records_from default_config n st.StartRecord (text_of records) ≡ records
unfolding records_from Fit
written-read [] n fit enough = records_from-nothing default_config n st.StartRecord refl
written-read ([] ∷ records) n fit enough = absurd fit
written-read ((x ∷ xs) ∷ records) zero fit enough = absurd (omega arith)
written-read ((x ∷ xs) ∷ records) (suc n) fit enough =
    ap (records_next (records_from default_config n)) (read-write (x ∷ xs) (text_of records))
    ∙ ap (λ rest. (x ∷ xs) ∷ rest) (written-read records n fit.1 (omega (arith, enough)))

-- the text begins with no byte order mark
no-mark : (fields : List (List ℕ)) (tail : List ℕ) → strip_bom (row_text default_writer (codes "station" ∷ fields) ++ tail) ≡ row_text default_writer (codes "station" ∷ fields) ++ tail
unfolding strip_bom
no-mark fields tail = refl

text-read : (fields : List (List ℕ)) (records : List (List (List ℕ))) → IsShort (codes "station" ∷ fields) → Fit 700 records → length records ≤ 20000
    → (text_records Comma (text_of ((codes "station" ∷ fields) ∷ records)) ≡ (codes "station" ∷ fields) ∷ records)
    × (text_stop (text_of ((codes "station" ∷ fields) ∷ records)) ≡ None)
unfolding Fit
text-read fields records short rows few = (
  ap (λ t. complete_records Comma t (text_stop text)) (take_all size_limit text within)
      ∙ ap (complete_records Comma text) stop
      ∙ ap (λ t. records_from default_config (length t + 1) st.StartRecord t) (no-mark fields (text_of records))
      ∙ written-read all (length text + 1) fit (omega (arith, text-some all fit)),
  stop,
)
  where
    all : List (List (List ℕ))
    all = (codes "station" ∷ fields) ∷ records

    fit : Fit 2300 all
    fit = (row-length (codes "station") fields short, fit-wider 700 records (omega arith) rows)

    text : List ℕ
    text = text_of all

    within : length text ≤ size_limit
    within =
        let long = text-length records rows in
        let first = row-length (codes "station") fields short in
        omega (arith, long, first, few, length-append (row_text default_writer (codes "station" ∷ fields)) (text_of records))

    stop : text_stop text ≡ None
    stop = ap (λ b. if b then Some stopped.TooLong else None) (le-ltb size_limit (length text) within)

-- ---- the rows

abbrev row_at : Station → Option StationReturn → StationRow
row_at x o = record { station = x.code; electors = x.electors; found = o }

-- what is known of a station, and of its return if it has one
record IsGood (con : Constituency) (returns : Returns) (x : Station) : Type 0 where
  station : IsStation x
  known : is_some (station_limits_in con x.code) ≡ true
  lawful : (standing : StationReturn) → fin.get returns x.code ≡ Some standing → IsLawful (limits_of con x) standing

-- the parts of what a lawful return counts
record AreNumbers (lists : ℕ) (counts : VoteCounts) : Type 0 where
  many : (length counts.votes == lists) ≡ true
  votes : list_all is_number counts.votes ≡ true
  blank : counts.blank ≤ 1000000
  spoiled : counts.spoiled ≤ 1000000

counts-parts : (lists : ℕ) (counts : VoteCounts) → are_counts lists counts ≡ true → AreNumbers lists counts
counts-parts lists counts good =
    let three = and_parts ((length counts.votes == lists && list_all is_number counts.votes) && is_number counts.blank) (is_number counts.spoiled) good in
    let two = and_parts (length counts.votes == lists && list_all is_number counts.votes) (is_number counts.blank) three.0 in
    let one = and_parts (length counts.votes == lists) (list_all is_number counts.votes) two.0 in
    record { many = one.0; votes = one.1; blank = leb-true counts.blank 1000000 two.1; spoiled = leb-true counts.spoiled 1000000 three.1 }

abbrev lodge_row : List ℕ → List ℕ → List ℕ → ℕ → ℕ → Row
lodge_row station slip votes blank spoiled = row.Lodge (ask.Lodge station slip (record { votes = votes; blank = blank; spoiled = spoiled }))

-- a record that has none of the causes of a bad row
return-read : (stations : Stations) (lists : ℕ) (station slip blank spoiled : List ℕ) (votes : List (List ℕ))
    → (length votes == lists) ≡ true → is_code station ≡ true → is_some (stations station) ≡ true → is_code slip ≡ true
    → is_number_text blank ≡ true → is_number_text spoiled ≡ true → first_unread 0 votes ≡ None
    → row_of stations lists (station ∷ slip ∷ blank ∷ spoiled ∷ votes) ≡ lodge_row station slip (map written_number votes) (written_number blank) (written_number spoiled)
return-read stations lists station slip blank spoiled votes many coded known slipped blanks spoils read =
    rw (many, coded, known, slipped, blanks, spoils, read) refl

row-read : (con : Constituency) (returns : Returns) (x : Station) (standing : StationReturn) → IsGood con returns x → fin.get returns x.code ≡ Some standing
    → row_of (station_limits_in con) (length con.lists) (return_fields x.code standing) ≡ row.Lodge (ask.Lodge x.code standing.slip standing.counts)
row-read con returns x standing good is =
    let lawful = good.lawful standing is in
    let parts = counts-parts (length con.lists) standing.counts lawful.counts in
    let many : (length (map decimal standing.counts.votes) == length con.lists) ≡ true = ap (λ n. n == length con.lists) (numbers-length standing.counts.votes) ∙ parts.many in
    return-read (station_limits_in con) (length con.lists) x.code standing.slip (decimal standing.counts.blank) (decimal standing.counts.spoiled) (map decimal standing.counts.votes)
    many good.station.code good.known lawful.slip (decimal-number standing.counts.blank parts.blank) (decimal-number standing.counts.spoiled parts.spoiled)
    (numbers-read 0 standing.counts.votes parts.votes)
    ∙ ap (λ (votes : List ℕ). lodge_row x.code standing.slip votes (written_number (decimal standing.counts.blank)) (written_number (decimal standing.counts.spoiled))) (numbers-written standing.counts.votes parts.votes)
    ∙ ap (λ (blank : ℕ). lodge_row x.code standing.slip standing.counts.votes blank (written_number (decimal standing.counts.spoiled))) (decimal-writes standing.counts.blank parts.blank).1
    ∙ ap (λ (spoiled : ℕ). lodge_row x.code standing.slip standing.counts.votes standing.counts.blank spoiled) (decimal-writes standing.counts.spoiled parts.spoiled).1

abbrev records_in : Returns → List Station → List (List (List ℕ))
records_in returns xs = flat_map record_of (map (station_row returns) xs)

abbrev lodges_in : Returns → List Station → List Row
lodges_in returns xs = flat_map lodge_of (map (station_row returns) xs)

abbrev AllGood : Constituency → Returns → List Station → Type 0
AllGood con returns xs = (x : Station) → Has x xs → IsGood con returns x

rows-read : (con : Constituency) (returns : Returns) (xs : List Station) → AllGood con returns xs
    → map (row_of (station_limits_in con) (length con.lists)) (records_in returns xs) ≡ lodges_in returns xs
rows-read con returns [] good = refl
rows-read con returns (x ∷ xs) good = go (fin.get returns x.code) refl (rows-read con returns xs (λ y has. good y (inr has)))
  where
    go : (o : Option StationReturn) → fin.get returns x.code ≡ o
        → map (row_of (station_limits_in con) (length con.lists)) (records_in returns xs) ≡ lodges_in returns xs
        → map (row_of (station_limits_in con) (length con.lists)) (record_of (row_at x o) ++ records_in returns xs)
        ≡ lodge_of (row_at x o) ++ lodges_in returns xs
    go None is rest = rest
    go (Some standing) is rest =
        ap (λ (r : Row). r ∷ map (row_of (station_limits_in con) (length con.lists)) (records_in returns xs)) (row-read con returns x standing (good x (inl refl)) is)
        ∙ ap (λ (rows : List Row). row.Lodge (ask.Lodge x.code standing.slip standing.counts) ∷ rows) rest

-- the records are few and short
return-short : (con : Constituency) (returns : Returns) (x : Station) (standing : StationReturn) → length con.lists ≤ 60 → IsGood con returns x → fin.get returns x.code ≡ Some standing
    → length (row_text default_writer (return_fields x.code standing)) ≤ 700
return-short con returns x standing few good is =
    let lawful = good.lawful standing is in
    let counts = standing.counts in
    let parts = counts-parts (length con.lists) counts lawful.counts in
    let many : length counts.votes ≡ length con.lists = eqb-true _ _ parts.many in
    let spoiled = fields-more (decimal counts.spoiled) (map decimal counts.votes) 9 (10 * length counts.votes) (number-field counts.spoiled parts.spoiled) (numbers-fields counts.votes parts.votes) in
    let blank = fields-more (decimal counts.blank) _ 9 _ (number-field counts.blank parts.blank) spoiled in
    let slip = fields-more standing.slip _ 34 _ (field-length standing.slip (length-code standing.slip lawful.slip)) blank in
    let first = field-length x.code (length-code x.code good.station.code) in
    let rest = decimal counts.blank ∷ decimal counts.spoiled ∷ map decimal counts.votes in
    omega (
      arith,
      first,
      slip,
      many,
      few,
      end-length (is_blank default_writer (x.code ∷ standing.slip ∷ rest)),
      length-append (field_text default_writer x.code) (fields_text default_writer (standing.slip ∷ rest)),
      length-append (field_text default_writer x.code ++ fields_text default_writer (standing.slip ∷ rest)) (end_of (is_blank default_writer (x.code ∷ standing.slip ∷ rest))),
    )

records-fit : (con : Constituency) (returns : Returns) (xs : List Station) → length con.lists ≤ 60 → AllGood con returns xs → Fit 700 (records_in returns xs) × (length (records_in returns xs) ≤ length xs)
unfolding Fit
records-fit con returns [] few good = (tt, omega arith)
records-fit con returns (x ∷ xs) few good = go (fin.get returns x.code) refl (records-fit con returns xs few (λ y has. good y (inr has)))
  where
    go : (o : Option StationReturn) → fin.get returns x.code ≡ o → Fit 700 (records_in returns xs) × (length (records_in returns xs) ≤ length xs)
        → Fit 700 (record_of (row_at x o) ++ records_in returns xs)
        × (length (record_of (row_at x o) ++ records_in returns xs) ≤ suc (length xs))
    go None is rest = (rest.0, omega (arith, rest.1))
    go (Some standing) is rest = ((return-short con returns x standing few (good x (inl refl)) is, rest.0), omega (arith, rest.1))

header-short : (con : Constituency) → IsConstituency con → IsShort (header_fields con)
unfolding Short
header-short con limits = (
  (omega arith, (omega arith, (omega arith, (omega arith, short-codes con.lists limits.each_list)))),
  let few = limits.lists in omega (arith, codes-length con.lists, few),
)

-- what is known of the stations of a constituency of a lawful state
con-good : (setup : List Constituency) (s : State) (con : Constituency) → IsConOf setup s con → AllGood con s.returns con.stations
con-good setup s con it x stands =
    let has = (con-found setup con.code con it.its).1 in
    record {
      station = all-has IsStation x con.stations (con-limits setup con it.limits has).each_station stands;
      known = ap (λ o. is_some (option_map (limits_of con) o)) (found-has code_of_station x.code con.stations x (stations-differ setup con it.limits has) stands refl);
      lawful = lawful-at setup s x.code (limits_of con x) it.lawful (limits-known setup x.code con x (station-only setup con x it.limits has stands));
    }

abbrev coming : List Row → Option ImportFault → Coming
coming rows fault = record { rows = rows; fault = fault }

pub read-back : ReturnsAreReadBack
read-back setup s con it =
    ap (λ all. records_coming con all (text_stop text)) read.0
    ∙ ap (λ stop. records_coming con (header_fields con ∷ records) stop) read.1
    ∙ ap (λ b. if b then rows_coming con records None else coming [] (Some BadHeader)) ((lists_equiv nat_list_eq_equiv).refl (header_fields con))
    ∙ ap (λ few. coming (map (row_of (station_limits_in con) (length con.lists)) few) (if nat_lt row_limit (length records) then Some TooLong else None)) (take_all row_limit records (omega (arith, many)))
    ∙ ap (λ b. coming (map (row_of (station_limits_in con) (length con.lists)) records) (if b then Some TooLong else None)) (le-ltb row_limit (length records) (omega (arith, many)))
    ∙ ap (λ rows. coming rows None) (rows-read con s.returns con.stations good)
  where
    limits : IsConstituency con
    limits = con-limits setup con it.limits (con-found setup con.code con it.its).1

    good : AllGood con s.returns con.stations
    good = con-good setup s con it

    records : List (List (List ℕ))
    records = records_in s.returns con.stations

    text : List ℕ
    text = returns_text con (rows_in s con)

    fit : Fit 700 records × (length records ≤ length con.stations)
    fit = records-fit con s.returns con.stations limits.lists good

    many : length records ≤ 20000
    many = let few = limits.stations in omega (arith, fit.1, few)

    read : (text_records Comma text ≡ header_fields con ∷ records) × (text_stop text ≡ None)
    read = text-read (codes "slip" ∷ codes "blank" ∷ codes "spoiled" ∷ list_codes con.lists) records (header-short con limits) fit.0 many

-- ---- an import into an office without returns

abbrev first_lodged : RowAnswer
first_lodged = Some (Ok (Lodged 1))

-- what is known of a station before its row comes
record IsReady (stations : Stations) (m returns : Returns) (con : Constituency) (x : Station) : Type 0 where
  known : stations x.code ≡ Some (limits_of con x)
  free : fin.get m x.code ≡ None
  lawful : (standing : StationReturn) → fin.get returns x.code ≡ Some standing → IsLawful (limits_of con x) standing

abbrev AllReady : Stations → Returns → Returns → Constituency → List Station → Type 0
AllReady stations m returns con xs = (x : Station) → Has x xs → IsReady stations m returns con x

lodged-one : (stations : Stations) (m returns : Returns) (con : Constituency) (x : Station) (standing : StationReturn) → IsReady stations m returns con x → fin.get returns x.code ≡ Some standing
    → lodge_answer stations m x.code standing.slip standing.counts ≡ Ok (Lodged 1)
lodged-one stations m returns con x standing ready is =
    ap (λ o. reply_at_code o (fin.get m x.code) standing.slip standing.counts) ready.known
    ∙ ap (λ found. reply_at_code (Some (limits_of con x)) found standing.slip standing.counts) ready.free
    ∙ ap (λ b. refused_or (first_refusal (check b BadCounts ∷ check (nat_le (all_votes standing.counts) (entitled x)) TooManyVotes ∷ [])) (Ok (Lodged 1))) (ready.lawful standing is).counts
    ∙ ap (λ b. refused_or (first_refusal (None ∷ check b TooManyVotes ∷ [])) (Ok (Lodged 1))) (le-leb (all_votes standing.counts) (entitled x) (ready.lawful standing is).votes)

lodge-here : (stations : Stations) (m : Returns) (station slip : List ℕ) (counts : VoteCounts) → lodge_answer stations m station slip counts ≡ Ok (Lodged 1)
    → fin.get (lodge stations m station slip counts) station ≡ Some (first_return slip counts)
lodge-here stations m station slip counts is =
    ap (λ answer. fin.get (after_lodge m station slip counts answer) station) is
    ∙ get-put m station (first_return slip counts)

lodge-apart : (stations : Stations) (m : Returns) (station slip : List ℕ) (counts : VoteCounts) (q : List ℕ) → bytes_eq q station ≡ false
    → fin.get (lodge stations m station slip counts) q ≡ fin.get m q
lodge-apart stations m station slip counts q apart = go (lodge_answer stations m station slip counts)
  where
    go : (a : Result LodgeReply Refusal) → fin.get (after_lodge m station slip counts a) q ≡ fin.get m q
    go (Ok (Lodged rev)) = get-kept m station (first_return slip counts) q (λ same. let no : false ≡ true = sym apart ∙ bytes_same q station same in absurd cc)
    go (Ok (Same rev)) = refl
    go (Err refusal) = refl

-- the stations that come later are ready too
ready-later : (stations : Stations) (m returns : Returns) (con : Constituency) (x : Station) (xs : List Station) (slip : List ℕ) (counts : VoteCounts) → Apart code_of_station x.code xs
    → AllReady stations m returns con xs → AllReady stations (lodge stations m x.code slip counts) returns con xs
ready-later stations m returns con x xs slip counts apart ready y has =
    let was = ready y has in
    record {
      known = was.known;
      free = lodge-apart stations m x.code slip counts y.code (bytes_flipped x.code y.code (apart-has code_of_station x.code xs y apart has)) ∙ was.free;
      lawful = was.lawful;
    }

AreLodged : List RowAnswer → Type 0
AreLodged [] = Unit {0}
AreLodged (a ∷ answered) = (a ≡ first_lodged) × AreLodged answered

all-lodged : (stations : Stations) (m returns : Returns) (con : Constituency) (xs : List Station) → Differ code_of_station xs → AllReady stations m returns con xs
    → AreLodged (answers stations m (lodges_in returns xs))
unfolding AreLodged
all-lodged stations m returns con [] differ ready = tt
all-lodged stations m returns con (x ∷ xs) differ ready = go (fin.get returns x.code) refl (λ n later. all-lodged stations n returns con xs differ.1 later)
  where
    later : AllReady stations m returns con xs
    later y has = ready y (inr has)

    go : (o : Option StationReturn) → fin.get returns x.code ≡ o → ((n : Returns) → AllReady stations n returns con xs → AreLodged (answers stations n (lodges_in returns xs)))
        → AreLodged (answers stations m (lodge_of (row_at x o) ++ lodges_in returns xs))
    go None is rest = rest m later
    go (Some standing) is rest = (
      ap Some (lodged-one stations m returns con x standing (ready x (inl refl)) is),
      rest (lodge stations m x.code standing.slip standing.counts) (ready-later stations m returns con x xs standing.slip standing.counts differ.0 later),
    )

answers-length : (stations : Stations) (m : Returns) (rows : List Row) → length (answers stations m rows) ≡ length rows
answers-length stations m [] = refl
answers-length stations m (r ∷ rows) = ap suc (answers-length stations (after_row stations m r) rows)

lodges-length : (returns : Returns) (xs : List Station) → length (lodges_in returns xs) ≡ count_by has_return (map (station_row returns) xs)
lodges-length returns [] = refl
lodges-length returns (x ∷ xs) =
    go (fin.get returns x.code) (lodges-length returns xs) ∙ sym (sum_by-cons (λ (r : StationRow). cond (has_return r) 1 0) (station_row returns x) (map (station_row returns) xs))
  where
    go : (o : Option StationReturn) → length (lodges_in returns xs) ≡ count_by has_return (map (station_row returns) xs)
        → length (lodge_of (row_at x o) ++ lodges_in returns xs)
        ≡ cond (is_some o) 1 0 + count_by has_return (map (station_row returns) xs)
    go None rest = omega (arith, rest)
    go (Some standing) rest = omega (arith, rest)

count-all : (p : RowAnswer → Bool) (answered : List RowAnswer) → p first_lodged ≡ true → AreLodged answered → count_by p answered ≡ length answered
unfolding AreLodged
count-all p [] passes are = refl
count-all p (a ∷ answered) passes are =
    sum_by-cons (λ (x : RowAnswer). cond (p x) 1 0) a answered
    ∙ ap (λ b. cond b 1 0 + count_by p answered) (ap p are.0 ∙ passes)
    ∙ ap (λ n. 1 + n) (count-all p answered passes are.1)
    ∙ omega arith

count-none : (p : RowAnswer → Bool) (answered : List RowAnswer) → p first_lodged ≡ false → AreLodged answered → count_by p answered ≡ 0
unfolding AreLodged
count-none p [] fails are = refl
count-none p (a ∷ answered) fails are =
    sum_by-cons (λ (x : RowAnswer). cond (p x) 1 0) a answered
    ∙ ap (λ b. cond b 1 0 + count_by p answered) (ap p are.0 ∙ fails)
    ∙ ap (λ n. 0 + n) (count-none p answered fails are.1)
    ∙ omega arith

no-note : (at : ℕ) (answered : List RowAnswer) → AreLodged answered → first_note at answered ≡ None
unfolding AreLodged
no-note at [] are = refl
no-note at (a ∷ answered) are = ap (λ x. or_else (note_at at (note_number x)) (first_note (at + 1) answered)) are.0 ∙ no-note (at + 1) answered are.1

abbrev counted : ℕ → ℕ → ℕ → ℕ → ℕ → Option FirstRow → ImportCount
counted lodged same differs refused bad first = record { lodged = lodged; same = same; differs = differs; refused = refused; bad = bad; first = first }

count-lodged : (answered : List RowAnswer) → AreLodged answered → count_of answered ≡ all_lodged (length answered)
count-lodged answered are =
    ap (λ n. counted n (count_by is_same answered) (count_by is_differing answered) (count_by is_refused answered) (count_by is_bad answered) (first_note 1 answered)) (count-all is_lodged answered refl are)
    ∙ ap (λ n. counted (length answered) n (count_by is_differing answered) (count_by is_refused answered) (count_by is_bad answered) (first_note 1 answered)) (count-none is_same answered refl are)
    ∙ ap (λ n. counted (length answered) 0 n (count_by is_refused answered) (count_by is_bad answered) (first_note 1 answered)) (count-none is_differing answered refl are)
    ∙ ap (λ n. counted (length answered) 0 0 n (count_by is_bad answered) (first_note 1 answered)) (count-none is_refused answered refl are)
    ∙ ap (λ n. counted (length answered) 0 0 0 n (first_note 1 answered)) (count-none is_bad answered refl are)
    ∙ ap (counted (length answered) 0 0 0 0) (no-note 1 answered are)

-- what has another code stays
apart-stays : (stations : Stations) (m returns : Returns) (xs : List Station) (q : List ℕ) → Apart code_of_station q xs
    → fin.get (returns_after_import stations m (lodges_in returns xs)) q ≡ fin.get m q
apart-stays stations m returns [] q apart = refl
apart-stays stations m returns (x ∷ xs) q apart = go (fin.get returns x.code) (λ n. apart-stays stations n returns xs q apart.1)
  where
    go : (o : Option StationReturn) → ((n : Returns) → fin.get (returns_after_import stations n (lodges_in returns xs)) q ≡ fin.get n q)
        → fin.get (returns_after_import stations m (lodge_of (row_at x o) ++ lodges_in returns xs)) q ≡ fin.get m q
    go None rest = rest m
    go (Some standing) rest =
        rest (lodge stations m x.code standing.slip standing.counts)
        ∙ lodge-apart stations m x.code standing.slip standing.counts q apart.0

abbrev lodged_again : Option StationReturn → Option StationReturn
lodged_again found = option_map (λ (standing : StationReturn). first_return standing.slip standing.counts) found

-- the return of each station is the one that was recorded, as it is lodged
stands-again : (stations : Stations) (m returns : Returns) (con : Constituency) (xs : List Station) (x : Station) → Differ code_of_station xs → AllReady stations m returns con xs → Has x xs
    → fin.get (returns_after_import stations m (lodges_in returns xs)) x.code ≡ lodged_again (fin.get returns x.code)
stands-again stations m returns con [] x differ ready has = absurd has
stands-again stations m returns con (y ∷ ys) x differ ready (inl is) = subst Stands is (go (fin.get returns y.code) refl)
  where
    Stands : Station → Type 0
    Stands z = fin.get (returns_after_import stations m (lodges_in returns (y ∷ ys))) z.code ≡ lodged_again (fin.get returns z.code)

    go : (o : Option StationReturn) → fin.get returns y.code ≡ o
        → fin.get (returns_after_import stations m (lodge_of (row_at y o) ++ lodges_in returns ys)) y.code ≡ lodged_again o
    go None at = apart-stays stations m returns ys y.code differ.0 ∙ (ready y (inl refl)).free
    go (Some standing) at =
        apart-stays stations (lodge stations m y.code standing.slip standing.counts) returns ys y.code differ.0
        ∙ lodge-here stations m y.code standing.slip standing.counts (lodged-one stations m returns con y standing (ready y (inl refl)) at)
stands-again stations m returns con (y ∷ ys) x differ ready (inr has) = go (fin.get returns y.code) (λ n later. stands-again stations n returns con ys x differ.1 later has)
  where
    later : AllReady stations m returns con ys
    later z there = ready z (inr there)

    go : (o : Option StationReturn)
        → ((n : Returns) → AllReady stations n returns con ys → fin.get (returns_after_import stations n (lodges_in returns ys)) x.code ≡ lodged_again (fin.get returns x.code))
        → fin.get (returns_after_import stations m (lodge_of (row_at y o) ++ lodges_in returns ys)) x.code
        ≡ lodged_again (fin.get returns x.code)
    go None rest = rest m later
    go (Some standing) rest =
        rest (lodge stations m y.code standing.slip standing.counts) (ready-later stations m returns con y ys standing.slip standing.counts differ.0 later)

-- the rows of stations whose returns are recorded again
rows-again : (after returns : Returns) (xs : List Station) → ((x : Station) → Has x xs → fin.get after x.code ≡ lodged_again (fin.get returns x.code))
    → map (station_row after) xs ≡ map as_lodged (map (station_row returns) xs)
rows-again after returns [] again = refl
rows-again after returns (x ∷ xs) again =
    ap (λ (o : Option StationReturn). row_at x o ∷ map (station_row after) xs) (again x (inl refl))
    ∙ ap (λ (rows : List StationRow). as_lodged (station_row returns x) ∷ rows) (rows-again after returns xs (λ y has. again y (inr has)))

-- the stations of a constituency are ready as the office opens
con-ready : (setup : List Constituency) (s : State) (con : Constituency) → IsConOf setup s con → AllReady (stations_of setup) (opening setup).returns s.returns con con.stations
con-ready setup s con it x stands =
    let has = (con-found setup con.code con it.its).1 in
    let known = limits-known setup x.code con x (station-only setup con x it.limits has stands) in
    record { known = known; free = fin.get-empty code_cmp x.code; lawful = lawful-at setup s x.code (limits_of con x) it.lawful known }

con-differ : (setup : List Constituency) (s : State) (con : Constituency) → IsConOf setup s con → Differ code_of_station con.stations
con-differ setup s con it = stations-differ setup con it.limits (con-found setup con.code con it.its).1

-- the rows of an import of the text
came : (setup : List Constituency) (s t : State) (con : Constituency) (count : ImportCount) → IsConOf setup s con → (import : ImportsReturns setup s con count t)
    → import.1.1.0 ≡ lodges_in s.returns con.stations
came setup s t con count it import =
    let given = subst (λ o. IfSome o (λ (c : Coming). (c.rows ≡ import.1.1.0) × (c.fault ≡ None))) import.1.0 import.1.1.2.3 in
    sym given.0 ∙ ap (λ (c : Coming). c.rows) (read-back setup s con it)

pub read-back-counted : ReadBackIsCountedLodged
read-back-counted setup s t con count it import =
    import.1.1.3.2
    ∙ ap count_of (import.1.1.3.1 ∙ ap (answers (stations_of setup) (opening setup).returns) (came setup s t con count it import))
    ∙ count-lodged _ (all-lodged (stations_of setup) (opening setup).returns s.returns con con.stations (con-differ setup s con it) (con-ready setup s con it))
    ∙ ap all_lodged (answers-length (stations_of setup) (opening setup).returns (lodges_in s.returns con.stations) ∙ lodges-length s.returns con.stations)

pub read-back-after : ReadBackReturnsAreThose
read-back-after setup s t con count it import =
    ap (λ (x : State). rows_in x con) import.1.1.3.3
    ∙ ap (λ (rows : List Row). map (station_row (returns_after_import (stations_of setup) (opening setup).returns rows)) con.stations) (came setup s t con count it import)
    ∙ rows-again (returns_after_import (stations_of setup) (opening setup).returns (lodges_in s.returns con.stations)) s.returns con.stations
    (λ x has. stands-again (stations_of setup) (opening setup).returns s.returns con con.stations x (con-differ setup s con it) (con-ready setup s con it) has)
