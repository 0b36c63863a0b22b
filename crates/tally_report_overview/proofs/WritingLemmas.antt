-- What a writer writes of records of any length.
use Rattle.std.proofs.Common.{◌≡◌, ◌<◌, ◌≤◌, ◌+◌, ◌++◌, ◌∷◌, ◌∙◌, ℕ, List, [], Bool, true, false, Option, Some, None, Result, Ok, Err, length, take, get_or, refl, sym, ap, subst, append_assoc, append-nil}
use Rattle.std.specs.Prelude.{◌==◌, IfOk, Vec, if◌then◌else◌}
use Rattle.std.specs.List.{flat_map}
use Rattle.std.specs.Option.{option_map_or}
use Rattle.std.specs.Io.KnownBytes.{Appends, Keeps}
use Rattle.std.specs.declared.alloc.Global.{Global}
use Rattle.std.proofs.lemmas.List.{take_all, take_more}
use Rattle.std.proofs.lemmas.List.Concat.{flat_map-append}
use Rattle.csv.specs.Writing.{default_writer, escaped, field_text, fields_text, fields_written, has_written, is_blank, needs_quotes, row_text, text_written, with_flexible, writer_setup}
use Rattle.csv.specs.declared.writer.Writer.{Writer}
use Rattle.csv.specs.declared.writer.WriterBuilder.{WriterBuilder}
use Rattle.tally_setup.specs.Constituency.{Constituency}
use Rattle.tally_returns.specs.Return.{StationReturn}
use Rattle.tally_returns.specs.declared.station_row.StationRow.{StationRow}
use Rattle.tally_report_overview.specs.ReturnsText.{header_fields, record_of, return_fields, returns_text}
use Rattle.tally_report.specs.declared.fault.ReportFault.{ReportFault}
use Rattle.tally_report_overview.specs.internal.Writing.{HasWritten}

abbrev flexible : WriterBuilder
flexible = with_flexible default_writer true

-- it writes the same text
escaped-flexible : (x : List ℕ) → escaped flexible x ≡ escaped default_writer x
unfolding escaped
escaped-flexible [] = refl
escaped-flexible (b ∷ rest) = ap (λ (l : List ℕ). if b == 34 then 34 ∷ b ∷ l else b ∷ l) (escaped-flexible rest)

field-flexible : (x : List ℕ) → field_text flexible x ≡ field_text default_writer x
field-flexible x = ap (λ (l : List ℕ). if needs_quotes default_writer x then 34 ∷ (l ++ 34 ∷ []) else x) (escaped-flexible x)

fields-flexible : (fields : List (List ℕ)) → fields_text flexible fields ≡ fields_text default_writer fields
unfolding fields_text
fields-flexible [] = refl
fields-flexible (x ∷ xs) =
    ap (λ (t : List ℕ). 44 ∷ (t ++ fields_text flexible xs)) (field-flexible x)
    ∙ ap (λ (t : List ℕ). 44 ∷ (field_text default_writer x ++ t)) (fields-flexible xs)

blank-flexible : (fields : List (List ℕ)) → is_blank flexible fields ≡ is_blank default_writer fields
unfolding is_blank
blank-flexible [] = refl
blank-flexible (x ∷ []) = ap (λ (t : List ℕ). length t == 0) (field-flexible x)
blank-flexible (x ∷ y ∷ rest) = refl

abbrev ended : List ℕ → Bool → List ℕ
ended body blank = body ++ ((if blank then 34 ∷ 34 ∷ [] else []) ++ 10 ∷ [])

row-flexible : (fields : List (List ℕ)) → row_text flexible fields ≡ row_text default_writer fields
row-flexible [] = ap (ended []) (blank-flexible [])
row-flexible (x ∷ xs) =
    ap (λ (t : List ℕ). ended (t ++ fields_text flexible xs) (is_blank flexible (x ∷ xs))) (field-flexible x)
    ∙ ap (λ (t : List ℕ). ended (field_text default_writer x ++ t) (is_blank flexible (x ∷ xs))) (fields-flexible xs)
    ∙ ap (ended (field_text default_writer x ++ fields_text default_writer xs)) (blank-flexible (x ∷ xs))

pub appended : (old new : Option (List ℕ)) (text more : List ℕ) → old ≡ Some text → Appends old new more → new ≡ Some (text ++ more)
appended None new text more is adds = cc
appended (Some a) None text more is adds = absurd adds
appended (Some a) (Some b) text more is adds = let same : a ≡ text = cc in ap Some (adds ∙ ap (λ (t : List ℕ). t ++ more) same)

pub kept : (old : Option (List ℕ)) (items text : List ℕ) → old ≡ Some text → Keeps old (Some items) → items ≡ text
kept None items text is keeps = cc
kept (Some a) items text is keeps = let same : a ≡ text = cc in keeps ∙ same

abbrev pub known : Vec ℕ Global → Option (List ℕ)
known bytes = Some bytes.items

-- one more record
pub written : (old new : Writer (Vec ℕ Global)) (text : List ℕ) (fields : List (List ℕ)) → HasWritten old text
    → Appends (text_written known old) (text_written known new) (row_text (writer_setup old) fields)
    → writer_setup new ≡ writer_setup old → fields_written new ≡ 0 → has_written new ≡ false → HasWritten new (text ++ row_text default_writer fields)
written old new text fields has adds same ended clean = record {
  setup = same ∙ has.setup;
  fields = ended;
  wrote = clean;
  text_is = appended (text_written known old) (text_written known new) text (row_text default_writer fields) has.text_is plain;
}
  where
    set : Appends (text_written known old) (text_written known new) (row_text flexible fields)
    set = subst (λ (w : WriterBuilder). Appends (text_written known old) (text_written known new) (row_text w fields)) has.setup adds

    plain : Appends (text_written known old) (text_written known new) (row_text default_writer fields)
    plain = subst (λ (t : List ℕ). Appends (text_written known old) (text_written known new) t) (row-flexible fields) set

-- ---- the text of the returns

abbrev lines : List (List (List ℕ)) → List ℕ
lines records = flat_map (row_text default_writer) records

pub begun : (w : Writer (Vec ℕ Global)) (fields header : List (List ℕ)) → fields ≡ header → HasWritten w ([] ++ row_text default_writer fields) → HasWritten w (lines (header ∷ []))
begun w fields header same has = subst (HasWritten w) (ap (row_text default_writer) same ∙ sym (append-nil (row_text default_writer header))) has

text-more : (con : Constituency) (rows : List StationRow) (row : StationRow) → returns_text con rows ++ lines (record_of row) ≡ returns_text con (rows ++ row ∷ [])
text-more con rows row =
    append_assoc (row_text default_writer (header_fields con)) (lines (flat_map record_of rows)) (lines (record_of row))
    ∙ ap (λ (t : List ℕ). row_text default_writer (header_fields con) ++ t) (sym (flat_map-append (row_text default_writer) (flat_map record_of rows) (record_of row)))
    ∙ ap (λ (l : List (List (List ℕ))). lines (header_fields con ∷ (flat_map record_of rows ++ l))) (sym (append-nil (record_of row)))
    ∙ ap (λ (l : List (List (List ℕ))). lines (header_fields con ∷ l)) (sym (flat_map-append record_of rows (row ∷ [])))

-- the record of one more station
pub one-more : (w : Writer (Vec ℕ Global)) (con : Constituency) (rows : List StationRow) (i : ℕ) (row : StationRow) → i < length rows → row ≡ get_or rows i row
    → HasWritten w (returns_text con (take i rows) ++ lines (record_of row)) → HasWritten w (returns_text con (take (i + 1) rows))
one-more w con rows i row less is has =
    subst (λ (l : List StationRow). HasWritten w (returns_text con l)) (ap (λ (x : StationRow). take i rows ++ x ∷ []) is ∙ sym (take_more rows i row less))
    (subst (HasWritten w) (text-more con (take i rows) row) has)

pub all-written : (result : Result (Vec ℕ Global) ReportFault) (w : Writer (Vec ℕ Global)) (con : Constituency) (rows : List StationRow) (i : ℕ) → length rows ≤ i
    → HasWritten w (returns_text con (take i rows)) → IfOk result (λ bytes. (text : List ℕ) → HasWritten w text → bytes.items ≡ text)
    → IfOk result (λ bytes. bytes.items ≡ returns_text con rows)
all-written (Ok bytes) w con rows i enough has says = says (returns_text con (take i rows)) has ∙ ap (returns_text con) (take_all i rows enough)
all-written (Err fault) w con rows i enough has says = tt

-- what the record of a return adds
pub row-added : (w : Writer (Vec ℕ Global)) (text : List ℕ) (fields : List (List ℕ)) (row : StationRow) (standing : StationReturn) → row.found ≡ Some standing
    → fields ≡ return_fields row.station standing → HasWritten w (text ++ row_text default_writer fields) → HasWritten w (text ++ lines (record_of row))
row-added w text fields row standing found same has =
    subst (λ (o : Option StationReturn). HasWritten w (text ++ lines (option_map_or (λ (s : StationReturn). return_fields row.station s ∷ []) o []))) (sym found)
    (subst (HasWritten w) (ap (λ (l : List (List ℕ)). text ++ row_text default_writer l) same ∙ ap (λ (t : List ℕ). text ++ t) (sym (append-nil (row_text default_writer (return_fields row.station standing))))) has)
