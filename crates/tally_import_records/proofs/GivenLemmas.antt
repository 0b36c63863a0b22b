-- The records that were given are the first of the text.
use Rattle.std.proofs.Common.{◌≡◌, ◌≢◌, ◌<◌, ◌≤◌, ◌+◌, ◌-◌, ◌++◌, ◌∙◌, ℕ, List, [], Option, Some, None, length, take, refl, sym, ap, arith, append_assoc}
use Rattle.std.specs.Prelude.{if◌then◌else◌}
use Rattle.std.proofs.lemmas.Bool.{lt-ltb, le-ltb}
use Rattle.std.proofs.lemmas.List.{append-nil, take_all}
use Rattle.tally_import_records.specs.Input.{AreAll, BeginsWith, Gave, complete_records, size_limit, text_records, text_stop}
use Rattle.tally_import_records.specs.Given.{Came, HasGiven, MayCome, sep_of, records_to_come}
use Rattle.tally_import_records.specs.declared.end.Stop.{Stop}
use Rattle.tally_import_records.specs.declared.end.Stop.TheVariants.{TooLong, Read}
use Rattle.tally_import_records.specs.declared.end.End.{End}
use Rattle.tally_import_records.specs.RecordsValue.{Records}
use Rattle.tally_import_records.specs.declared.separator.Sep.{Sep}
use Rattle.tally_import_records.proofs.FrontLemmas.{complete_records-front}
use Rattle.tally_import_records.proofs.StoppedLemmas.{complete_records-stopped}
use Rattle.tally_import_records.proofs.InputLemmas.{take-behind}

-- ---- the records of a text

-- a text within the limit
whole-text : (text : List ℕ) → length text ≤ size_limit → (take size_limit text ≡ text) × (text_stop text ≡ None)
whole-text text within = (take_all size_limit text within, ap (λ b. if b then Some TooLong else None) (le-ltb size_limit (length text) within))

-- a text past the limit
long-text : (text : List ℕ) → size_limit < length text → text_stop text ≡ Some TooLong
long-text text past = ap (λ b. if b then Some TooLong else None) (lt-ltb size_limit (length text) past)

-- all that came of a text without a failed read is the text within the limit
pub all-came : (sep : Sep) (text : List ℕ) (left : Option (List ℕ)) (bytes : List ℕ) (stop : Option Stop)
    → Gave text left bytes stop → stop ≢ Some Read → (take size_limit text ≡ bytes) × (text_stop text ≡ stop)
all-came sep text left bytes None gave other =
    let h = whole-text text gave.1 in
    (h.0 ∙ sym gave.0, h.1)
all-came sep text left bytes (Some TooLong) gave other = (sym gave.0, long-text text gave.1)
all-came sep text left bytes (Some Read) gave other = absurd (other refl)

pub AreAll-text : (sep : Sep) (text : List ℕ) (left : Option (List ℕ)) (given : List (List (List ℕ))) (stop : Option Stop)
    → AreAll sep (Some text) left given stop → stop ≢ Some Read → (text_records sep text ≡ given) × (text_stop text ≡ stop)
AreAll-text sep text left given stop all other =
    let came = all-came sep text left all.0 stop all.1 other in
    (ap (λ b. complete_records sep b (text_stop text)) came.0 ∙ ap (complete_records sep all.0) came.1 ∙ all.2, came.1)

-- ---- the front of a text that was given

-- more bytes leave the records that were complete, also where they go on past the limit
pub stopped-front : (sep : Sep) (bytes rest : List ℕ) (fault : Stop) (stop : Option Stop)
    → BeginsWith (complete_records sep (bytes ++ rest) stop) (complete_records sep bytes (Some fault))
stopped-front sep bytes rest fault None = complete_records-front sep bytes rest fault
stopped-front sep bytes rest fault (Some stop) = complete_records-stopped sep bytes rest fault stop

-- a text whose front came is this within the limit
front-text : (text bytes rest : List ℕ) → text ≡ bytes ++ rest → length bytes ≤ size_limit → take size_limit text ≡ bytes ++ take (size_limit - length bytes) rest
front-text text bytes rest is within =
    let all : size_limit ≡ length bytes + (size_limit - length bytes) = omega (arith, within) in
    ap (take size_limit) is ∙ ap (λ n. take n (bytes ++ rest)) all ∙ take-behind bytes rest (size_limit - length bytes)

at-end : (sep : Sep) (text : List ℕ) (left : Option (List ℕ)) (given later : List (List (List ℕ))) (bytes : List ℕ) (stop : Option Stop)
    → Gave text left bytes stop → complete_records sep (bytes ++ []) stop ≡ given ++ later → BeginsWith (text_records sep text) given
at-end sep text left given later bytes None gave same =
    let came = all-came sep text left bytes None gave (λ e. cc) in
    (later, ap (λ b. complete_records sep b (text_stop text)) (came.0 ∙ sym (append-nil bytes)) ∙ ap (complete_records sep (bytes ++ [])) came.1 ∙ same)
at-end sep text left given later bytes (Some TooLong) gave same =
    let came = all-came sep text left bytes (Some TooLong) gave (λ e. cc) in
    (later, ap (λ b. complete_records sep b (text_stop text)) (came.0 ∙ sym (append-nil bytes)) ∙ ap (complete_records sep (bytes ++ [])) came.1 ∙ same)
at-end sep text None given later bytes (Some Read) gave same = absurd gave.0
at-end sep text (Some rest) given later bytes (Some Read) gave same =
    let front = stopped-front sep bytes (take (size_limit - length bytes) rest) Read (text_stop text) in (
      later ++ front.0,
      ap (λ b. complete_records sep b (text_stop text)) (front-text text bytes rest gave.0 gave.1) ∙ front.1
          ∙ ap (λ l. l ++ front.0) (ap (λ b. complete_records sep b (Some Read)) (sym (append-nil bytes)) ∙ same) ∙ append_assoc given later front.0,
    )

front-given : (sep : Sep) (text : List ℕ) (left : Option (List ℕ)) (given : List (List (List ℕ))) (end : Option End) (count : ℕ) (bytes : List ℕ)
    (later : List ℕ → Option Stop → List (List (List ℕ)))
    → Came (Some text) left bytes count end
    → ((more : List ℕ) (stop : Option Stop) → MayCome end more stop → complete_records sep (bytes ++ more) stop ≡ given ++ later more stop)
    → BeginsWith (text_records sep text) given
front-given sep text None given None count bytes later came all = absurd came.0
front-given sep text (Some rest) given None count bytes later came all =
    let more = take (size_limit - length bytes) rest in
    let within : length bytes ≤ size_limit = omega (arith, came.1, came.2) in
    (later more (text_stop text), ap (λ b. complete_records sep b (text_stop text)) (front-text text bytes rest came.0 within) ∙ all more (text_stop text) tt)
front-given sep text left given (Some end) count bytes later came all =
    at-end sep text left given (later [] end.stop) bytes end.stop came (all [] end.stop (refl, refl))

-- the records that were given are the first of the text
pub HasGiven-front : (text : List ℕ) (left : Option (List ℕ)) (given : List (List (List ℕ))) (r : Records)
    → HasGiven (Some text) left given r → BeginsWith (text_records (sep_of r) text) given
HasGiven-front text left given r has = front-given r.sep text left given r.end r.taken has.0 (records_to_come r) has.1 has.2
