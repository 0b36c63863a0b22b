-- The records of an input at work.
use Rattle.std.proofs.Common.{◌≡◌, ◌<◌, ◌≤◌, ◌+◌, ◌++◌, ◌∷◌, ◌∙◌, ℕ, List, [], Bool, true, false, Option, Some, None, Result, Ok, Err, length, take, drop, refl, sym, ap, subst, arith, length-append, length-drop, append_assoc}
use Rattle.std.specs.Prelude.{if◌then◌else◌, IfOk, Vec, is_none}
use Rattle.std.specs.Io.KnownBytes.{Consumes}
use Rattle.std.proofs.lemmas.List.{append-nil, flat_map_more, take-append-drop, take-append-le, length-take, length-take-le, take-take, take_all}
use Rattle.csv.specs.Machine.{next_record}
use Rattle.csv.specs.Reading.{records, records_from, strip_bom}
use Rattle.csv.specs.Records.{fields_of}
use Rattle.tally_import_records.specs.Input.{AreAll, Gave, complete_records, without_last}
use Rattle.tally_import_records.specs.Given.{Came, HasGiven, MayCome, records_to_come}
use Rattle.tally_import_records.specs.internal.Pieces.{Begun, Fills, HasGivenAt, IsBegunIn, IsLast, IsPiece, IsWorking, IsRest, IsSpent, bytes_at, bytes_of, ends_line, is_whole, nothing, piece_rows, text_rows}
use Rattle.tally_import_records.specs.internal.Reading.{IsReading, rows_left}
use Rattle.tally_import_records.specs.Separator.{separator, config}
use Rattle.tally_import_records.specs.internal.Text.{bytes_of_parts}
use Rattle.std.specs.declared.alloc.Global.{Global}
use Rattle.tally_import_records.specs.declared.end.Stop.{Stop}
use Rattle.tally_import_records.specs.declared.end.Stop.TheVariants.{TooLong, Read}
use Rattle.tally_import_records.specs.declared.end.End.{End}
use Rattle.tally_import_records.specs.declared.held.HeldText.{HeldText}
use Rattle.tally_import_records.specs.declared.piece.Rest.{Rest}
use Rattle.tally_import_records.specs.declared.work.Work.{Work}
use Rattle.tally_import_records.specs.RecordsValue.{Records}
use Rattle.tally_import_records.specs.declared.separator.Sep.{Sep}
use Rattle.tally_import_records.specs.declared.separator.Sep.TheVariants.{Comma, Semicolon}
use Rattle.tally_import_records.proofs.ComingLemmas.{gives, anew, more-behind, as-many, records-few, drop-next, next-dropped, without_last-drop}

-- ---- the next record of a piece

-- the record that is given: the one ahead, or the reader's where the input ended of itself
abbrev pub given_record : Bool → List (List ℕ) → List (List ℕ) → List (List ℕ)
given_record true ahead fields = fields
given_record false ahead fields = ahead

-- what comes is this record and what comes after it
gives-next : (sep : Sep) (end : Option End) (bytes : List ℕ) (piece k : ℕ) (ahead fields : List (List ℕ)) (left : List (List (List ℕ))) (more : List ℕ) (stop : Option Stop)
    → IsPiece end bytes piece
    → drop k (piece_rows sep end (take piece bytes)) ≡ (if is_whole end then fields ∷ left else ahead ∷ fields ∷ left)
    → MayCome end more stop
    → drop k (complete_records sep (bytes ++ more) stop) ≡ given_record (is_whole end) ahead fields ∷ drop (k + 1) (complete_records sep (bytes ++ more) stop)
gives-next sep None bytes piece k ahead fields left more stop line is may =
    let split : bytes ++ more ≡ take piece bytes ++ (drop piece bytes ++ more) =
    ap (λ l. l ++ more) (sym (take-append-drop piece bytes)) ∙ append_assoc (take piece bytes) (drop piece bytes) more in
    subst (λ t. drop k (complete_records sep t stop) ≡ ahead ∷ drop (k + 1) (complete_records sep t stop)) (sym split)
    (gives sep (take piece bytes) k ahead fields left (drop piece bytes ++ more) stop line is)
gives-next sep (Some end) bytes piece k ahead fields left more stop line is may = go end.stop refl
  where
    whole : bytes ++ more ≡ bytes
    whole = ap (λ l. bytes ++ l) may.0 ∙ append-nil bytes

    Goal : Option Stop → Type 0
    Goal how = drop k (complete_records sep (bytes ++ more) how)
        ≡ given_record (is_none how) ahead fields ∷ drop (k + 1) (complete_records sep (bytes ++ more) how)

    rows : (how : Option Stop) → end.stop ≡ how
        → drop k (records (config sep) (strip_bom (if is_none how then bytes else bytes ++ separator sep ∷ []))) ≡ (if is_none how then fields ∷ left else ahead ∷ fields ∷ left)
    rows how same =
        subst (λ h. drop k (records (config sep) (strip_bom (if is_none h then bytes else bytes ++ separator sep ∷ []))) ≡ (if is_none h then fields ∷ left else ahead ∷ fields ∷ left)) same
        (ap (λ t. drop k (piece_rows sep (Some end) t)) (sym line) ∙ is)

    go : (how : Option Stop) → end.stop ≡ how
        → drop k (complete_records sep (bytes ++ more) stop) ≡ given_record (is_none end.stop) ahead fields ∷ drop (k + 1) (complete_records sep (bytes ++ more) stop)
    go None same =
        let here : Goal None = next-dropped k (complete_records sep (bytes ++ more) None) fields left
        (ap (λ t. drop k (complete_records sep t None)) whole ∙ rows None same) in
        rw (may.1, same) here
    go (Some fault) same =
        let here : Goal (Some fault) = next-dropped k (complete_records sep (bytes ++ more) (Some fault)) ahead (without_last (fields ∷ left))
        (ap (λ t. drop k (complete_records sep t (Some fault))) whole ∙ without_last-drop k _ ∙ ap without_last (rows (Some fault) same)) in
        rw (may.1, same) here

pub HasGiven-next : (text left : Option (List ℕ)) (given : List (List (List ℕ))) (old : Work) (rest : Rest) (fields : List (List ℕ)) (behind : List (List (List ℕ)))
    → IsWorking old → rows_left old.rest.reader.reader.value ≡ fields ∷ behind → HasGivenAt text left given old
    → HasGivenAt text left (given ++ given_record (is_whole old.end) (fields_of old.rest.ahead) fields ∷ []) (record old { given = old.given + 1; rest = rest })
HasGiven-next text left given old rest fields behind reading is has = (
  has.0,
  has.1,
  λ more stop may.
      has.2 more stop may
      ∙ ap (λ l. given ++ l) (gives-next old.sep old.end (bytes_of old) old.piece old.given (fields_of old.rest.ahead) fields behind more stop reading.piece
      (rows (is_whole old.end) reading.rest) may)
      ∙ sym (append_assoc given (given_record (is_whole old.end) (fields_of old.rest.ahead) fields ∷ []) _),
)
  where
    rows : (whole : Bool) → IsRest whole (drop old.given (piece_rows old.sep old.end (take old.piece (bytes_of old)))) old.rest
        → drop old.given (piece_rows old.sep old.end (take old.piece (bytes_of old)))
        ≡ (if whole then fields ∷ behind else fields_of old.rest.ahead ∷ fields ∷ behind)
    rows true same = same ∙ is
    rows false same = same ∙ ap (λ l. fields_of old.rest.ahead ∷ l) is

-- ---- the end

spent-none : (sep : Sep) (end : End) (bytes : List ℕ) (piece k : ℕ) (rest : Rest)
    → IsPiece (Some end) bytes piece → IsLast (is_none end.stop) (drop k (piece_rows sep (Some end) (take piece bytes))) rest
    → drop k (complete_records sep (bytes ++ []) end.stop) ≡ []
spent-none sep end bytes piece k rest all last = go end.stop refl
  where
    Rows : Option Stop → List (List (List ℕ))
    Rows how = drop k (records (config sep) (strip_bom (if is_none how then bytes else bytes ++ separator sep ∷ [])))

    were : (how : Option Stop) → end.stop ≡ how → IsLast (is_none how) (Rows how) rest
    were how same = subst (λ h. IsLast (is_none h) (Rows h) rest) same
        (subst (λ t. IsLast (is_none end.stop) (drop k (piece_rows sep (Some end) t)) rest) all last)

    go : (how : Option Stop) → end.stop ≡ how → drop k (complete_records sep (bytes ++ []) end.stop) ≡ []
    go None same = ap (λ h. drop k (complete_records sep (bytes ++ []) h)) same ∙ ap (λ t. drop k (complete_records sep t None)) (append-nil bytes) ∙ were None same
    go (Some fault) same =
        ap (λ h. drop k (complete_records sep (bytes ++ []) h)) same ∙ ap (λ t. drop k (complete_records sep t (Some fault))) (append-nil bytes)
        ∙ without_last-drop k _ ∙ ap without_last (were (Some fault) same)

pub HasGiven-all : (text left : Option (List ℕ)) (given : List (List (List ℕ))) (r : Work) (end : End)
    → IsSpent r → r.end ≡ Some end → HasGivenAt text left given r → AreAll r.sep text left given end.stop
HasGiven-all None left given r end spent is has = tt
HasGiven-all (Some t) left given r end spent is has =
    let may : MayCome r.end [] end.stop = subst (λ e. MayCome e [] end.stop) (sym is) (refl, refl) in
    let none = spent-none r.sep end (bytes_of r) r.piece r.given r.rest (subst (λ e. IsPiece e (bytes_of r) r.piece) is spent.piece)
    (subst (λ e. IsLast (is_whole e) (drop r.given (piece_rows r.sep e (take r.piece (bytes_of r)))) r.rest) is spent.last) in (
      has.0,
      subst (Came (Some t) left has.0 r.held.taken) is has.1,
      ap (λ b. complete_records r.sep b end.stop) (sym (append-nil has.0)) ∙ has.2 [] end.stop may ∙ ap (λ l. given ++ l) none ∙ append-nil given,
    )

-- ---- more of the input

-- where the input goes on, what it gave is held
pub bytes_of-open : (r : Work) → r.end ≡ None → r.held.bytes.items ≡ bytes_of r
bytes_of-open r goes = ap (λ end. bytes_at end r.held r.last.value) (sym goes)

-- parts, and one more after them
pub joined-more : (parts : List (Vec ℕ Global)) (part : Vec ℕ Global) → bytes_of_parts (parts ++ part ∷ []) ≡ bytes_of_parts parts ++ part.items
joined-more parts part = sym (flat_map_more (λ (p : Vec ℕ Global). p.items) [] parts part)

-- what came after nothing, and what came after that
pub Fills-on : (old_left left new_left : Option (List ℕ)) (taken more most : ℕ) (bytes came : List ℕ) (end : Option End)
    → Fills old_left left [] taken bytes more None → Fills left new_left [] more came most end
    → Fills old_left new_left [] taken (bytes ++ came) most end
Fills-on old_left left new_left taken more most bytes came end one two = (
  bytes ++ came,
  refl,
  λ text before given counted.
      let first = subst (λ b. Came text left (before ++ b) more None) (sym one.1) (one.2 text before given counted) in
      subst (λ b. Came text new_left b most end) (append_assoc before bytes came)
      (subst (λ b. Came text new_left ((before ++ bytes) ++ b) most end) (sym two.1) (two.2 text (before ++ bytes) first.0 first.1)),
)

pub HasGiven-grown : (text old_left left : Option (List ℕ)) (given : List (List (List ℕ))) (old new : Work)
    → old.end ≡ None → Fills old_left left (bytes_of old) old.held.taken (bytes_of new) new.held.taken new.end → new.sep ≡ old.sep → new.given ≡ old.given
    → HasGivenAt text old_left given old → HasGivenAt text left given new
HasGiven-grown text old_left left given old new goes fills sep same has =
    let came = subst (Came text old_left has.0 old.held.taken) goes has.1 in (
      has.0 ++ fills.0,
      fills.2 text has.0 came.0 came.1,
      λ more stop may.
          ap (λ s. complete_records s ((has.0 ++ fills.0) ++ more) stop) sep
          ∙ ap (λ b. complete_records old.sep b stop) (append_assoc has.0 fills.0 more)
          ∙ has.2 (fills.0 ++ more) stop (subst (λ e. MayCome e (fills.0 ++ more) stop) (sym goes) tt)
          ∙ ap (λ b. given ++ drop old.given (complete_records old.sep b stop))
          (sym (append_assoc (bytes_of old) fills.0 more) ∙ ap (λ b. b ++ more) (sym fills.1))
          ∙ ap (λ k. given ++ drop k (complete_records old.sep (bytes_of new ++ more) stop)) (sym same)
          ∙ ap (λ s. given ++ drop new.given (complete_records s (bytes_of new ++ more) stop)) (sym sep),
    )

anew-at : (sep : Sep) (piece : List ℕ) (k : ℕ) (rest : List ℕ) (stop : Option Stop)
    → 0 < length piece → ends_line piece ≡ true → drop k (piece_rows sep None piece) ≡ nothing ∷ []
    → drop k (complete_records sep (piece ++ rest) stop) ≡ complete_records sep (10 ∷ rest) stop
anew-at sep [] k rest stop some line is = absurd (omega (arith, some))
anew-at sep (c ∷ ys) k rest stop some line is = anew sep c ys k rest stop line is

pub HasGiven-dropped : (text old_left left : Option (List ℕ)) (given : List (List (List ℕ))) (old new : Work) (middle : HeldText) (done : ℕ)
    → old.end ≡ None → 0 < done → done ≤ length (bytes_of old)
    → ends_line (take done (bytes_of old)) ≡ true → drop old.given (piece_rows old.sep None (take done (bytes_of old))) ≡ nothing ∷ []
    → middle.bytes.items ≡ 10 ∷ drop done (bytes_of old) → middle.taken ≡ old.held.taken
    → Fills old_left left middle.bytes.items middle.taken (bytes_of new) new.held.taken new.end → new.sep ≡ old.sep → new.given ≡ 0
    → HasGivenAt text old_left given old → HasGivenAt text left given new
HasGiven-dropped text old_left left given old new middle done goes some within line rows front taken fills sep none has =
    let came = subst (Came text old_left has.0 old.held.taken) goes has.1 in
    let bytes = bytes_of old in
    let size : 0 < length (take done bytes) = omega (arith, length-take-le done bytes within, some) in (
      has.0 ++ fills.0,
      fills.2 text has.0 came.0 (taken ∙ came.1),
      λ more stop may.
          ap (λ s. complete_records s ((has.0 ++ fills.0) ++ more) stop) sep
          ∙ ap (λ b. complete_records old.sep b stop) (append_assoc has.0 fills.0 more)
          ∙ has.2 (fills.0 ++ more) stop (subst (λ e. MayCome e (fills.0 ++ more) stop) (sym goes) tt)
          ∙ ap (λ b. given ++ drop old.given (complete_records old.sep (b ++ (fills.0 ++ more)) stop)) (sym (take-append-drop done bytes))
          ∙ ap (λ b. given ++ drop old.given (complete_records old.sep b stop)) (append_assoc (take done bytes) (drop done bytes) (fills.0 ++ more))
          ∙ ap (λ l. given ++ l) (anew-at old.sep (take done bytes) old.given (drop done bytes ++ (fills.0 ++ more)) stop size line rows)
          ∙ ap (λ b. given ++ complete_records old.sep b stop) (ap (λ l. 10 ∷ l) (sym (append_assoc (drop done bytes) fills.0 more)) ∙ ap (λ b. b ++ more) (ap (λ b. b ++ fills.0) (sym front) ∙ sym fills.1))
          ∙ ap (λ k. given ++ drop k (complete_records old.sep (bytes_of new ++ more) stop)) (sym none)
          ∙ ap (λ s. given ++ drop new.given (complete_records s (bytes_of new ++ more) stop)) (sym sep),
    )

-- ---- room for the records that were given

pub Begun-room : (sep : Sep) (end : Option End) (bytes came all : List ℕ) (given piece : ℕ)
    → Begun sep bytes given → all ≡ bytes ++ came → ((size : ℕ) → size ≤ length all → ends_line (take size all) ≡ true → size ≤ piece)
    → (is_whole end ≡ false → given < length (piece_rows sep end (take piece all)))
    × (is_whole end ≡ true → given ≤ length (piece_rows sep end (take piece all)))
Begun-room sep end bytes came all given piece begun is last = (some, whole)
  where
    size : ℕ
    size = begun.0

    front : take size all ≡ take size bytes
    front = ap (take size) is ∙ take-append-le size bytes came begun.2

    longer : size ≤ piece
    longer = last size (omega (arith, begun.2, ap length is, length-append bytes came)) (ap ends_line front ∙ begun.3)

    split : take piece all ≡ take size bytes ++ drop size (take piece all)
    split = sym (take-append-drop size (take piece all)) ∙ ap (λ l. l ++ drop size (take piece all)) (take-take size piece all longer ∙ front)

    some : is_whole end ≡ false → given < length (piece_rows sep end (take piece all))
    some not =
        subst (λ w. given < length (records (config sep) (strip_bom (if w then take piece all else take piece all ++ separator sep ∷ [])))) (sym not)
        (subst (λ t. given < length (records (config sep) (strip_bom (t ++ separator sep ∷ [])))) (sym split)
        (more-behind sep (take size bytes) given begun.1 (drop size (take piece all)) begun.3 begun.4))

    whole : is_whole end ≡ true → given ≤ length (piece_rows sep end (take piece all))
    whole ended =
        subst (λ w. given ≤ length (records (config sep) (strip_bom (if w then take piece all else take piece all ++ separator sep ∷ [])))) (sym ended)
        (subst (λ t. given ≤ length (records (config sep) (strip_bom t))) (sym split)
        (as-many sep (take size bytes) given begun.1 (drop size (take piece all)) TooLong begun.4))

-- the same for the last piece, which is all that there is, as the reader gets it
pub IsBegunIn-room : (sep : Sep) (end : End) (all text : List ℕ) (given : ℕ)
    → IsBegunIn sep all given → text ≡ (if is_whole (Some end) then all else all ++ separator sep ∷ [])
    → (is_whole (Some end) ≡ false → given < length (text_rows sep text))
    × (is_whole (Some end) ≡ true → given ≤ length (text_rows sep text))
IsBegunIn-room sep end all text given begun is =
    let room = Begun-room sep (Some end) begun.0 begun.1 all given (length all) begun.3 begun.2 (λ size within line. within) in
    let rows : length (piece_rows sep (Some end) (take (length all) all)) ≡ length (text_rows sep text) =
    ap (λ t. length (piece_rows sep (Some end) t)) (take_all (length all) all (omega arith)) ∙ ap (λ t. length (text_rows sep t)) (sym is) in (
      λ not. subst (λ n. given < n) rows (room.0 not),
      λ whole. subst (λ n. given ≤ n) rows (room.1 whole),
    )

-- what is left of it, as what is left of the last piece
pub IsRest-last : (sep : Sep) (end : End) (all text : List ℕ) (piece given : ℕ) (rest : Rest)
    → length all ≤ piece → text ≡ (if is_whole (Some end) then all else all ++ separator sep ∷ [])
    → IsRest (is_whole (Some end)) (drop given (text_rows sep text)) rest
    → IsRest (is_whole (Some end)) (drop given (piece_rows sep (Some end) (take piece all))) rest
IsRest-last sep end all text piece given rest within is left =
    subst (λ rows. IsRest (is_whole (Some end)) (drop given rows) rest)
    (ap (text_rows sep) is ∙ ap (piece_rows sep (Some end)) (sym (take_all piece all within))) left

-- before anything is held nothing was given
pub Begun-none : (sep : Sep) (bytes : List ℕ) → Begun sep bytes 0
unfolding strip_bom records_from next_record
Begun-none Comma bytes = (0, nothing, omega arith, refl, refl)
Begun-none Semicolon bytes = (0, nothing, omega arith, refl, refl)

pub Begun-spent : (r : Work) → IsSpent r → r.end ≡ None → Begun r.sep (bytes_of r) r.given
Begun-spent r spent goes = (
  r.piece,
  fields_of r.rest.ahead,
  spent.within goes,
  subst (λ e. IsPiece e (bytes_of r) r.piece) goes spent.piece,
  subst (λ e. IsLast (is_whole e) (drop r.given (piece_rows r.sep e (take r.piece (bytes_of r)))) r.rest) goes spent.last,
)

pub HasGiven-new : (old_left left : Option (List ℕ)) (held : HeldText) (r : Work)
    → held.bytes.items ≡ [] → held.taken ≡ 0 → Fills old_left left held.bytes.items held.taken (bytes_of r) r.held.taken r.end → r.given ≡ 0 → HasGivenAt old_left left [] r
HasGiven-new old_left left held r none taken fills given = (
  fills.0,
  fills.2 old_left [] (consumes old_left) taken,
  λ more stop may.
      ap (λ b. complete_records r.sep (b ++ more) stop) (sym (fills.1 ∙ ap (λ b. b ++ fills.0) none))
      ∙ ap (λ k. drop k (complete_records r.sep (bytes_of r ++ more) stop)) (sym given),
)
  where
    consumes : (text : Option (List ℕ)) → Consumes text text []
    consumes None = tt
    consumes (Some t) = refl

-- ---- the reader's next record

rows-next : (whole : Bool) (k : ℕ) (rows : List (List (List ℕ))) (old new : Rest) (fields : List (List ℕ))
    → IsRest whole (drop k rows) old → rows_left old.reader.reader.value ≡ fields ∷ rows_left new.reader.reader.value → (whole ≡ false → fields_of new.ahead ≡ fields)
    → IsRest whole (drop (k + 1) rows) new
rows-next true k rows old new fields rest is ahead = drop-next k rows fields _ (rest ∙ is)
rows-next false k rows old new fields rest is ahead =
    drop-next k rows (fields_of old.ahead) _ (rest ∙ ap (λ l. fields_of old.ahead ∷ l) (is ∙ ap (λ f. f ∷ rows_left new.reader.reader.value) (sym (ahead refl))))

pub IsReadingOn-next : (old : Work) (rest : Rest) (fields : List (List ℕ))
    → IsWorking old → IsReading rest.reader.reader.value → rows_left old.rest.reader.reader.value ≡ fields ∷ rows_left rest.reader.reader.value → (is_whole old.end ≡ false → fields_of rest.ahead ≡ fields)
    → IsWorking (record old { given = old.given + 1; rest = rest })
IsReadingOn-next old rest fields reading reader is ahead = record {
  reading = reader;
  rest = rows-next (is_whole old.end) old.given (piece_rows old.sep old.end (take old.piece (bytes_of old))) old.rest rest fields reading.rest is ahead;
  piece = reading.piece;
  within = reading.within;
  limit = reading.limit;
  few = reading.few;
}

-- no more records were given than bytes are held, but for two
pub given-few : (r : Work) (fields : List (List ℕ)) (left : List (List (List ℕ))) → IsWorking r → rows_left r.rest.reader.reader.value ≡ fields ∷ left
    → r.given ≤ length (bytes_of r) + 2
given-few r fields left reading is = go (is_whole r.end) reading.rest
  where
    piece : List ℕ
    piece = take r.piece (bytes_of r)

    text : Bool → List ℕ
    text whole = if whole then piece else piece ++ separator r.sep ∷ []

    few : (whole : Bool) → length (text whole) ≤ length (bytes_of r) + 1
    few true = omega (arith, length-take r.piece (bytes_of r))
    few false = omega (arith, length-take r.piece (bytes_of r), length-append piece (separator r.sep ∷ []))

    go : (whole : Bool) → IsRest whole (drop r.given (records (config r.sep) (strip_bom (text whole)))) r.rest → r.given ≤ length (bytes_of r) + 2
    go true rest = omega (arith, few true, records-few r.sep (text true), ap length (rest ∙ is), length-drop r.given (records (config r.sep) (strip_bom (text true))))
    go false rest = omega (arith, few false, records-few r.sep (text false), ap length rest, length-drop r.given (records (config r.sep) (strip_bom (text false))))

pub IfOk-both : {T E : Type 0} {P Q R : T → Type 0} (r : Result T E) → IfOk r P → IfOk r Q → ((x : T) → P x → Q x → R x) → IfOk r R
IfOk-both (Ok x) p q both = both x p q
IfOk-both (Err e) p q both = tt

-- ---- the records so far, as those of a text that was stopped there

abbrev pub Partly : Records → Type 0
Partly r = (more : List (List (List ℕ))) × (stop : Option Stop)
    × ((text left : Option (List ℕ)) (given : List (List (List ℕ))) → HasGiven text left given r → AreAll r.sep text left (given ++ more) stop)

pub HasGiven-partly : (r : Records) → Partly r
HasGiven-partly r = go r.end refl
  where
    at : (end : Option End) (how : Option Stop) → r.end ≡ end → MayCome end [] how
        → ((t : List ℕ) (left : Option (List ℕ)) (bytes : List ℕ) → Came (Some t) left bytes r.taken end → Gave t left bytes how) → Partly r
    at end how is may gave = (records_to_come r [] how, how, all)
      where
        all : (text left : Option (List ℕ)) (given : List (List (List ℕ))) → HasGiven text left given r → AreAll r.sep text left (given ++ records_to_come r [] how) how
        all None left given has = tt
        all (Some t) left given has = (
          has.0,
          gave t left has.0 (subst (Came (Some t) left has.0 r.taken) is has.1),
          ap (λ b. complete_records r.sep b how) (sym (append-nil has.0)) ∙ has.2 [] how (subst (λ e. MayCome e [] how) (sym is) may),
        )

    go : (end : Option End) → r.end ≡ end → Partly r
    go None is = at None (Some Read) is tt (λ t left bytes came. (came.0, omega (arith, came.1, came.2)))
    go (Some end) is = at (Some end) end.stop is (refl, refl) (λ t left bytes came. came)

pub IfOk-then : {T E : Type 0} {P Q : T → Type 0} (r : Result T E) → IfOk r P → ((x : T) → P x → Q x) → IfOk r Q
IfOk-then (Ok x) p more = more x p
IfOk-then (Err e) p more = tt
