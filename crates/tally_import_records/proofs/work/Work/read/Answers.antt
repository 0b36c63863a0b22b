use Rattle.std.proofs.Common.{◌≡◌, ◌≤◌, ◌<◌, ◌+◌, ◌++◌, ◌∷◌, ◌∙◌, ℕ, List, [], Option, None, Some, Result, Ok, Err, IfOk, true, length, take, drop, false, sym, ap, subst, arith, length-append}
use Rattle.std.proofs.lemmas.Bool.{false≢true}
use Rattle.std.specs.declared.alloc.AllocError.{AllocError}
use Rattle.std.proofs.lemmas.List.{append-nil, length-take-le}
use Rattle.tally_import_records.specs.internal.Pieces.{Fills, FillsHeld, IsRest, TakesUp, bytes_of, ends_line, text_rows}
use Rattle.tally_import_records.specs.declared.held.HeldText.{HeldText}
use Rattle.tally_import_records.specs.declared.work.Work.{Work}
use Rattle.tally_import_records.specs.Watch.{NotesEnd}
use Rattle.tally_import_records.specs.declared.end.End.{End}
use Rattle.tally_import_records.specs.Separator.{separator}
use Rattle.tally_import_records.specs.internal.Text.{bytes_left, bytes_of_parts}
use Rattle.tally_import_records.proofs.WorkLemmas.{Begun-none, Begun-room}
use Rattle.tally_import_records.proofs.work.Work.read.Goals as goal

taken_up : (result : Result Work AllocError) (old_left left : Option (List ℕ)) (held new : HeldText) (end : End) (more : List ℕ) → FillsHeld old_left left held new (Some end) → IfOk result (λ r. bytes_of r ≡ new.bytes.items ++ more) → IfOk result (λ r. r.held.taken ≡ new.taken) → IfOk result (λ r. r.end ≡ Some end) → more ≡ [] → IfOk result (TakesUp old_left left held)
taken_up (Ok r) old_left left held new end more fills bytes taken ended none =
    let all : bytes_of r ≡ new.bytes.items = bytes ∙ ap (λ m. new.bytes.items ++ m) none ∙ append-nil new.bytes.items in
    subst (λ (e : Option End). Fills old_left left held.bytes.items held.taken (bytes_of r) r.held.taken e) (sym ended)
    (subst (λ (n : ℕ). Fills old_left left held.bytes.items held.taken (bytes_of r) n (Some end)) (sym taken)
    (subst (λ (l : List ℕ). Fills old_left left held.bytes.items held.taken l new.taken (Some end)) (sym all) fills))
taken_up (Err e) old_left left held new end more fills bytes taken ended none = tt

at_its_end : (P : Option End → Type 0) (end : End) → P (Some end) → (result : Result Work AllocError) → IfOk result (λ r. r.end ≡ Some end) → IfOk result (λ r. P r.end)
at_its_end P end p (Ok r) ended = subst P (sym ended) p
at_its_end P end p (Err e) ended = tt

few_held : (bytes more : List ℕ) (len taken : ℕ) → len ≡ length bytes → len ≤ taken + 1 → more ≡ [] → length (bytes ++ more) ≤ taken + 1
few_held bytes more len taken is few none = omega (arith, length-append bytes more, ap length none)

pub new-requires-2-clause-some : goal.new-requires-2-clause-some
new-requires-2-clause-some g c not =
    let piece = c.piece_size-piece.result in
    let bytes = c.fill.new.self.bytes.items in
    let fills = c.in_ok-end.ensures.fills in
    let last = subst (λ all. (size : ℕ) → size ≤ length all → ends_line (take size all) ≡ true → size ≤ piece) c.as_slice.ensures.value c.piece_size-piece.ensures.last in
    let text : bytes_left c.in_ok-text.text ≡ take piece bytes ++ separator c.args.sep ∷ [] =
    c.in_ok-text.ensures ∙ ap (λ l. take piece l ++ separator c.args.sep ∷ []) c.deref.ensures.value in
    let begun = Begun-none c.args.sep c.args.held.bytes.items in
    subst (λ t. 0 < length (text_rows c.args.sep t)) (sym text)
    ((Begun-room c.args.sep None c.args.held.bytes.items fills.0 bytes 0 piece begun fills.1 last).0 not)

pub last-requires-clause-begun : goal.last-requires-clause-begun
last-requires-clause-begun g c = (_, [], sym (append-nil _), Begun-none c.args.sep _)

pub last-requires-clause-few : goal.last-requires-clause-few
last-requires-clause-few g c = few_held _ _ _ _ c.fill.new.self.bytes.ok.0 c.fill.new.self.counted.0 (ap bytes_of_parts c.new.ensures.items)

pub returns-in-Some-clause-reading : goal.returns-in-Some-clause-reading
returns-in-Some-clause-reading g c = c.last.ensures.reading

pub slice_bounds-piece_text-end : goal.slice_bounds-piece_text-end
slice_bounds-piece_text-end g c =
    sym (length-take-le _ _ (subst (λ (l : List ℕ). c.piece_size-piece.result ≤ length l) (c.as_slice.ensures.value ∙ sym c.deref.ensures.value) c.piece_size-piece.ensures.within))

pub new-requires-2-clause-whole : goal.new-requires-2-clause-whole
new-requires-2-clause-whole g c never = absurd (false≢true never)

pub returns-clause-fills : goal.returns-clause-fills
returns-clause-fills g c = subst (λ (e : Option End). FillsHeld (g.R.Read.remaining c.args.input.now) (g.R.Read.remaining c.fill.new.input) c.args.held c.fill.new.self e) c.in_default.is c.in_ok-end.ensures.fills

pub returns-clause-size : goal.returns-clause-size
returns-clause-size g c e = (rw c.in_default.is at c.in_ok-end.ensures.size) e

pub returns-clause-count : goal.returns-clause-count
returns-clause-count g c e = (rw c.in_default.is at c.in_ok-end.ensures.count) e

pub returns-clause-failed : goal.returns-clause-failed
returns-clause-failed g c = rw c.in_default.is at c.in_ok-end.ensures.failed

pub returns-in-Some-clause-fills : goal.returns-in-Some-clause-fills
returns-in-Some-clause-fills g c =
    let fills = subst (λ (e : Option End). FillsHeld (g.R.Read.remaining c.args.input.now) (g.R.Read.remaining c.fill.new.input) c.args.held c.fill.new.self e) c.in-Some.is c.in_ok-end.ensures.fills in
    taken_up c.last.result _ _ c.args.held c.fill.new.self c.in-Some.end _ fills c.last.ensures.bytes c.last.ensures.taken c.last.ensures.end (ap bytes_of_parts c.new.ensures.items)

pub returns-in-Some-clause-failed : goal.returns-in-Some-clause-failed
returns-in-Some-clause-failed g c =
    let failed = subst (NotesEnd c.args.watch.now c.fill.new.watch) c.in-Some.is c.in_ok-end.ensures.failed in
    at_its_end (NotesEnd c.args.watch.now c.fill.new.watch) c.in-Some.end failed c.last.result c.last.ensures.end

pub returns-clause-reading : goal.returns-clause-reading
returns-clause-reading g c =
    let piece = c.piece_size-piece.result in
    let bytes = c.fill.new.self.bytes.items in
    let text : bytes_left c.in_ok-text.text ≡ take piece bytes ++ separator c.args.sep ∷ [] =
    c.in_ok-text.ensures ∙ ap (λ l. take piece l ++ separator c.args.sep ∷ []) c.deref.ensures.value in
    record {
      reading = c.in_ok-rest.ensures.reading;
      rest = subst (λ (t : List ℕ). IsRest false (drop 0 (text_rows c.args.sep t)) c.in_ok-rest.rest) text c.in_ok-rest.ensures.rest;
      piece = subst (λ (l : List ℕ). ends_line (take piece l) ≡ true) c.as_slice.ensures.value c.piece_size-piece.ensures.piece;
      within = λ _. subst (λ (l : List ℕ). piece ≤ length l) c.as_slice.ensures.value c.piece_size-piece.ensures.within;
      limit = λ e. (rw c.in_default.is at c.in_ok-end.ensures.limit) e;
      few = subst (λ (n : ℕ). n ≤ c.fill.new.self.taken + 1) c.fill.new.self.bytes.ok.0 c.fill.new.self.counted.0;
    }
