-- What still comes of the rows of a text, and what they end with.
use Rattle.std.proofs.Common.{◌≡◌, ◌≤◌, ◌+◌, ◌++◌, ◌∷◌, ◌∙◌, ℕ, List, [], Option, Some, None, Ok, length, length-append, append_assoc, append-nil, refl, sym, ap, subst, arith}
use Rattle.std.specs.Prelude.{IfSome}
use Rattle.tally_returns_rows.specs.Source.{Coming, GivesNext, IsWithinRowLimit, row_limit}
use Rattle.tally_returns_rows.specs.declared.import.Row.{Row}
use Rattle.tally_returns_rows.specs.declared.source.ImportFault.{ImportFault}
use Rattle.tally_returns_rows.specs.declared.source.ImportFault.TheVariants as cause
use Rattle.tally_import.specs.ReturnRows.{text_coming}
use Rattle.tally_import.specs.ReturnRowsValue.{ReturnRows, rows_to_come, unread_rows}
use Rattle.tally_import.specs.internal.ReturnRowsWithin.{coming-within}
use Rattle.tally_import_recount.specs.internal.Finds.{IsFaultOfRows}

-- after these of the rows of a text, this is left
abbrev pub ComesAfter : Coming → List Row → Option Coming → Type 0
ComesAfter whole before left =
    (rest : List Row) × (whole.rows ≡ before ++ rest) × (left ≡ Some (record { rows = rest; fault = whole.fault }))

-- the same of the text of some rows, where it is known
abbrev pub ComesInText : ReturnRows → List Row → Option Coming → Type 0
ComesInText rows before left = IfSome rows.text (λ text. ComesAfter (text_coming rows.con rows.sep text) before left)

map-known : {T : Type 0} (o : Option T) (P Q : T → Type 0) → ((x : T) → P x → Q x) → IfSome o P → IfSome o Q
map-known None P Q more p = tt
map-known (Some x) P Q more p = more x p

-- of a text of which nothing was read, all comes
pub rows-start : (rows : ReturnRows) → rows ≡ unread_rows rows.con rows.sep rows.text → ComesInText rows [] (rows_to_come rows)
rows-start rows e = subst (λ (r : ReturnRows). ComesInText rows [] (rows_to_come r)) (sym e) (go rows.text)
  where
    go : (text : Option (List ℕ)) → IfSome text (λ t. ComesAfter (text_coming rows.con rows.sep t) [] (rows_to_come (unread_rows rows.con rows.sep text)))
    go None = tt
    go (Some t) = ((text_coming rows.con rows.sep t).rows, refl, refl)

next : (whole : Coming) (before : List Row) (left new : Option Coming) (row : Row) → ComesAfter whole before left → GivesNext left (Ok (Some row)) new
    → ComesAfter whole (before ++ row ∷ []) new
next whole before left new row so_far gives =
    let given = subst (λ (o : Option Coming). GivesNext o (Ok (Some row)) new) so_far.2 gives in
    (given.0, so_far.1 ∙ ap (λ l. before ++ l) given.1 ∙ sym (append_assoc before (row ∷ []) given.0), given.2)

pub rows-next : (rows : ReturnRows) (before : List Row) (left new : Option Coming) (row : Row) → ComesInText rows before left → GivesNext left (Ok (Some row)) new
    → ComesInText rows (before ++ row ∷ []) new
rows-next rows before left new row so_far gives =
    map-known rows.text (λ t. ComesAfter (text_coming rows.con rows.sep t) before left) (λ t. ComesAfter (text_coming rows.con rows.sep t) (before ++ row ∷ []) new)
    (λ t so. next (text_coming rows.con rows.sep t) before left new row so gives) so_far

ended : (whole : Coming) (before : List Row) (left new : Option Coming) → ComesAfter whole before left → GivesNext left (Ok None) new
    → whole ≡ record { rows = before; fault = None }
ended whole before left new so_far gives =
    let given = subst (λ (o : Option Coming). GivesNext o (Ok None) new) so_far.2 gives in
    let rows : whole.rows ≡ before = so_far.1 ∙ ap (λ l. before ++ l) given.0.0 ∙ append-nil before in
    let fault : whole.fault ≡ None = given.0.1 in
    ap (λ (l : List Row). coming l whole.fault) rows ∙ ap (coming before) fault
  where
    coming : List Row → Option ImportFault → Coming
    coming rows fault = record { rows = rows; fault = fault }

-- at the end, they are all
pub rows-ended : (rows : ReturnRows) (before : List Row) (left new : Option Coming) → ComesInText rows before left → GivesNext left (Ok None) new
    → IfSome rows.text (λ t. text_coming rows.con rows.sep t ≡ record { rows = before; fault = None })
rows-ended rows before left new so_far gives =
    map-known rows.text (λ t. ComesAfter (text_coming rows.con rows.sep t) before left) (λ t. text_coming rows.con rows.sep t ≡ record { rows = before; fault = None })
    (λ t so. ended (text_coming rows.con rows.sep t) before left new so gives) so_far

-- there are at most 20,000
pub rows-many : (rows : ReturnRows) (before : List Row) (left : Option Coming) (f : ImportFault) → ComesInText rows before left → row_limit + 1 ≤ length before
    → f ≡ cause.TooLong → IsFaultOfRows rows f
rows-many rows before left f so_far many is = subst (IsFaultOfRows rows) (sym is) (go rows.text so_far (coming-within (unread_rows rows.con rows.sep rows.text)))
  where
    go : (text : Option (List ℕ)) → IfSome text (λ t. ComesAfter (text_coming rows.con rows.sep t) before left)
        → IfSome (rows_to_come (unread_rows rows.con rows.sep text)) IsWithinRowLimit
        → IfSome text (λ t. (text_coming rows.con rows.sep t).fault ≡ Some cause.TooLong)
    go None so within = tt
    go (Some t) so within =
        absurd (omega (arith, many, within.0, ap length so.1, length-append before so.0))
