-- An import, so far.
use Rattle.std.proofs.Common.{◌≡◌, ◌≤◌, ◌⊎◌, inl, inr, ◌+◌, ◌++◌, ◌∷◌, ◌∙◌, ℕ, List, [], Option, Some, None, Result, Ok, Err, length, refl, sym, ap, subst, arith, append-nil, append_assoc, length-append}
use Rattle.std.specs.Prelude.{All, IfErr, IfOk, IfSome}
use Rattle.std.proofs.lemmas.List.Elements.{All-head, All-nil, All-push, All-tail}
use Rattle.tally_keeper.specs.Kept.{Kept, state_in}
use Rattle.tally_setup.specs.Constituency.{Constituency}
use Rattle.tally_returns.specs.Lodge.{Stations, lodge}
use Rattle.tally_returns.specs.Return.{Returns}
use Rattle.tally_returns.specs.State.{State, stations_of}
use Rattle.tally_returns.specs.declared.ask.Ask.TheVariants.{Lodge}
use Rattle.tally_keeper.specs.internal.Held.{IsHeld, returns_without}
use Rattle.tally_returns_rows.specs.Import.{RowAnswer, IsBelow, IsCodedRow, row_answer, after_row, answers, returns_after_import, count_of, count_with_row}
use Rattle.tally_returns_rows.specs.Given.{with_given}
use Rattle.tally_keeper.specs.Keeper.{IsImportFault, IsImportOf, IsOwnFault, Tries}
use Rattle.tally_returns_rows.specs.Source.{AreAllGiven, AreGiven, Coming, Delivery, GaveAll, IsSudden, GivesNext, SourceAt, ends_by, row_limit}
use Rattle.tally_returns_rows.specs.NamedRows.{NamesRows, named_row, named_rows}
use Rattle.tally_returns_rows.specs.declared.import.ImportCount.{ImportCount}
use Rattle.tally_returns_rows.specs.declared.import.NamedRow.{NamedRow}
use Rattle.tally_returns_rows.specs.declared.import.Row.{Row}
use Rattle.tally_returns_rows.specs.declared.import.Row.TheVariants as row
use Rattle.tally_returns_rows.specs.declared.source.ImportFault.{ImportFault}
use Rattle.tally_keeper.proofs.HeldLemmas.{held-lodge}
use Rattle.tally_returns_rows.proofs.ImportLemmas.{count_of-below, count_of-push}
use Rattle.tally_returns_rows.proofs.RowsLemmas.{imported-push, answers-push, length-answers, named_rows-push}

-- what a source answers to a call, its state before it and after it
abbrev pub GivesAt : SourceAt → Result (Option Row) ImportFault → SourceAt → Type 0
GivesAt left r next = GivesNext left.coming r next.coming × (next.given ≡ with_given left.given r) × (next.ended ≡ ends_by r)

-- these rows came of all that are known, and this is left
abbrev pub AreTaken : Option Coming → List Row → Option Coming → Type 0
AreTaken all rows left = IfSome all (λ known. (rest : List Row) × (left ≡ Some (record known { rows = rest })) × (known.rows ≡ rows ++ rest))

-- this many rows came; they were answered what was counted, and left these returns
pub record SoFar (stations : Stations) (old now : Returns) (all left : SourceAt) (count : ImportCount) (many : ℕ) : Type 0 where
  pub rows : List Row
  pub many_are : length rows ≡ many
  pub count_is : count ≡ count_of (answers stations old rows)
  pub now_is : now ≡ returns_after_import stations old rows
  pub given : left.given ≡ all.given ++ rows
  pub taken : AreTaken all.coming rows left.coming
  pub codes : All IsCodedRow rows

none-taken : (all : Option Coming) → AreTaken all [] all
none-taken None = tt
none-taken (Some known) = (known.rows, refl, refl)

pub SoFar-start : (stations : Stations) (old : Returns) (all : SourceAt) (count : ImportCount) → count ≡ count_of [] → SoFar stations old old all all count 0
SoFar-start stations old all count is =
    record { rows = []; many_are = refl; count_is = is; now_is = refl; given = sym (append-nil all.given); taken = none-taken all.coming; codes = All-nil IsCodedRow }

-- one row more is taken
taken-push : (all left next : Option Coming) (rows : List Row) (r : Row) → AreTaken all rows left
    → IfSome left (λ (coming : Coming). (rest : List Row) × (coming.rows ≡ r ∷ rest) × (next ≡ Some (record coming { rows = rest }))) → AreTaken all (rows ++ r ∷ []) next
taken-push None left next rows r taken given = tt
taken-push (Some known) left next rows r taken given =
    let at = subst (λ l. IfSome l (λ (coming : Coming). (rest : List Row) × (coming.rows ≡ r ∷ rest) × (next ≡ Some (record coming { rows = rest })))) taken.1 given in
    (at.0, at.2, taken.2 ∙ ap (λ l. rows ++ l) at.1 ∙ sym (append_assoc rows (r ∷ []) at.0))

given-push : (had left next rows : List Row) (r : Row) → left ≡ had ++ rows → next ≡ left ++ r ∷ [] → next ≡ had ++ (rows ++ r ∷ [])
given-push had left next rows r was is = is ∙ ap (λ l. l ++ r ∷ []) was ∙ append_assoc had rows (r ∷ [])

pub SoFar-next : (stations : Stations) (old now new : Returns) (all left next : SourceAt) (count more : ImportCount) (many : ℕ) (r : Row) (answer : RowAnswer)
    → SoFar stations old now all left count many → IsCodedRow r → GivesAt left (Ok (Some r)) next
    → row_answer stations now r ≡ answer → new ≡ after_row stations now r → more ≡ count_with_row count (many + 1) answer
    → SoFar stations old new all next more (many + 1)
SoFar-next stations old now new all left next count more many r answer h coded given answered changed counted_is = record {
  rows = h.rows ++ r ∷ [];
  many_are = length-append h.rows (r ∷ []) ∙ ap (λ n. n + 1) h.many_are;
  count_is =
      counted_is ∙ ap (λ c. count_with_row c (many + 1) answer) h.count_is
      ∙ sym (count_of-push (answers stations old h.rows) answer (many + 1) (ap (λ n. n + 1) (sym (length-answers stations old h.rows ∙ h.many_are))))
      ∙ ap (λ a. count_of (answers stations old h.rows ++ a ∷ [])) (sym answered ∙ ap (λ m. row_answer stations m r) h.now_is)
      ∙ ap count_of (sym (answers-push stations old h.rows r));
  now_is = changed ∙ ap (λ m. after_row stations m r) h.now_is ∙ sym (imported-push stations old h.rows r);
  given = given-push all.given left.given next.given h.rows r h.given given.1;
  taken = taken-push all.coming left.coming next.coming h.rows r h.taken given.0;
  codes = All-push IsCodedRow h.rows r h.codes coded;
}

pub SoFar-below : (stations : Stations) (old now : Returns) (all left : SourceAt) (count : ImportCount) (many : ℕ) → SoFar stations old now all left count many → IsBelow count (many + 1)
SoFar-below stations old now all left count many h =
    subst (λ c. IsBelow c (many + 1)) (sym h.count_is)
    (count_of-below (answers stations old h.rows) (many + 1) (ap (λ n. n + 1) (sym (length-answers stations old h.rows ∙ h.many_are))))

all-taken : (all left : Option Coming) (rows : List Row) → AreTaken all rows left → IfSome left (λ (coming : Coming). (coming.rows ≡ []) × (coming.fault ≡ None))
    → IfSome all (λ (coming : Coming). (coming.rows ≡ rows) × (coming.fault ≡ None))
all-taken None left rows taken ended = tt
all-taken (Some known) left rows taken ended =
    let none = subst (λ l. IfSome l (λ (coming : Coming). (coming.rows ≡ []) × (coming.fault ≡ None))) taken.1 ended in
    (taken.2 ∙ ap (λ l. rows ++ l) none.0 ∙ append-nil rows, none.1)

-- a keeper that has changed its returns alone, and does so again
pub kept-next : (old mid new : Kept) → mid ≡ record old { returns = mid.returns } → new ≡ record mid { returns = new.returns } → new ≡ record old { returns = new.returns }
kept-next old mid new was is = is ∙ ap (λ (k : Kept). record k { returns = new.returns }) was

-- a source that ends leaves its rows as they were given
pub all-given : (all left next : SourceAt) (rows : List Row) → left.given ≡ all.given ++ rows → AreTaken all.coming rows left.coming → length rows ≤ row_limit
    → GivesAt left (Ok None) next → AreAllGiven (record { start = all; finish = next }) rows
all-given all left next rows given taken few ended = (ended.1 ∙ given, few, ended.2, all-taken all.coming left.coming rows taken ended.0.0)

-- the import is done where its source ends
pub SoFar-end : (old now : Kept) (all left next : SourceAt) (count : ImportCount) (many : ℕ)
    → SoFar (stations_of old.setup) old.returns now.returns all left count many → now ≡ record old { returns = now.returns } → many ≤ row_limit
    → GivesAt left (Ok None) next → IsImportOf old.setup (Some (state_in old)) (record { start = all; finish = next }) count (Some (state_in now))
SoFar-end old now all left next count many h kept few given =
    let short : length h.rows ≤ row_limit = omega (arith, few, h.many_are) in (
      h.rows,
      answers (stations_of old.setup) old.returns h.rows,
      all-given all left next h.rows h.given h.taken short given,
      (short, refl, h.count_is, ap state_in kept ∙ ap (λ m. state_in (record old { returns = m })) h.now_is, h.codes),
    )

-- the rows that were taken are the first of those that come
first-taken : (all left : Option Coming) (rows : List Row) → AreTaken all rows left → IfSome all (λ known. (rest : List Row) × (known.rows ≡ rows ++ rest))
first-taken None left rows taken = tt
first-taken (Some known) left rows taken = (taken.0, taken.2)

-- the rows so far are those that the source gave
given-so_far : (stations : Stations) (old now : Returns) (all left next : SourceAt) (count : ImportCount) (many : ℕ) → (h : SoFar stations old now all left count many) → next.given ≡ left.given
    → AreGiven (record { start = all; finish = next }) h.rows
given-so_far stations old now all left next count many h same = (same ∙ h.given, first-taken all.coming left.coming h.rows h.taken)

-- a fault of the source is one of the import
pub SoFar-fault : (stations : Stations) (old now : Returns) (all left next : SourceAt) (count : ImportCount) (many : ℕ) (fault : ImportFault)
    → SoFar stations old now all left count many → GivesAt left (Err fault) next → IsImportFault (record { start = all; finish = next }) fault
SoFar-fault stations old now all left next count many fault h given =
    (h.rows, given-so_far stations old now all left next count many h given.1, inr (inl (given.2, go all.coming h.taken given.0.1)))
  where
    go : (known : Option Coming) → AreTaken known h.rows left.coming
        → IsSudden fault ⊎ (IfSome left.coming (λ (coming : Coming). (coming.rows ≡ []) × (coming.fault ≡ Some fault)) × (next.coming ≡ left.coming))
        → IsSudden fault ⊎ IfSome known (λ coming. (coming.rows ≡ h.rows) × (coming.fault ≡ Some fault))
    go known taken (inl sudden) = inl sudden
    go None taken (inr behind) = inr tt
    go (Some known) taken (inr behind) =
        let none = subst (λ l. IfSome l (λ (coming : Coming). (coming.rows ≡ []) × (coming.fault ≡ Some fault))) taken.1 behind.0 in
        inr (taken.2 ∙ ap (λ l. h.rows ++ l) none.0 ∙ append-nil h.rows, none.1)

-- a fault of the keeper's own comes after a row that the source gave
pub SoFar-own : (stations : Stations) (old now : Returns) (all left next : SourceAt) (count : ImportCount) (many : ℕ) (r : Row) (fault : ImportFault)
    → SoFar stations old now all left count many → GivesAt left (Ok (Some r)) next → IsOwnFault fault → IsImportFault (record { start = all; finish = next }) fault
SoFar-own stations old now all left next count many r fault h given own = (
  h.rows ++ r ∷ [],
  (
    given-push all.given left.given next.given h.rows r h.given given.1,
    first-taken all.coming next.coming (h.rows ++ r ∷ []) (taken-push all.coming left.coming next.coming h.rows r h.taken given.0),
  ),
  inl own,
)

-- a fault of the keeper's own before any row
pub own-first : (at : SourceAt) (fault : ImportFault) → IsOwnFault fault → IsImportFault (record { start = at; finish = at }) fault
own-first at fault own = ([], (sym (append-nil at.given), all at.coming), inl own)
  where
    all : (known : Option Coming) → IfSome known (λ coming. (rest : List Row) × (coming.rows ≡ rest))
    all None = tt
    all (Some coming) = (coming.rows, refl)

-- a fault of the keeper's own after all that the source gave
pub own-last : (d : Delivery) (fault : ImportFault) → GaveAll d → IsOwnFault fault → IsImportFault d fault
own-last d fault gave own = (gave.0, (gave.1.0, all d.start.coming gave.1.3), inl own)
  where
    all : (known : Option Coming) → IfSome known (λ coming. (coming.rows ≡ gave.0) × (coming.fault ≡ None)) → IfSome known (λ coming. (rest : List Row) × (coming.rows ≡ gave.0 ++ rest))
    all None are = tt
    all (Some coming) are = ([], are.0 ∙ sym (append-nil gave.0))

-- ---- the rows that are named

-- the same, and the rows that were named, after those that were named before
pub record NamedSoFar (stations : Stations) (old now : Returns) (all left : SourceAt) (count : ImportCount) (many : ℕ) (before named : List NamedRow) : Type 0 where
  pub so_far : SoFar stations old now all left count many
  pub named_is : named ≡ before ++ named_rows 1 so_far.rows (answers stations old so_far.rows)

pub NamedSoFar-start : (stations : Stations) (old : Returns) (all : SourceAt) (count : ImportCount) (before : List NamedRow) → count ≡ count_of [] → NamedSoFar stations old old all all count 0 before before
unfolding SoFar-start
NamedSoFar-start stations old all count before is = record { so_far = SoFar-start stations old all count is; named_is = sym (append-nil before) }

-- one row more, and the row that is named of it
named-push : (stations : Stations) (old now : Returns) (rows : List Row) (many : ℕ) (r : Row) (answer : RowAnswer) (before mid named : List NamedRow)
    → length rows ≡ many → now ≡ returns_after_import stations old rows → row_answer stations now r ≡ answer
    → mid ≡ before ++ named_rows 1 rows (answers stations old rows) → named ≡ mid ++ named_row (many + 1) r answer
    → named ≡ before ++ named_rows 1 (rows ++ r ∷ []) (answers stations old (rows ++ r ∷ []))
named-push stations old now rows many r answer before mid named many_are now_is answered was is =
    let answered_so_far = answers stations old rows in
    let at : many + 1 ≡ 1 + length rows = omega (arith, many_are) in
    is ∙ ap (λ l. l ++ named_row (many + 1) r answer) was
    ∙ append_assoc before (named_rows 1 rows answered_so_far) (named_row (many + 1) r answer)
    ∙ ap (λ n. before ++ (named_rows 1 rows answered_so_far ++ named_row n r answer)) at
    ∙ ap (λ l. before ++ l) (sym (named_rows-push 1 rows answered_so_far r answer (length-answers stations old rows)))
    ∙ ap (λ a. before ++ named_rows 1 (rows ++ r ∷ []) (answered_so_far ++ a ∷ [])) (sym answered ∙ ap (λ m. row_answer stations m r) now_is)
    ∙ ap (λ l. before ++ named_rows 1 (rows ++ r ∷ []) l) (sym (answers-push stations old rows r))

pub NamedSoFar-next : (stations : Stations) (old now new : Returns) (all left next : SourceAt) (count more : ImportCount) (many : ℕ) (before mid named : List NamedRow) (r : Row) (answer : RowAnswer)
    → NamedSoFar stations old now all left count many before mid → IsCodedRow r → GivesAt left (Ok (Some r)) next
    → row_answer stations now r ≡ answer → new ≡ after_row stations now r → more ≡ count_with_row count (many + 1) answer → named ≡ mid ++ named_row (many + 1) r answer
    → NamedSoFar stations old new all next more (many + 1) before named
unfolding SoFar-next
NamedSoFar-next stations old now new all left next count more many before mid named r answer h coded given answered changed counted_is named_is = record {
  so_far = SoFar-next stations old now new all left next count more many r answer h.so_far coded given answered changed counted_is;
  named_is = named-push stations old now h.so_far.rows many r answer before mid named h.so_far.many_are h.so_far.now_is answered h.named_is named_is;
}

-- the same of a keeper that has changed its returns alone
pub NamedSoFar-taken : (old mid : Kept) (new : Returns) (all left next : SourceAt) (count more : ImportCount) (many : ℕ) (before was named : List NamedRow) (r : Row) (answer : RowAnswer)
    → NamedSoFar (stations_of old.setup) old.returns mid.returns all left count many before was → mid ≡ record old { returns = mid.returns } → IsCodedRow r → GivesAt left (Ok (Some r)) next
    → row_answer (stations_of mid.setup) mid.returns r ≡ answer → new ≡ after_row (stations_of mid.setup) mid.returns r → more ≡ count_with_row count (many + 1) answer
    → named ≡ was ++ named_row (many + 1) r answer → NamedSoFar (stations_of old.setup) old.returns new all next more (many + 1) before named
NamedSoFar-taken old mid new all left next count more many before was named r answer h kept coded given answered changed counted_is named_is =
    let same = ap (λ (k : Kept). stations_of k.setup) (sym kept) in
    NamedSoFar-next (stations_of old.setup) old.returns mid.returns new all left next count more many before was named r answer h coded given
    (ap (λ stations. row_answer stations mid.returns r) same ∙ answered) (changed ∙ ap (λ stations. after_row stations mid.returns r) (sym same)) counted_is named_is

-- where the source ends, these are all rows that are named
pub NamedSoFar-end : (setup : List Constituency) (s : State) (now : Returns) (all left next : SourceAt) (count : ImportCount) (many : ℕ) (before named : List NamedRow)
    → NamedSoFar (stations_of setup) s.returns now all left count many before named → many ≤ row_limit → GivesAt left (Ok None) next
    → NamesRows setup (Some s) (record { start = all; finish = next }) before named
NamedSoFar-end setup s now all left next count many before named h few given =
    let so_far = h.so_far in
    (so_far.rows, all-given all left next so_far.rows so_far.given so_far.taken (omega (arith, few, so_far.many_are)) given, h.named_is)

-- an import leaves what a keeper in memory holds as it has to be
imported-held : (k : Kept) (rows : List Row) → All IsCodedRow rows → IsHeld k → IsHeld (record k { returns = returns_after_import (stations_of k.setup) k.returns rows })
imported-held k [] codes held = held
imported-held k (row.Lodge (Lodge station slip counts) ∷ rows) codes held =
    let code = All-head IsCodedRow (row.Lodge (Lodge station slip counts)) rows codes in
    imported-held (record k { returns = lodge (stations_of k.setup) k.returns station slip counts }) rows (All-tail IsCodedRow (row.Lodge (Lodge station slip counts)) rows codes)
    (held-lodge k station slip counts code held)
imported-held k (other ∷ rows) codes held = imported-held k rows (All-tail IsCodedRow other rows codes) held

pub import-held : (old new : Kept) (d : Delivery) (count : ImportCount) → IsHeld old → new ≡ record old { returns = new.returns }
    → IsImportOf old.setup (Some (state_in old)) d count (Some (state_in new)) → IsHeld new
import-held old new d count held kept is =
    subst IsHeld (sym (kept ∙ ap (λ (s : State). record old { returns = s.returns }) is.3.3)) (imported-held old is.0 is.3.4 held)

-- ---- trials

-- without what a trial lodged there is what there was before it
pub trial-undone : (old mid new : Kept) (lodged : List (List ℕ)) → mid ≡ record old { returns = mid.returns } → returns_without lodged mid.returns ≡ old.returns
    → new ≡ record mid { returns = returns_without lodged mid.returns } → new ≡ old
trial-undone old mid new lodged kept undone out =
    out ∙ ap (λ (k : Kept). record k { returns = returns_without lodged mid.returns }) kept ∙ ap (λ m. record old { returns = m }) undone

-- the import that was tried, or its fault, and the state of before
pub trial-tries : (setup : List Constituency) (s after : State) (d : Delivery) (r : Result ImportCount ImportFault)
    → IfOk r (λ count. IsImportOf setup (Some s) d count (Some after)) → IfErr r (IsImportFault d) → Tries setup (Some s) d r (Some s)
trial-tries setup s after d (Ok count) imported fault = (Some after, imported, refl)
trial-tries setup s after d (Err e) imported fault = (fault, refl)
