-- What a source of rows gives.
use Rattle.std.specs.Prelude.{◌≡◌, ◌≢◌, ◌≤◌, ◌⊎◌, ◌++◌, ℕ, List, [], ◌∷◌, length, Option, Some}
use Rattle.std.specs.Prelude.{None, Result, Ok, Err, IfSome}
use Rattle.tally_returns.specs.declared.ask.Ask.TheVariants.{Lodge}
use Rattle.tally_returns_rows.specs.declared.import.Row.{Row}
use Rattle.tally_returns_rows.specs.declared.import.Row.TheVariants as row
use Rattle.tally_returns_rows.specs.declared.source.ImportFault.{ImportFault}
use Rattle.tally_returns_rows.specs.declared.source.ImportFault.TheVariants.{BadHeader, TooLong}
use Rattle.tally_returns_rows.specs.declared.source.ImportFault.TheVariants.{Read}
use Rattle.tally_returns_rows.specs.declared.source.ImportFault.TheVariants.{Memory, Store}

-- the most rows that an import has
abbrev pub row_limit : ℕ
row_limit = 20000

-- What a source still gives: rows, and after them its end or a fault.
pub record Coming : Type 0 where
  pub rows : List Row
  pub fault : Option ImportFault

-- a row of an import: a Lodge command, or one that cannot be read
abbrev pub IsLodgeOrBad : Row → Type 0
IsLodgeOrBad (row.Lodge (Lodge station slip counts)) = Unit {0}
IsLodgeOrBad (row.Lodge other) = ⊥
IsLodgeOrBad (row.Bad cause) = Unit {0}

-- a fault that may come at any row of a source: a read that failed, or out of memory
abbrev pub IsSudden : ImportFault → Type 0
IsSudden BadHeader = ⊥
IsSudden TooLong = ⊥
IsSudden Read = Unit {0}
IsSudden Memory = Unit {0}
IsSudden Store = ⊥

-- What a source gives next: the first of the rows that come, or its end or its fault after the last
-- row, which stays. What comes is not always known; a fault of a database is not one of a source.
abbrev pub GivesNext : Option Coming → Result (Option Row) ImportFault → Option Coming → Type 0
GivesNext old (Ok (Some row)) new =
    IfSome old (λ coming. (rest : List Row) × (coming.rows ≡ row ∷ rest)
    × (new ≡ Some (record coming { rows = rest })))
GivesNext old (Ok None) new =
    IfSome old (λ coming. (coming.rows ≡ []) × (coming.fault ≡ None)) × (new ≡ old)
GivesNext old (Err fault) new =
    (fault ≢ Store)
    × (IsSudden fault
    ⊎ (IfSome old (λ coming. (coming.rows ≡ []) × (coming.fault ≡ Some fault)) × (new ≡ old)))

-- a source gives at most this many rows, and then its end or a fault of its own
abbrev pub IsWithinRowLimit : Coming → Type 0
IsWithinRowLimit coming = (length coming.rows ≤ row_limit) × (coming.fault ≢ Some Store)

-- ---- the end

-- how a source ended, once it did: at its end (None), or with a fault
abbrev pub Ending : Type 0
Ending = Option (Option ImportFault)

-- where a call leaves a source
abbrev pub ends_by : Result (Option Row) ImportFault → Ending
ends_by (Ok (Some row)) = None
ends_by (Ok None) = Some None
ends_by (Err fault) = Some (Some fault)

-- what is answered at the end: the fault, where there was one
abbrev pub at_end : Option ImportFault → Result (Option Row) ImportFault
at_end None = Ok None
at_end (Some fault) = Err fault

-- ---- what it gives within a call

-- How far a source is: what is known of what it still gives, the rows that it gave so far, and how
-- it ended, once it did.
pub record SourceAt : Type 0 where
  pub coming : Option Coming
  pub given : List Row
  pub ended : Ending

-- how far a source was at the start of a call, and how far it is at its end
pub record Delivery : Type 0 where
  pub start : SourceAt
  pub finish : SourceAt

-- These are the rows that a source gave within a call, in order. Where it is known what comes, they
-- are the first of that.
abbrev pub AreGiven : Delivery → List Row → Type 0
AreGiven d rows = (d.finish.given ≡ d.start.given ++ rows)
    × IfSome d.start.coming (λ coming. (rest : List Row) × (coming.rows ≡ rows ++ rest))

-- These are the rows that a source gave within a call, at most 20,000, and it is at its end. Where
-- it is known what comes, these are all of its rows, and no fault comes after them.
abbrev pub AreAllGiven : Delivery → List Row → Type 0
AreAllGiven d rows = (d.finish.given ≡ d.start.given ++ rows)
    × (length rows ≤ row_limit)
    × (d.finish.ended ≡ Some None)
    × IfSome d.start.coming (λ coming. (coming.rows ≡ rows) × (coming.fault ≡ None))

-- it gave all that it had, whichever rows these are
abbrev pub GaveAll : Delivery → Type 0
GaveAll d = (rows : List Row) × AreAllGiven d rows
