-- How far an import into the empty map has come.
use Rattle.std.specs.Prelude.{◌≡◌, ◌≤◌, ℕ, List, [], ◌∷◌, Result, Ok, Err}
use Rattle.std.specs.FinMap as map
use Rattle.tally_frac.specs.Limits.{most_lists}
use Rattle.tally_returns.specs.Counts.{VoteCounts}
use Rattle.tally_returns.specs.Return.{Returns}
use Rattle.tally_returns.specs.Lodge.{Stations, lodge_answer}
use Rattle.tally_returns_rows.specs.Import.{RowAnswer, answers, row_answer, returns_after_import}
use Rattle.tally_returns_rows.specs.Import.{count_of, lodged_counts}
use Rattle.tally_returns_rows.specs.NamedRows.{named_rows}
use Rattle.tally_returns_rows.specs.declared.import.Row.{Row}
use Rattle.tally_returns.specs.declared.refusal.Refusal.{Refusal}
use Rattle.tally_returns.specs.declared.reply.LodgeReply.{LodgeReply}
use Rattle.tally_returns.specs.declared.reply.LodgeReply.TheVariants.{Lodged, Same}
use Rattle.tally_import.specs.internal.Table.{Table, Holds}
use Rattle.tally_import_check.specs.Check.{every_code}
use Rattle.tally_import_check.specs.internal.Totals.{AreTotals}
use Rattle.tally_import_check.specs.declared.import.Import.{Import}

-- the answer to a row where the table holds the returns, and every code is a station
abbrev pub IsRowAnswer : ℕ → Table → Row → RowAnswer → Type 0
IsRowAnswer lists held row answer =
    (returns : Returns) → Holds held returns → row_answer (every_code lists) returns row ≡ answer

-- the answer to the lodging of a return there: its station, its slip and its counts
abbrev pub IsHeldLodgeAnswer : ℕ → Table → List ℕ → List ℕ → VoteCounts →
    Result LodgeReply Refusal → Type 0
IsHeldLodgeAnswer lists held station slip counts answer = (returns : Returns) → Holds held returns →
    answer ≡ lodge_answer (every_code lists) returns station slip counts

-- a table that held some returns holds what they have become
abbrev pub TableMoves : Table → Table → (Returns → Returns) → Type 0
TableMoves old new become =
    (returns : Returns) → Holds old returns → Holds new (become returns)

-- the counts that an answer adds to those that were lodged
abbrev pub lodged_of : VoteCounts → Result LodgeReply Refusal → List VoteCounts
lodged_of counts (Ok (Lodged rev)) = counts ∷ []
lodged_of counts (Ok (Same rev)) = []
lodged_of counts (Err refusal) = []

-- rows, under a header of this many lists
pub record Taken : Type 0 where
  pub lists : ℕ
  pub rows : List Row

-- the stations of an import
abbrev pub stations : Taken → Stations
stations taken = every_code taken.lists

-- what the rows were answered
abbrev pub taken_answers : Taken → List RowAnswer
taken_answers taken = answers (stations taken) map.empty taken.rows

-- the import has taken these rows
pub record HasTaken (taken : Taken) (import : Import) : Type 0 where
  pub few : taken.lists ≤ most_lists
  pub lists : import.lists ≡ taken.lists
  pub table : Holds import.returns (returns_after_import (stations taken) map.empty taken.rows)
  pub count : import.count ≡ count_of (taken_answers taken)
  pub totals : AreTotals taken.lists (lodged_counts taken.rows (taken_answers taken)) import.totals
  pub named : import.named.items ≡ named_rows 1 taken.rows (taken_answers taken)
