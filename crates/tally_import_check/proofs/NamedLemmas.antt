-- The first of the rows that are named is the one that the count notes.
use Rattle.std.proofs.Common.{◌≡◌, ◌+◌, ◌++◌, ◌∷◌, ℕ, List, [], Some, Result, Ok, Err, refl}
use Rattle.std.specs.Prelude.{All, option_map, slice_get}
use Rattle.std.proofs.lemmas.List.Elements.{All-head, All-tail}
use Rattle.tally_returns.specs.Lodge.{Stations, lodge, lodge_answer}
use Rattle.tally_returns.specs.Return.{Returns}
use Rattle.tally_returns.specs.declared.ask.Ask.TheVariants.{Lodge}
use Rattle.tally_returns.specs.declared.refusal.Refusal.{Refusal}
use Rattle.tally_returns.specs.declared.reply.LodgeReply.{LodgeReply}
use Rattle.tally_returns.specs.declared.reply.LodgeReply.TheVariants.{Lodged, Same}
use Rattle.tally_returns_rows.specs.Import.{answers, first_note, note_at, note_number, or_else}
use Rattle.tally_returns_rows.specs.NamedRows.{named_row, named_rows, noted_row}
use Rattle.tally_returns_rows.specs.Source.{IsLodgeOrBad}
use Rattle.tally_returns_rows.specs.declared.import.Row.{Row}
use Rattle.tally_returns_rows.specs.declared.import.Row.TheVariants as row

pub first-named : (stations : Stations) (returns : Returns) (at : ℕ) (rows : List Row) → All IsLodgeOrBad rows
    → first_note at (answers stations returns rows) ≡ option_map noted_row (slice_get (named_rows at rows (answers stations returns rows)) 0)
first-named stations returns at [] all = refl
first-named stations returns at (row.Bad why ∷ rows) all = refl
first-named stations returns at (row.Lodge (Lodge station slip counts) ∷ rows) all =
    go (lodge_answer stations returns station slip counts) (first-named stations (lodge stations returns station slip counts) (at + 1) rows (All-tail IsLodgeOrBad its rows all))
  where
    its : Row
    its = row.Lodge (Lodge station slip counts)

    go : (a : Result LodgeReply Refusal)
        → first_note (at + 1) (answers stations (lodge stations returns station slip counts) rows)
        ≡ option_map noted_row (slice_get (named_rows (at + 1) rows (answers stations (lodge stations returns station slip counts) rows)) 0)
        → or_else (note_at at (note_number (Some a))) (first_note (at + 1) (answers stations (lodge stations returns station slip counts) rows))
        ≡ option_map noted_row (slice_get (named_row at its (Some a) ++ named_rows (at + 1) rows (answers stations (lodge stations returns station slip counts) rows)) 0)
    go (Ok (Lodged rev)) rest = rest
    go (Ok (Same rev)) rest = rest
    go (Err refusal) rest = refl
first-named stations returns at (row.Lodge other ∷ rows) all = absurd (All-head IsLodgeOrBad (row.Lodge other) rows all)
