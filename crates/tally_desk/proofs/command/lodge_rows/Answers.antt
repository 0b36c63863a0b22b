use Rattle.std.proofs.Common.{ap}
use Rattle.tally_returns_rows.specs.Source.{Delivery, SourceAt}
use Rattle.tally_import.specs.ReturnRowsValue.{ReturnRows, rows_to_come}
use Rattle.tally_desk.proofs.command.lodge_rows.Goals as goal

-- the state of the rows of a text as a source
abbrev rows_at : ReturnRows → SourceAt
rows_at rows = record { coming = rows_to_come rows; given = rows.given; ended = rows.ended }

pub returns-clause-imports : goal.returns-clause-imports
returns-clause-imports g c sure =
    let lodged = c.lodge_from-outcome in
    let d : Delivery = record { start = rows_at c.new-rows.result; finish = rows_at lodged.new.rows } in
    (d, lodged.result, (ap rows_to_come c.new-rows.ensures, lodged.ensures.imported sure), c.import_answer.ensures)
