-- The answer to an import: how many of its rows were answered what, as JSON that is compact and has
-- its keys in the order of their bytes.
use Rattle.std.specs.Prelude.{ℕ, List, ◌++◌, codes, decimal, Option, Some, None}
use Rattle.tally_returns_rows.specs.declared.import.FirstRow.{FirstRow}
use Rattle.tally_returns_rows.specs.declared.import.ImportCount.{ImportCount}
use Rattle.tally_desk_answer.specs.declared.status.AnswerStatus.TheVariants as status
use Rattle.tally_desk_answer.specs.declared.status.BodyType.TheVariants as body
use Rattle.tally_desk_answer.specs.Answer.{answer_text}

-- the members up to the first row that was neither lodged nor there already
abbrev pub counts_before : ImportCount → List ℕ
counts_before i =
    codes "{\"bad\":" ++ decimal i.bad ++ codes ",\"differs\":" ++ decimal i.differs
    ++ codes ",\"first\":"

-- that row and the number of its refusal
abbrev pub pair_text : FirstRow → List ℕ
pair_text first = codes "[" ++ decimal first.row ++ codes "," ++ decimal first.number ++ codes "]"

abbrev pub first_value : Option FirstRow → List ℕ
first_value None = codes "null"
first_value (Some first) = pair_text first

-- the members after it
abbrev pub counts_after : ImportCount → List ℕ
counts_after i =
    codes ",\"lodged\":" ++ decimal i.lodged ++ codes ",\"ok\":\"import\",\"refused\":"
    ++ decimal i.refused
    ++ codes ",\"same\":" ++ decimal i.same ++ codes "}"

abbrev pub import_body : ImportCount → List ℕ
import_body i = counts_before i ++ first_value i.first ++ counts_after i

abbrev pub import_text : ImportCount → List ℕ
import_text i = answer_text status.Done body.Json (import_body i)
