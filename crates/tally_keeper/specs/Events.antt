-- What happened to a keeper, as requests with their answers: an import is its Lodge commands, one
-- by one.
use Rattle.std.specs.Prelude.{List, [], ◌∷◌, ◌++◌, Bool, false, Some, None, Result, Ok, Err}
use Rattle.std.specs.List.{list_any}
use Rattle.tally_machine_law.specs.Runs.{is_act}
use Rattle.tally_returns.specs.Named.{BringsCode}
use Rattle.tally_returns.specs.Reply.{as_reply}
use Rattle.tally_returns.specs.declared.ask.Ask.{Ask}
use Rattle.tally_returns.specs.declared.ask.Ask.TheVariants.{Lodge}
use Rattle.tally_returns.specs.declared.refusal.Refusal.{Refusal}
use Rattle.tally_returns.specs.declared.reply.LodgeReply.{LodgeReply}
use Rattle.tally_returns.specs.declared.reply.Reply.{Reply}
use Rattle.tally_returns_rows.specs.Import.{RowAnswer, is_lodged}
use Rattle.tally_keeper.specs.Keeper.{Event, request, whole_import, failed_import}
use Rattle.tally_returns_rows.specs.declared.import.Row.{Row}
use Rattle.tally_returns_rows.specs.declared.import.Row.TheVariants as row

-- the Lodge commands of the rows, in order: the other rows are passed over
abbrev pub lodge_commands : List Row → List Ask
lodge_commands [] = []
lodge_commands (row.Lodge (Lodge station slip counts) ∷ rows) =
    Lodge station slip counts ∷ lodge_commands rows
lodge_commands (other ∷ rows) = lodge_commands rows

-- what a Lodge is answered, among all replies
abbrev pub as_answer : Result LodgeReply Refusal → Result Reply Refusal
as_answer (Ok reply) = Ok (as_reply reply)
as_answer (Err refusal) = Err refusal

-- what the Lodge commands of the rows were answered, by the answers of all rows
abbrev pub lodge_answers : List RowAnswer → List (Result Reply Refusal)
lodge_answers [] = []
lodge_answers (Some answer ∷ answered) = as_answer answer ∷ lodge_answers answered
lodge_answers (None ∷ answered) = lodge_answers answered

-- the requests of what happened, those of an import being the Lodge commands of its rows
abbrev pub asks_of : List Event → List Ask
asks_of [] = []
asks_of (request ask r ∷ events) = ask ∷ asks_of events
asks_of (whole_import rows answered count ∷ events) = lodge_commands rows ++ asks_of events
asks_of (failed_import fault ∷ events) = asks_of events

-- the answers of these requests, in order
abbrev pub answers_of : List Event → List (Result Reply Refusal)
answers_of [] = []
answers_of (request ask r ∷ events) = r ∷ answers_of events
answers_of (whole_import rows answered count ∷ events) = lodge_answers answered ++ answers_of events
answers_of (failed_import fault ∷ events) = answers_of events

-- whether what happened acted: a request, as it was answered; an import, where some row was lodged
abbrev pub acts : Event → Bool
acts (request ask r) = is_act r
acts (whole_import rows answered count) = list_any is_lodged answered
acts (failed_import fault) = false

-- The slip that a request brings is a code. So it is of each request that a program makes, and of
-- each row of an import.
abbrev pub BringsCodes : Event → Type 0
BringsCodes (request ask r) = BringsCode ask
BringsCodes other = Unit {0}
