-- Trials of imports: a trial leaves the state, and the import that follows comes to what it said.
-- These are the statements of laws.
use Rattle.std.specs.Prelude.{◌≡◌, ◌≢◌, ◌⊎◌, ℕ, List, Ok}
use Rattle.tally_returns_rows.specs.declared.import.ImportCount.{ImportCount}
use Rattle.tally_returns_rows.specs.declared.import.NamedRow.{NamedRow}
use Rattle.tally_import_records.specs.declared.separator.Sep.{Sep}
use Rattle.tally_desk_message.specs.declared.message.Message.{Message}
use Rattle.tally_desk_routes.specs.Routes.{con_of_target}
use Rattle.tally_desk_routes.specs.declared.routes.Route.TheVariants as route
use Rattle.tally_desk_answer.specs.Answer.{answer_text}
use Rattle.tally_desk_answer.specs.Import.{import_text}
use Rattle.tally_desk_answer.specs.Words.{word_text}
use Rattle.tally_desk_answer.specs.declared.status.AnswerStatus.TheVariants as status
use Rattle.tally_desk_answer.specs.declared.status.BodyType.TheVariants as body
use Rattle.tally_desk_answer.specs.declared.word.Word.TheVariants.{Unavailable}
use Rattle.tally_desk.specs.Requests.{trial_lines}
use Rattle.tally_desk.specs.Respond.{Answers, Office}
use Rattle.tally_theorems.specs.EnteredTwice.{IsPosted}
use Rattle.tally_theorems.specs.MessageLaws.{StateStays}

-- The first message is the trial of the import that the second is: of the same constituency, with
-- the same separator and the same body.
pub record IsTrialOf (m n : Message) : Type 0 where
  pub sep : Sep
  pub trial : IsPosted m (route.Trial sep)
  pub import : IsPosted n (route.Import sep)
  pub con : con_of_target n.target.items ≡ con_of_target m.target.items
  pub body : n.body.items ≡ m.body.items

-- a trial leaves the state, whatever it is answered
abbrev pub TrialsLeaveTheState : Type 0
TrialsLeaveTheState =
    (old new : Office) (m : Message) (sep : Sep) (text : List ℕ)
    → IsPosted m (route.Trial sep) → Answers old (Ok m) text new → StateStays old new

-- the answers to a trial and to an import have the same counts
abbrev pub HaveSameCounts : List ℕ → List ℕ → Type 0
HaveSameCounts text other =
    (lists : List (List ℕ)) × (count : ImportCount) × (named : List NamedRow)
    × (text ≡ answer_text status.Done body.Text (trial_lines lists count named))
    × (other ≡ import_text count)

-- Where a trial was accepted, and the import in the state that it left, the import is answered with
-- the counts of the trial; or neither was done, for the same cause.
abbrev pub ImportsComeToTheirTrials : Type 0
ImportsComeToTheirTrials =
    (old mid new : Office) (m n : Message) (text other : List ℕ)
    → IsTrialOf m n → Answers old (Ok m) text mid → text ≢ word_text Unavailable
    → Answers mid (Ok n) other new → other ≢ word_text Unavailable
    → HaveSameCounts text other ⊎ (other ≡ text)
