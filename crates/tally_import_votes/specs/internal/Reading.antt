-- What the parts of an allotment leave.
use Rattle.std.specs.Prelude.{◌≡◌, ◌⊎◌, ⊤, ℕ, Bool, true, List, Option, Result, Ok, Err, String}
use Rattle.std.specs.Prelude.{string_bytes}
use Rattle.std.specs.declared.alloc.Global.{Global}
use Rattle.tally_import_records.specs.declared.end.Stop.{Stop}
use Rattle.tally_import_votes.specs.Allots.{Found, IsTextOf, IsTroubleFound, question_result}
use Rattle.tally_import_votes.specs.Votes.{VotesRead}
use Rattle.tally_import_options.specs.Wanted.{Wanted}
use Rattle.tally_import_votes.specs.declared.fault.AllotTrouble.{AllotTrouble}
use Rattle.tally_import_votes.specs.declared.fault.AllotTrouble.TheVariants as trouble
use Rattle.tally_import_votes.specs.declared.fault.VotesFault.{VotesFault}
use Rattle.tally_import_votes.specs.declared.fault.VotesFault.TheVariants as fault
use Rattle.tally_import_votes.specs.declared.votes.Votes.{Votes}
use Rattle.tally_report_allotment.specs.Question.{Question, question}
use Rattle.tally_report_allotment.specs.declared.question.Asked.{Asked}

-- the votes as definitions see them
abbrev pub votes_in : Votes → VotesRead
votes_in votes = record { lists = votes.lists.items; votes = votes.votes.items }

-- The call gives what is found, unless it is out of memory.
abbrev pub GivesOrMemory : Result Votes VotesFault → Result VotesRead VotesFault → Type 0
GivesOrMemory (Ok votes) found = found ≡ Ok (votes_in votes)
GivesOrMemory (Err f) found = (f ≡ fault.Memory) ⊎ (found ≡ Err f)

-- the same of what is asked
abbrev pub GivesQuestion : Result Asked VotesFault → Result Question VotesFault → Type 0
GivesQuestion (Ok asked) found = found ≡ Ok (question asked)
GivesQuestion (Err f) found = (f ≡ fault.Memory) ⊎ (found ≡ Err f)

-- the trouble is what is found, or that it is out of memory
abbrev pub IsFoundTrouble : AllotTrouble → Result Question VotesFault → Type 0
IsFoundTrouble (trouble.Votes f) found = (f ≡ fault.Memory) ⊎ (found ≡ Err f)
IsFoundTrouble trouble.Write found = ⊥
IsFoundTrouble trouble.Memory found = ⊤
IsFoundTrouble t found = IsTroubleFound t found

-- what is written, or why nothing is, of bytes that came and what stopped them
abbrev pub IsFoundText : Wanted → Result (String Global) AllotTrouble → Result Question VotesFault
    → Type 0
IsFoundText w (Ok text) found = IsTextOf w (string_bytes text) found
IsFoundText w (Err t) found = IsFoundTrouble t found

abbrev pub FindsTextOf : Wanted → List ℕ → Option Stop → Result (String Global) AllotTrouble
    → Type 0
FindsTextOf w bytes stop result = IsFoundText w result (question_result w bytes stop)

-- the same of a text that is read
abbrev pub FindsText : Wanted → List ℕ → Option (List ℕ) → Result (String Global) AllotTrouble
    → Type 0
FindsText w text left (Err trouble.Memory) = ⊤
FindsText w text left result = Found w text left (IsFoundText w result)

-- A trouble that comes before anything is written: Read only where a read failed, and never Write.
abbrev pub IsOfReading : AllotTrouble → Bool → Type 0
IsOfReading (trouble.Votes fault.Read) failed = failed ≡ true
IsOfReading trouble.Write failed = ⊥
IsOfReading t failed = ⊤
