-- What the allotment of a text of votes answers and writes.
use Rattle.std.specs.Prelude.{◌≡◌, ◌+◌, if◌then◌else◌, ℕ, List, Option, Result, Ok, Err, nat_le}
use Rattle.std.specs.Prelude.{sum, take}
use Rattle.std.specs.Io.KnownBytes.{Appends, Keeps}
use Rattle.tally_frac.specs.Limits.{most_votes}
use Rattle.tally_import_records.specs.Input.{GaveWithin, complete_records}
use Rattle.tally_import_records.specs.declared.end.Stop.{Stop}
use Rattle.tally_import_votes.specs.Lot.{lot_places}
use Rattle.tally_import_votes.specs.Troubles.{IsTroubleOf}
use Rattle.tally_import_votes.specs.Votes.{VotesRead, votes_read}
use Rattle.tally_import_options.specs.Wanted.{Wanted}
use Rattle.tally_import_votes.specs.declared.fault.AllotTrouble.{AllotTrouble}
use Rattle.tally_import_votes.specs.declared.fault.AllotTrouble.TheVariants as trouble
use Rattle.tally_import_votes.specs.declared.fault.VotesFault.{VotesFault}
use Rattle.tally_import_votes.specs.declared.fault.VotesFault.TheVariants as fault
use Rattle.tally_report_allotment.specs.AllotmentText.{IsAllotmentText}
use Rattle.tally_report_allotment.specs.Question.{Question}

-- the most bytes that a text of votes may have
abbrev pub text_limit : ℕ
text_limit = 1048576

-- what is asked, with these votes
abbrev pub question_of : Wanted → VotesRead → Question
question_of w v = record {
  profile = w.profile;
  seats = w.seats;
  lists = v.lists;
  votes = v.votes;
  blank = w.blank;
  lot = lot_places v.lists w.lot;
}

-- unless there are too many votes
abbrev pub unless_too_many : Wanted → Result VotesRead VotesFault → Result Question VotesFault
unless_too_many w (Ok v) =
    if nat_le (sum v.votes + w.blank) most_votes
    then Ok (question_of w v)
    else Err fault.TooManyVotes
unless_too_many w (Err f) = Err f

-- what is asked, with the votes of the bytes that came and what stopped them, or the fault that
-- comes first
abbrev pub question_result : Wanted → List ℕ → Option Stop → Result Question VotesFault
question_result w bytes stop =
    unless_too_many w (votes_read (complete_records w.sep bytes stop) stop)

-- What is found in the bytes that came of a text, of which `left` is not read, before its end or
-- before what stopped it.
abbrev pub Found : Wanted → List ℕ → Option (List ℕ) → (Result Question VotesFault → Type 0)
    → Type 0
Found w text left P =
    (bytes : List ℕ) × (stop : Option Stop) × GaveWithin text_limit text left bytes stop
    × P (question_result w bytes stop)

-- This is the text that is asked for.
abbrev pub IsTextOf : Wanted → List ℕ → Result Question VotesFault → Type 0
IsTextOf w text found = (q : Question) × (found ≡ Ok q) × IsAllotmentText q w.awards text

-- The votes allot no seats, for this trouble.
abbrev pub IsTroubleFound : AllotTrouble → Result Question VotesFault → Type 0
IsTroubleFound t found = (q : Question) × (found ≡ Ok q) × IsTroubleOf q t

-- What is answered of a text, and what is left on the writer: the text of the allotment is written,
-- or the first trouble is answered and nothing written. A write that failed leaves a prefix of the
-- text. Out of memory may come at any place.
abbrev pub Allots : Wanted → List ℕ → Option (List ℕ) → Option (List ℕ) → Option (List ℕ)
    → Result (Unit {0}) AllotTrouble → Type 0
Allots w text left old new (Ok u) =
    (written : List ℕ) × Found w text left (IsTextOf w written) × Appends old new written
Allots w text left old new (Err (trouble.Votes fault.Memory)) = Keeps old new
Allots w text left old new (Err (trouble.Votes f)) =
    Found w text left (λ found. found ≡ Err f) × Keeps old new
Allots w text left old new (Err trouble.Memory) = Keeps old new
Allots w text left old new (Err trouble.Write) =
    (written : List ℕ) × (n : ℕ) × Found w text left (IsTextOf w written)
    × Appends old new (take n written)
Allots w text left old new (Err t) = Found w text left (IsTroubleFound t) × Keeps old new

-- with a trouble nothing was written, unless the writing failed
abbrev pub IsSilent : Option (List ℕ) → Option (List ℕ) → Result (Unit {0}) AllotTrouble → Type 0
IsSilent old new (Ok u) = Unit {0}
IsSilent old new (Err trouble.Write) = Unit {0}
IsSilent old new (Err t) = Keeps old new
