-- The votes of lists in a text: the header `list,votes`, and then a row for each of 1 to 60 lists,
-- its code and its votes.
use Rattle.std.specs.Prelude.{◌+◌, ◌++◌, ◌==◌, ◌&&◌, if◌then◌else◌, not, ℕ, Bool, false, List, []}
use Rattle.std.specs.Prelude.{◌∷◌, Option, Some, None, Result, Ok, Err, length, nat_le, codes}
use Rattle.std.specs.Char.{is_ascii_digit}
use Rattle.std.specs.List.{list_all, list_any}
use Rattle.tally_frac.specs.Limits.{most_lists, most_votes}
use Rattle.tally_setup.specs.Code.{is_code}
use Rattle.tally_import.specs.Header.{same_text}
use Rattle.tally_import.specs.Rows.{written_number}
use Rattle.tally_import_records.specs.declared.end.Stop.{Stop}
use Rattle.tally_import_records.specs.declared.end.Stop.TheVariants as stopped
use Rattle.tally_import_votes.specs.declared.fault.BadVotes.{BadVotes}
use Rattle.tally_import_votes.specs.declared.fault.BadVotes.TheVariants as bad
use Rattle.tally_import_votes.specs.declared.fault.VotesFault.{VotesFault}
use Rattle.tally_import_votes.specs.declared.fault.VotesFault.TheVariants as fault

-- The codes of lists and their votes, in the order of the rows.
pub record VotesRead : Type 0 where
  pub lists : List (List ℕ)
  pub votes : List ℕ

-- ---- a row

-- 1 to 10 digits; leading zeros are allowed
abbrev pub is_digits : List ℕ → Bool
is_digits text =
    nat_le 1 (length text) && nat_le (length text) 10 && list_all is_ascii_digit text

-- the votes that a text writes, at most 5,000,000,000
abbrev pub votes_number : List ℕ → Option ℕ
votes_number text =
    if is_digits text && nat_le (written_number text) most_votes
    then Some (written_number text)
    else None

abbrev pub with_number : List ℕ → Option ℕ → Result (List ℕ × ℕ) BadVotes
with_number code None = Err bad.BadNumber
with_number code (Some votes) = Ok (code, votes)

-- the code and the votes that two fields are, after lists of these codes, or the first cause why
-- the row is bad
abbrev pub list_row : List (List ℕ) → List ℕ → List ℕ → Result (List ℕ × ℕ) BadVotes
list_row lists code votes =
    if not (is_code code) then Err bad.BadList
    else if list_any (λ list. same_text list code) lists then Err (bad.Duplicate code)
    else with_number code (votes_number votes)

-- the same of a record, which has two fields
abbrev pub row_of : List (List ℕ) → List (List ℕ) → Result (List ℕ × ℕ) BadVotes
row_of lists (code ∷ votes ∷ []) = list_row lists code votes
row_of lists fields = Err (bad.Fields (length fields))

-- ---- the rows

-- with one row more, or the fault that the row is bad
abbrev pub with_answer : VotesRead → Result (List ℕ × ℕ) BadVotes → Result VotesRead VotesFault
with_answer v (Ok row) =
    Ok (record { lists = v.lists ++ row.0 ∷ []; votes = v.votes ++ row.1 ∷ [] })
with_answer v (Err cause) = Err (fault.BadRow (length v.lists + 1) cause)

abbrev pub with_row : VotesRead → List (List ℕ) → Result VotesRead VotesFault
with_row v fields = with_answer v (row_of v.lists fields)

-- the fault of a text that was stopped
abbrev pub stop_fault : Stop → VotesFault
stop_fault stopped.TooLong = fault.TooLong
stop_fault stopped.Read = fault.Read

-- what rows come to after which the text ended, or was stopped
abbrev pub rows_ended : VotesRead → Option Stop → Result VotesRead VotesFault
rows_ended v (Some stop) = Err (stop_fault stop)
rows_ended v None = if length v.lists == 0 then Err fault.NoList else Ok v

-- unless there is a fault, what comes next
abbrev pub and_then : Result VotesRead VotesFault → (VotesRead → Result VotesRead VotesFault)
    → Result VotesRead VotesFault
and_then (Ok v) next = next v
and_then (Err f) next = Err f

-- what records come to after these rows
abbrev pub read_rows : VotesRead → List (List (List ℕ)) → Option Stop → Result VotesRead VotesFault
read_rows v [] stop = rows_ended v stop
read_rows v (fields ∷ records) stop =
    if length v.lists == most_lists then Err fault.TooManyLists
    else and_then (with_row v fields) (λ more. read_rows more records stop)

-- ---- the text

abbrev pub is_header : List (List ℕ) → Bool
is_header (list ∷ votes ∷ []) =
    same_text list (codes "list") && same_text votes (codes "votes")
is_header fields = false

-- the fault of a text that ended, or was stopped, before its header did
abbrev pub no_header : Option Stop → VotesFault
no_header None = fault.BadHeader
no_header (Some stop) = stop_fault stop

abbrev pub no_rows : VotesRead
no_rows = record { lists = []; votes = [] }

-- the votes that the complete records of a text are, or the fault that comes first
abbrev pub votes_read : List (List (List ℕ)) → Option Stop → Result VotesRead VotesFault
votes_read [] stop = Err (no_header stop)
votes_read (header ∷ records) stop =
    if is_header header then read_rows no_rows records stop else Err fault.BadHeader
