-- What rows of votes come to.
use Rattle.std.proofs.Common.{◌≡◌, ◌<◌, ◌≤◌, ◌+◌, ◌++◌, ◌∷◌, ◌∙◌, ℕ, Bool, true, false, List, [], Option, Some, None, Result, Ok, Err, length, refl, sym, ap, subst, arith, length-append}
use Rattle.std.specs.Prelude.{◌≢◌, ◌==◌, if◌then◌else◌}
use Rattle.std.proofs.lemmas.Bool.{eqb-false, ne_eqb}
use Rattle.std.proofs.Math.Numerals.{lt_of_le_of_ne}
use Rattle.tally_frac.specs.Limits.{most_lists}
use Rattle.tally_import_records.specs.declared.end.Stop.{Stop}
use Rattle.tally_import_records.specs.declared.end.Stop.TheVariants as stopped
use Rattle.tally_import_votes.specs.Votes.{VotesRead, and_then, is_header, no_header, no_rows, read_rows, row_of, rows_ended, votes_read, with_answer, with_row}
use Rattle.tally_import_votes.specs.declared.fault.BadVotes.{BadVotes}
use Rattle.tally_import_votes.specs.declared.fault.VotesFault.{VotesFault}
use Rattle.tally_import_votes.specs.declared.fault.VotesFault.TheVariants as fault

-- one row more
pub longer : (v w : VotesRead) (row : Result (List ℕ × ℕ) BadVotes) → with_answer v row ≡ Ok w
    → (length w.lists ≡ length v.lists + 1) × (length w.votes ≡ length v.votes + 1)
longer v w (Ok row) is =
    let more : VotesRead = record { lists = v.lists ++ row.0 ∷ []; votes = v.votes ++ row.1 ∷ [] } in
    let same : w ≡ more = cc in (
      ap (λ (r : VotesRead). length r.lists) same ∙ length-append v.lists (row.0 ∷ []),
      ap (λ (r : VotesRead). length r.votes) same ∙ length-append v.votes (row.1 ∷ []),
    )
longer v w (Err cause) is = absurd (let never : ◌≡◌ {A = Result VotesRead VotesFault} (Err (fault.BadRow (length v.lists + 1) cause)) (Ok w) = is in cc)

going : (v : VotesRead) (left rest : List (List (List ℕ))) (fields : List (List ℕ)) (stop : Option Stop)
    → left ≡ fields ∷ rest → length v.lists ≢ most_lists → read_rows v left stop ≡ and_then (with_row v fields) (λ more. read_rows more rest stop)
going v left rest fields stop is room =
    ap (λ l. read_rows v l stop) is
    ∙ ap (λ b. if b then Err fault.TooManyLists else and_then (with_row v fields) (λ more. read_rows more rest stop)) (ne_eqb (length v.lists) most_lists room)

pub rows-next : (v w : VotesRead) (left rest : List (List (List ℕ))) (fields : List (List ℕ)) (stop : Option Stop) (found : Result VotesRead VotesFault)
    → read_rows v left stop ≡ found → left ≡ fields ∷ rest → length v.lists ≢ most_lists → with_row v fields ≡ Ok w → read_rows w rest stop ≡ found
rows-next v w left rest fields stop found read is room more =
    sym (ap (λ r. and_then r (λ it. read_rows it rest stop)) more) ∙ sym (going v left rest fields stop is room) ∙ read

some : (n : ℕ) → (n == 0) ≡ false → 1 ≤ n
some n e = lt_of_le_of_ne {n = 0} {m = n} (omega arith) (λ z. eqb-false n 0 e (sym z))

room_of : (n : ℕ) → n ≤ most_lists → (n == most_lists) ≡ false → n < most_lists
room_of n few e = lt_of_le_of_ne few (eqb-false n most_lists e)

-- 1 to 60 lists, with the votes of each
abbrev pub AreFit : VotesRead → Type 0
AreFit v = (1 ≤ length v.lists) × (length v.lists ≤ most_lists) × (length v.lists ≡ length v.votes)

-- what these records come to is fit
abbrev FitBehind : List (List (List ℕ)) → Option Stop → Type 0
FitBehind records stop = (v w : VotesRead) → length v.lists ≤ most_lists → length v.lists ≡ length v.votes → read_rows v records stop ≡ Ok w → AreFit w

rows-fit : (records : List (List (List ℕ))) (stop : Option Stop) (v w : VotesRead) → length v.lists ≤ most_lists → length v.lists ≡ length v.votes
    → read_rows v records stop ≡ Ok w → AreFit w
rows-fit [] (Some stop) v w few each is = absurd (let never : rows_ended v (Some stop) ≡ Ok w = is in cc)
rows-fit [] None v w few each is = go (length v.lists == 0) refl is
  where
    go : (b : Bool) → (length v.lists == 0) ≡ b → ◌≡◌ {A = Result VotesRead VotesFault} (if b then Err fault.NoList else Ok v) (Ok w) → AreFit w
    go true e same = absurd (let never : ◌≡◌ {A = Result VotesRead VotesFault} (Err fault.NoList) (Ok w) = same in cc)
    go false e same =
        let it : v ≡ w = cc in
        subst AreFit it (some (length v.lists) e, few, each)
rows-fit (fields ∷ records) stop v w few each is = go (rows-fit records stop) (length v.lists == most_lists) refl is
  where
    next : FitBehind records stop → (r : Result VotesRead VotesFault) → with_row v fields ≡ r → length v.lists < most_lists → and_then r (λ more. read_rows more records stop) ≡ Ok w → AreFit w
    next behind (Ok more) e room same =
        let grown = longer v more (row_of v.lists fields) e in
        behind more w (omega (arith, grown.0, room)) (grown.0 ∙ ap (λ n. n + 1) each ∙ sym grown.1) same
    next behind (Err f) e room same = absurd (let never : ◌≡◌ {A = Result VotesRead VotesFault} (Err f) (Ok w) = same in cc)

    go : FitBehind records stop → (b : Bool) → (length v.lists == most_lists) ≡ b
        → ◌≡◌ {A = Result VotesRead VotesFault} (if b then Err fault.TooManyLists else and_then (with_row v fields) (λ more. read_rows more records stop)) (Ok w) → AreFit w
    go behind true e same = absurd (let never : ◌≡◌ {A = Result VotesRead VotesFault} (Err fault.TooManyLists) (Ok w) = same in cc)
    go behind false e same = next behind (with_row v fields) refl (room_of (length v.lists) few e) same

pub votes-fit : (records : List (List (List ℕ))) (stop : Option Stop) (w : VotesRead) → votes_read records stop ≡ Ok w → AreFit w
votes-fit [] stop w is = absurd (let never : ◌≡◌ {A = Result VotesRead VotesFault} (Err (no_header stop)) (Ok w) = is in cc)
votes-fit (header ∷ records) stop w is = go (is_header header) is
  where
    go : (b : Bool) → ◌≡◌ {A = Result VotesRead VotesFault} (if b then read_rows no_rows records stop else Err fault.BadHeader) (Ok w) → AreFit w
    go true same = rows-fit records stop no_rows w (omega arith) refl same
    go false same = absurd (let never : ◌≡◌ {A = Result VotesRead VotesFault} (Err fault.BadHeader) (Ok w) = same in cc)

-- votes are found only where nothing stopped the text
rows-end : (records : List (List (List ℕ))) (stop : Option Stop) (v w : VotesRead) → read_rows v records stop ≡ Ok w → stop ≡ None
rows-end [] None v w is = refl
rows-end [] (Some stop) v w is = cc
rows-end (fields ∷ records) stop v w is = go (λ more. rows-end records stop more w) (length v.lists == most_lists) is
  where
    next : ((more : VotesRead) → read_rows more records stop ≡ Ok w → stop ≡ None) → (r : Result VotesRead VotesFault) → and_then r (λ more. read_rows more records stop) ≡ Ok w → stop ≡ None
    next behind (Ok more) same = behind more same
    next behind (Err f) same = cc

    go : ((more : VotesRead) → read_rows more records stop ≡ Ok w → stop ≡ None) → (b : Bool)
        → ◌≡◌ {A = Result VotesRead VotesFault} (if b then Err fault.TooManyLists else and_then (with_row v fields) (λ more. read_rows more records stop)) (Ok w) → stop ≡ None
    go behind true same = cc
    go behind false same = next behind (with_row v fields) same

pub votes-end : (records : List (List (List ℕ))) (stop : Option Stop) (w : VotesRead) → votes_read records stop ≡ Ok w → stop ≡ None
votes-end [] stop w is = cc
votes-end (header ∷ records) stop w is = go (is_header header) is
  where
    go : (b : Bool) → ◌≡◌ {A = Result VotesRead VotesFault} (if b then read_rows no_rows records stop else Err fault.BadHeader) (Ok w) → stop ≡ None
    go true same = rows-end records stop no_rows w same
    go false same = cc

-- a failed read is found only where one stopped the text
rows-failed : (records : List (List (List ℕ))) (stop : Option Stop) (v : VotesRead) → read_rows v records stop ≡ Err fault.Read → stop ≡ Some stopped.Read
rows-failed [] (Some stopped.Read) v is = refl
rows-failed [] (Some stopped.TooLong) v is = cc
rows-failed [] None v is = go (length v.lists == 0) is
  where
    go : (b : Bool) → ◌≡◌ {A = Result VotesRead VotesFault} (if b then Err fault.NoList else Ok v) (Err fault.Read) → ◌≡◌ {A = Option Stop} None (Some stopped.Read)
    go true same = cc
    go false same = cc
rows-failed (fields ∷ records) stop v is = go (rows-failed records stop) (length v.lists == most_lists) is
  where
    answer : (row : Result (List ℕ × ℕ) BadVotes) → with_answer v row ≡ Err fault.Read → stop ≡ Some stopped.Read
    answer (Ok row) same = cc
    answer (Err cause) same = cc

    next : ((more : VotesRead) → read_rows more records stop ≡ Err fault.Read → stop ≡ Some stopped.Read)
        → (r : Result VotesRead VotesFault) → with_row v fields ≡ r → and_then r (λ more. read_rows more records stop) ≡ Err fault.Read → stop ≡ Some stopped.Read
    next behind (Ok more) e same = behind more same
    next behind (Err f) e same = answer (row_of v.lists fields) (e ∙ same)

    go : ((more : VotesRead) → read_rows more records stop ≡ Err fault.Read → stop ≡ Some stopped.Read) → (b : Bool)
        → ◌≡◌ {A = Result VotesRead VotesFault} (if b then Err fault.TooManyLists else and_then (with_row v fields) (λ more. read_rows more records stop)) (Err fault.Read)
        → stop ≡ Some stopped.Read
    go behind true same = cc
    go behind false same = next behind (with_row v fields) refl same

pub votes-failed : (records : List (List (List ℕ))) (stop : Option Stop) → votes_read records stop ≡ Err fault.Read → stop ≡ Some stopped.Read
votes-failed [] (Some stopped.Read) is = refl
votes-failed [] (Some stopped.TooLong) is = cc
votes-failed [] None is = cc
votes-failed (header ∷ records) stop is = go (is_header header) is
  where
    go : (b : Bool) → ◌≡◌ {A = Result VotesRead VotesFault} (if b then read_rows no_rows records stop else Err fault.BadHeader) (Err fault.Read) → stop ≡ Some stopped.Read
    go true same = rows-failed records stop no_rows same
    go false same = cc
