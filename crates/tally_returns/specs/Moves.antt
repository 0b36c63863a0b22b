-- Query, Correct, Close and Confirm: the checks of each in their order, and the return that it
-- leaves.
use Rattle.std.specs.Prelude.{◌+◌, ◌==◌, not, ℕ, Bool, true, false, List, [], ◌∷◌, ◌++◌, Option}
use Rattle.std.specs.Prelude.{is_some}
use Rattle.std.specs.Option.{option_map_or}
use Rattle.tally_setup.specs.Text.{is_note}
use Rattle.tally_setup.specs.declared.constituency.Entry.{Entry}
use Rattle.tally_setup.specs.declared.constituency.Entry.TheVariants.{Single, Double}
use Rattle.tally_returns.specs.Counts.{VoteCounts}
use Rattle.tally_returns.specs.Return.{StationReturn}
use Rattle.tally_returns.specs.Lodge.{StationLimits, counts_checks, is_return_of}
use Rattle.tally_returns.specs.Checks.{check, check_found}
use Rattle.tally_returns.specs.declared.returns.Status.{Status}
use Rattle.tally_returns.specs.declared.returns.Status.TheVariants.{Received, Queried, Corrected}
use Rattle.tally_returns.specs.declared.returns.Status.TheVariants.{Closed}
use Rattle.tally_returns.specs.declared.refusal.Refusal.{Refusal}
use Rattle.tally_returns.specs.declared.refusal.Refusal.TheVariants.{NoStation, BadNote, NoReturn}
use Rattle.tally_returns.specs.declared.refusal.Refusal.TheVariants.{Certified, Stale, Exhausted}
use Rattle.tally_returns.specs.declared.refusal.Refusal.TheVariants.{WrongStatus, Differs}
use Rattle.tally_returns.specs.declared.refusal.Refusal.TheVariants.{NotConfirmed}

-- the last revision that a return can have
abbrev pub last_revision : ℕ
last_revision = 9999

-- the statuses that each command starts from
abbrev pub may_query : Status → Bool
may_query Received = true
may_query Queried = false
may_query Corrected = true
may_query Closed = true

abbrev pub may_correct : Status → Bool
may_correct Received = false
may_correct Queried = true
may_correct Corrected = false
may_correct Closed = false

abbrev pub may_close : Status → Bool
may_close Received = true
may_close Queried = false
may_close Corrected = true
may_close Closed = false

-- the checks on a return that is to move: it is there, its constituency is not certified, the
-- revision named is the present one and is not the last, and the command starts from its status
abbrev pub move_checks : Bool → Option StationReturn → ℕ → (Status → Bool) → List (Option Refusal)
move_checks certified found rev may_start =
    check (is_some found) NoReturn
    ∷ check (not certified) Certified
    ∷ check_found found (λ standing. standing.rev == rev) (λ standing. Stale standing.rev)
    ∷ check_found found (λ standing. not (standing.rev == last_revision)) (λ standing. Exhausted)
    ∷ check_found found (λ standing. may_start standing.status)
    (λ standing. WrongStatus standing.status)
    ∷ []

abbrev pub query_checks : Option StationLimits → Bool → Option StationReturn → ℕ → List ℕ
    → List (Option Refusal)
query_checks station certified found rev note =
    check (is_some station) NoStation
    ∷ check (is_note note) BadNote
    ∷ move_checks certified found rev may_query

-- the checks on the counts that come to a code: it is a station, and then those on what was counted
abbrev pub counts_checks_at : Option StationLimits → VoteCounts → List (Option Refusal)
counts_checks_at station counts =
    check (is_some station) NoStation
    ∷ option_map_or (λ limits. counts_checks limits counts) station []

abbrev pub correct_checks : Option StationLimits → Bool → Option StationReturn → ℕ → VoteCounts
    → List (Option Refusal)
correct_checks station certified found rev counts =
    counts_checks_at station counts ++ move_checks certified found rev may_correct

-- the last check of Close: the returns of the constituency are entered once
abbrev pub is_single : Entry → Bool
is_single Single = true
is_single Double = false

abbrev pub entry_checks : Entry → List (Option Refusal)
entry_checks entry = check (is_single entry) NotConfirmed ∷ []

abbrev pub close_checks : Option StationLimits → Bool → Option StationReturn → ℕ
    → List (Option Refusal)
close_checks station certified found rev =
    check (is_some station) NoStation
    ∷ (move_checks certified found rev may_close
    ++ option_map_or (λ limits. entry_checks limits.entry) station [])

-- the last check of Confirm: the recorded return has the same slip and counts
abbrev pub same_checks : Option StationReturn → List ℕ → VoteCounts → List (Option Refusal)
same_checks found slip counts =
    check_found found (is_return_of slip counts) (λ standing. Differs standing.rev) ∷ []

abbrev pub confirm_checks : Option StationLimits → Bool → Option StationReturn → ℕ → List ℕ
    → VoteCounts → List (Option Refusal)
confirm_checks station certified found rev slip counts =
    counts_checks_at station counts
    ++ (move_checks certified found rev may_close ++ same_checks found slip counts)

-- the note replaces the old one
abbrev pub queried_return : List ℕ → StationReturn → StationReturn
queried_return note standing = record standing {
  rev = standing.rev + 1;
  status = Queried;
  note = note;
}

-- slip and counts are replaced, the note is kept
abbrev pub corrected_return : List ℕ → VoteCounts → StationReturn → StationReturn
corrected_return slip counts standing =
    record standing { rev = standing.rev + 1; slip = slip; status = Corrected; counts = counts }

-- the note is kept
abbrev pub closed_return : StationReturn → StationReturn
closed_return standing = record standing { rev = standing.rev + 1; status = Closed }
