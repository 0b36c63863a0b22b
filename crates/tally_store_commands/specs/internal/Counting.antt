-- What is known of constituencies after a return was lodged or has moved.
use Rattle.std.specs.Prelude.{◌≡◌, ◌+◌, ◌-◌, ◌^◌, if◌then◌else◌, ℕ, Bool, false, List, min, Option}
use Rattle.std.specs.Prelude.{None, Some, Result, Ok, IfOk}
use Rattle.std.specs.BTreeMap.{BTreeMap}
use Rattle.std.specs.FinMap.{get, insert}
use Rattle.std.specs.Option.{option_map_or}
use Rattle.tally_setup.specs.Constituency.{Constituency}
use Rattle.tally_returns.specs.Progress.{is_received, is_queried, is_corrected, is_closed}
use Rattle.tally_returns.specs.declared.ask.Ask.{Ask}
use Rattle.tally_returns.specs.declared.ask.Ask.TheVariants.{Query, Correct, Close, Confirm}
use Rattle.tally_returns.specs.declared.progress.ProgressRow.{ProgressRow}
use Rattle.tally_returns.specs.declared.refusal.Refusal.{Refusal}
use Rattle.tally_returns.specs.declared.reply.LodgeReply.{LodgeReply}
use Rattle.tally_returns.specs.declared.reply.LodgeReply.TheVariants.{Lodged}
use Rattle.tally_returns.specs.declared.returns.Status.{Status}
use Rattle.tally_returns.specs.declared.returns.Status.TheVariants.{Received, Queried, Corrected}
use Rattle.tally_returns.specs.declared.returns.Status.TheVariants.{Closed}
use Rattle.tally_returns_rows.specs.Import.{RowAnswer}
use Rattle.tally_returns_rows.specs.declared.import.Row.{Row}
use Rattle.tally_returns_rows.specs.declared.import.Row.TheVariants as row
use Rattle.tally_returns.specs.declared.ask.Ask.TheVariants as ask
use Rattle.tally_machine_law.specs.Step.{con_of_station}
use Rattle.tally_store_rows.specs.declared.views.Statuses.{Statuses}
use Rattle.tally_store_commands.specs.internal.Known.{Known, known_of}

-- the numbers in the row that shows how far a constituency has come
abbrev pub statuses_of_row : ProgressRow → Statuses
statuses_of_row row = record {
  stations = row.stations;
  received = row.received;
  queried = row.queried;
  corrected = row.corrected;
  closed = row.closed;
}

-- ---- a return that moves

-- a number of 32 bits with one more, where it has room, or with one less
abbrev pub one_more_if : Bool → ℕ → ℕ
one_more_if by_one n = if by_one then min (n + 1) (2 ^ 32 - 1) else n

abbrev pub one_less_if : Bool → ℕ → ℕ
one_less_if by_one n = if by_one then n - 1 else n

-- one return more of this status
abbrev pub with_one : Status → Statuses → Statuses
with_one status s = record s {
  received = one_more_if (is_received status) s.received;
  queried = one_more_if (is_queried status) s.queried;
  corrected = one_more_if (is_corrected status) s.corrected;
  closed = one_more_if (is_closed status) s.closed;
}

-- whether there is a return and it has such a status
abbrev pub has_status : (Status → Bool) → Option Status → Bool
has_status is_status status = option_map_or is_status status false

-- one return less of this status
abbrev pub without_one : Option Status → Statuses → Statuses
without_one status s = record s {
  received = one_less_if (has_status is_received status) s.received;
  queried = one_less_if (has_status is_queried status) s.queried;
  corrected = one_less_if (has_status is_corrected status) s.corrected;
  closed = one_less_if (has_status is_closed status) s.closed;
}

-- a return that had the one status, or was not there, has the other
abbrev pub with_move : Option Status → Status → Statuses → Statuses
with_move before standing s = without_one before (with_one standing s)

abbrev pub with_statuses_changed : Known → List ℕ → (Statuses → Statuses) → Option Statuses → Known
with_statuses_changed known con change None = known
with_statuses_changed known con change (Some statuses) = insert known con (change statuses)

-- what is known of a constituency, changed
abbrev pub with_known : Known → List ℕ → (Statuses → Statuses) → Known
with_known known con change = with_statuses_changed known con change (get known con)

-- what is known after a return of a constituency moved
abbrev pub known_after_move : List ℕ → Option Status → Status → Known → Known
known_after_move con before standing known = with_known known con (with_move before standing)

-- ---- after a Lodge

abbrev pub known_after_lodge_in : Option (List ℕ) → Known → Known
known_after_lodge_in None known = known
known_after_lodge_in (Some con) known = known_after_move con None Received known

-- where a return was lodged, one is received
abbrev pub known_after_lodge : List Constituency → List ℕ → Result LodgeReply Refusal → Known
    → Known
known_after_lodge setup station (Ok (Lodged rev)) known =
    known_after_lodge_in (con_of_station setup station) known
known_after_lodge setup station other known = known

abbrev pub known_after_lodge_row : List Constituency → Row → Result LodgeReply Refusal → Known
    → Known
known_after_lodge_row setup (row.Lodge (ask.Lodge station slip counts)) answer known =
    known_after_lodge setup station answer known
known_after_lodge_row setup other answer known = known

-- the same of a row
abbrev pub known_after_row : List Constituency → Row → RowAnswer → Known → Known
known_after_row setup r None known = known
known_after_row setup r (Some answer) known = known_after_lodge_row setup r answer known

-- What is known after a call that lodges a return, whatever was known before.
abbrev pub CountsLodge : {E : Type 0} → List Constituency → List ℕ → BTreeMap (List ℕ) Statuses →
    BTreeMap (List ℕ) Statuses → Result (Result LodgeReply Refusal) E → Type 0
CountsLodge setup station old new result =
    IfOk result (λ r. known_of new ≡ known_after_lodge setup station r (known_of old))

-- and after one that takes a row
abbrev pub CountsRow : {E : Type 0} → List Constituency → Row → BTreeMap (List ℕ) Statuses →
    BTreeMap (List ℕ) Statuses → Result RowAnswer E → Type 0
CountsRow setup row old new result =
    IfOk result (λ answer. known_of new ≡ known_after_row setup row answer (known_of old))

-- ---- after a command that moves a return

-- the status of a return that it has moved
abbrev pub status_after : Ask → Option Status
status_after (Query station rev note) = Some Queried
status_after (Correct station rev slip counts) = Some Corrected
status_after (Close station rev) = Some Closed
status_after (Confirm station rev slip counts) = Some Closed
status_after other = None

abbrev pub after_status : List ℕ → Option Status → Option Status → Known → Known
after_status con before None known = known
after_status con before (Some standing) known = known_after_move con before standing known

abbrev pub after_command : List ℕ → Ask → Option Status → Bool → Known → Known
after_command con command before accepted known =
    if accepted
    then after_status con before (status_after command) known
    else known
