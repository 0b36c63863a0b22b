-- What is decided of a command on the return of a station: the refusal of the first check that
-- fails, or what is changed.
use Rattle.std.specs.Prelude.{◌≡◌, ◌≢◌, ℕ, Bool, List, [], ◌∷◌, Option, Some, None, Result, Ok, Err}
use Rattle.std.specs.Prelude.{is_some, string_bytes, length, option_and_then, option_map}
use Rattle.std.specs.List.{find}
use Rattle.std.specs.Str.{bytes_eq}
use Rattle.tally_setup.specs.Constituency.{Constituency, entitled}
use Rattle.tally_setup.specs.declared.constituency.Station.{Station}
use Rattle.tally_returns.specs.Return.{StationReturn, first_return}
use Rattle.tally_returns.specs.Counts.{VoteCounts}
use Rattle.tally_returns.specs.Lodge.{StationLimits, reply_at_code, limits_for}
use Rattle.tally_returns.specs.Moves.{query_checks, correct_checks, close_checks, confirm_checks}
use Rattle.tally_returns.specs.Moves.{queried_return, corrected_return, closed_return}
use Rattle.tally_returns.specs.Named.{station_named}
use Rattle.tally_returns.specs.Checks.{check, first_refusal, refused_or}
use Rattle.tally_returns.specs.declared.ask.Ask.{Ask}
use Rattle.tally_returns.specs.declared.ask.Ask.TheVariants.{Lodge, Query, Correct, Close}
use Rattle.tally_returns.specs.declared.ask.Ask.TheVariants.{Confirm, ShowReturn}
use Rattle.tally_returns.specs.declared.change.Change.{Change}
use Rattle.tally_returns.specs.declared.change.Change.TheVariants.{Same, PutReturn}
use Rattle.tally_returns.specs.declared.refusal.Refusal.{Refusal}
use Rattle.tally_returns.specs.declared.refusal.Refusal.TheVariants.{NoStation, NoReturn, Memory}
use Rattle.tally_returns.specs.declared.reply.LodgeReply.{LodgeReply}
use Rattle.tally_returns.specs.declared.reply.LodgeReply.TheVariants as reply

-- the station of a code in a constituency
abbrev pub station_in : Constituency → List ℕ → Option Station
station_in con code = find (λ (station : Station). bytes_eq code station.code) con.stations

abbrev pub limits_of : Constituency → Station → StationLimits
limits_of con station = limits_for (length con.lists) (entitled station) con.entry

-- what the constituency says of the station that a command names
abbrev pub limits_named : Constituency → Ask → Option StationLimits
limits_named con ask =
    option_map (limits_of con) (option_and_then (station_in con) (station_named ask))

-- the checks of ShowReturn
abbrev pub show_checks : Option StationLimits → Option StationReturn → List (Option Refusal)
show_checks station found = check (is_some station) NoStation ∷ check (is_some found) NoReturn ∷ []

-- a return that was lodged is put; one that is recorded already changes nothing
abbrev pub lodge_change : List ℕ → VoteCounts → Result LodgeReply Refusal → Result Change Refusal
lodge_change slip counts (Ok (reply.Lodged rev)) = Ok (PutReturn (first_return slip counts))
lodge_change slip counts (Ok (reply.Same rev)) = Ok Same
lodge_change slip counts (Err refusal) = Err refusal

-- The recorded return becomes the next one. Each command that moves it checks that there is one, so
-- the line for none is never used.
abbrev pub put_next : Option StationReturn → (StationReturn → StationReturn) → Change
put_next None next = Same
put_next (Some standing) next = PutReturn (next standing)

-- what is answered is this, unless an allocation was refused
abbrev pub IsUnlessMemory : {X : Type 0} → Result X Refusal → Result X Refusal → Type 0
IsUnlessMemory (Ok x) answer = answer ≡ Ok x
IsUnlessMemory (Err refusal) answer = refusal ≢ Memory → answer ≡ Err refusal

-- the refusal of the first check that fails, or else the next return
abbrev pub move_change : List (Option Refusal) → Option StationReturn
    → (StationReturn → StationReturn) → Result Change Refusal
move_change checks found next = refused_or (first_refusal checks) (Ok (put_next found next))

-- This is decided of a move, unless an allocation was refused.
abbrev pub IsDecidedMove : List (Option Refusal) → Option StationReturn
    → (StationReturn → StationReturn) → Result Change Refusal → Type 0
IsDecidedMove checks found next result = IsUnlessMemory result (move_change checks found next)

-- what is decided at a station, by whether its constituency is certified and by the return that it
-- has. Other commands change no return.
abbrev pub return_change : Option StationLimits → Bool → Option StationReturn → Ask
    → Result Change Refusal
return_change station certified found (Lodge code slip counts) =
    lodge_change slip counts (reply_at_code station found slip counts)
return_change station certified found (Query code rev note) =
    move_change (query_checks station certified found rev (string_bytes note)) found
    (queried_return (string_bytes note))
return_change station certified found (Correct code rev slip counts) =
    move_change (correct_checks station certified found rev counts) found
    (corrected_return slip counts)
return_change station certified found (Close code rev) =
    move_change (close_checks station certified found rev) found closed_return
return_change station certified found (Confirm code rev slip counts) =
    move_change (confirm_checks station certified found rev slip counts) found closed_return
return_change station certified found (ShowReturn code) =
    refused_or (first_refusal (show_checks station found)) (Ok Same)
return_change station certified found other = Ok Same

-- the same at a station of this constituency
abbrev pub return_change_at : Constituency → Station → Bool → Option StationReturn → Ask
    → Result Change Refusal
return_change_at con station certified found ask =
    return_change (Some (limits_of con station)) certified found ask

-- the same at the station of this constituency that the command names
abbrev pub return_change_named : Constituency → Bool → Option StationReturn → Ask
    → Result Change Refusal
return_change_named con certified found ask =
    return_change (limits_named con ask) certified found ask
