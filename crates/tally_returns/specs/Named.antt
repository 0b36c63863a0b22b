-- What a command names.
use Rattle.std.specs.Prelude.{◌≡◌, true, ℕ, List, Option, Some, None}
use Rattle.std.specs.Option.{ForSome}
use Rattle.tally_setup.specs.Code.{is_code}
use Rattle.tally_returns.specs.declared.ask.Ask.{Ask}
use Rattle.tally_returns.specs.declared.ask.Ask.TheVariants.{Lodge, Query, Correct, Close}
use Rattle.tally_returns.specs.declared.ask.Ask.TheVariants.{Confirm, ShowReturn, Draw, Certify}
use Rattle.tally_returns.specs.declared.ask.Ask.TheVariants.{Reopen, Vacate, ShowCon, ShowProgress}

-- the station that a command on a return names
abbrev pub station_named : Ask → Option (List ℕ)
station_named (Lodge station slip counts) = Some station
station_named (Query station rev note) = Some station
station_named (Correct station rev slip counts) = Some station
station_named (Close station rev) = Some station
station_named (Confirm station rev slip counts) = Some station
station_named (ShowReturn station) = Some station
station_named (Draw con edition order) = None
station_named (Certify con edition) = None
station_named (Reopen con edition note) = None
station_named (Vacate con list place note) = None
station_named (ShowCon con) = None
station_named ShowProgress = None

-- the constituency that a command on one names
abbrev pub con_named : Ask → Option (List ℕ)
con_named (Lodge station slip counts) = None
con_named (Query station rev note) = None
con_named (Correct station rev slip counts) = None
con_named (Close station rev) = None
con_named (Confirm station rev slip counts) = None
con_named (ShowReturn station) = None
con_named (Draw con edition order) = Some con
con_named (Certify con edition) = Some con
con_named (Reopen con edition note) = Some con
con_named (Vacate con list place note) = Some con
con_named (ShowCon con) = Some con
con_named ShowProgress = None

-- the slip that a command brings
abbrev pub slip_named : Ask → Option (List ℕ)
slip_named (Lodge station slip counts) = Some slip
slip_named (Query station rev note) = None
slip_named (Correct station rev slip counts) = Some slip
slip_named (Close station rev) = None
slip_named (Confirm station rev slip counts) = Some slip
slip_named (ShowReturn station) = None
slip_named (Draw con edition order) = None
slip_named (Certify con edition) = None
slip_named (Reopen con edition note) = None
slip_named (Vacate con list place note) = None
slip_named (ShowCon con) = None
slip_named ShowProgress = None

-- The slip that a command brings is a code. So it is of each command that a program makes; a law
-- that speaks of all commands asks for it.
abbrev pub BringsCode : Ask → Type 0
BringsCode ask = ForSome (slip_named ask) (λ slip. is_code slip ≡ true)
