-- What is known of the arguments of a command that clap takes, and what reading them comes to.
use Rattle.std.specs.Prelude.{◌≡◌, ◌&&◌, Bool, true, false, List, Option, Some, String, is_some}
use Rattle.std.specs.Prelude.{codes, if◌then◌else◌, option_map, string_bytes}
use Rattle.std.specs.Str.{bytes_eq}
use Rattle.std.specs.declared.alloc.Global.{Global}
use Rattle.clap.specs.Words.{Row, Text, first_of, found_of, kind_of, rows_of}
use Rattle.clap.specs.declared.parser.matches.ArgMatches.{ArgMatches}
use Rattle.clap.specs.declared.error.ErrorKind.TheVariants.{InvalidValue}
use Rattle.tally_office_line.specs.declared.line.LineFault.{LineFault}
use Rattle.tally_office_line.specs.declared.line.LineFault.TheVariants.{Usage, NoCon, Memory}
use Rattle.tally_frac.specs.Limits.{most_seats}
use Rattle.tally_office_line.specs.Line.{lacks_con, lacks_word, most_count, most_port}
use Rattle.tally_office_line.specs.Line.{number_given}

-- what was given of the arguments of a command, and what stands for those that were not
abbrev pub given_rows : ArgMatches → List Row
given_rows arguments = rows_of (found_of arguments)

-- the argument has a value
abbrev pub has : Text → List Row → Bool
has id rows = is_some (first_of id rows)

-- this is the text of the argument
abbrev pub IsGivenText : Text → List Row → String Global → Type 0
IsGivenText id rows text = first_of id rows ≡ Some (string_bytes text)

-- so it is where the argument has one, and else there is none
abbrev pub IsTextIfGiven : Text → List Row → Option (String Global) → Type 0
IsTextIfGiven id rows text = option_map string_bytes text ≡ first_of id rows

-- the argument of the port has a port
abbrev pub has_port : List Row → Bool
has_port rows = is_some (number_given (codes "port") 1 most_port rows)

-- and that of the connections, a number of connections
abbrev pub has_count : List Row → Bool
has_count rows = is_some (number_given (codes "count") 1 most_count rows)

-- that of the seats of an allotment, a number of seats
abbrev pub has_seats : List Row → Bool
has_seats rows = is_some (number_given (codes "seats") 1 most_seats rows)

-- what the command wants is given
abbrev pub has_arguments : Text × List Row → Bool
has_arguments p =
    if bytes_eq p.0 (codes "check") then true
    else if bytes_eq p.0 (codes "allot") then has_seats p.1 && has (codes "method") p.1
    else if bytes_eq p.0 (codes "recount") then has (codes "setup") p.1 && has (codes "con") p.1
    else if bytes_eq p.0 (codes "new") then has (codes "db") p.1 && has (codes "setup") p.1
    else if bytes_eq p.0 (codes "import")
    then has (codes "db") p.1 && (has (codes "con") p.1 && has (codes "csv") p.1)
    else if bytes_eq p.0 (codes "show") then has (codes "db") p.1 && has (codes "report") p.1
    else if bytes_eq p.0 (codes "serve")
    then has (codes "db") p.1 && (has_port p.1 && has_count p.1)
    else false

-- why there is no line
abbrev pub IsCommandFault : Text × List Row → LineFault → Type 0
IsCommandFault p (Usage e) = (lacks_word p ≡ true) × (kind_of e ≡ InvalidValue)
IsCommandFault p NoCon = lacks_con p ≡ true
IsCommandFault p Memory = Unit {0}

-- why a `show` has no line
abbrev pub IsShowFault : List Row → LineFault → Type 0
IsShowFault rows = IsCommandFault (codes "show", rows)

-- why an `allot` has no line
abbrev pub IsAllotFault : List Row → LineFault → Type 0
IsAllotFault rows = IsCommandFault (codes "allot", rows)
