-- The command line of the program: what it offers, and what the words that it is given ask for, as
-- clap reads them.
use Rattle.std.specs.Prelude.{◌≡◌, ◌≤◌, ◌&&◌, ◌||◌, ℕ, Bool, true, false, not, List, [], ◌∷◌}
use Rattle.std.specs.Prelude.{Option, Some, None, is_some, Result, IfOk}
use Rattle.std.specs.Prelude.{codes, if◌then◌else◌, option_and_then, option_map, string_bytes}
use Rattle.std.specs.Prelude.{unwrap_or}
use Rattle.std.specs.Option.{option_map_or}
use Rattle.std.specs.Str.{bytes_eq}
use Rattle.std.specs.Str.Parse.{digits_value, without_leading_plus}
use Rattle.clap.specs.Words.{App, IsAmong, Kinds, Row, Rule, Text, fault_of, first_of, kind_of}
use Rattle.clap.specs.Words.{new_app, new_rule, one_of}
use Rattle.clap.specs.Words.{subcommand_of, with_rule, with_subcommand}
use Rattle.clap.specs.Kinds.{or_else}
use Rattle.clap.specs.Simple.{on_top}
use Rattle.clap.specs.ValueTests.{is_unsigned_in}
use Rattle.clap.specs.declared.error.Error.{Error}
use Rattle.clap.specs.declared.error.ErrorKind.{ErrorKind}
use Rattle.clap.specs.declared.error.ErrorKind.TheVariants.{InvalidValue, OutOfMemory}
use Rattle.clap.specs.declared.builder.ArgAction.TheVariants.{SetTrue}
use Rattle.clap.specs.declared.builder.ValueParser.TheVariants.{Unsigned}
use Rattle.tally_frac.specs.Limits.{most_seats, most_votes, whole_base}
use Rattle.tally_import_records.specs.declared.separator.Sep.{Sep}
use Rattle.tally_import_records.specs.declared.separator.Sep.TheVariants.{Comma, Semicolon}
use Rattle.tally_import_options.specs.WantedRecount.{Wanted as WantedRecount}
use Rattle.tally_import_options.specs.WantedRecount.{wanted as recount_wanted}
use Rattle.tally_import_options.specs.Wanted.{Wanted, wanted}
use Rattle.tally_setup.specs.Method.{method_named}
use Rattle.tally_setup.specs.declared.profile.Base.{Base}
use Rattle.tally_setup.specs.declared.profile.Base.TheVariants.{Valid, Lists}
use Rattle.tally_setup.specs.declared.profile.LotRule.{LotRule}
use Rattle.tally_setup.specs.declared.profile.LotRule.TheVariants.{Fixed, Alternating}
use Rattle.tally_setup.specs.declared.profile.Method.{Method}
use Rattle.tally_office_line.specs.declared.line.Line.{Line}
use Rattle.tally_office_line.specs.declared.line.Line.TheVariants as line
use Rattle.tally_office_line.specs.declared.line.LineFault.{LineFault}
use Rattle.tally_office_line.specs.declared.line.LineFault.TheVariants.{Usage, NoCon, Memory}
use Rattle.tally_report_names.specs.Names.{needs_con, shown_named}
use Rattle.tally_report_names.specs.declared.shown.Shown.{Shown}

-- ---- what the program offers

-- `--NAME`, a flag
abbrev pub flag_rule : Text → Rule
flag_rule name = record (new_rule name) { long = Some name; action = Some SetTrue }

-- `--NAME VALUE`, which may be left out
abbrev pub value_rule : Text → Rule
value_rule name = record (new_rule name) { long = Some name; value_names = 1 }

-- `--NAME VALUE`, which has to be given
abbrev pub wanted_rule : Text → Rule
wanted_rule name = record (value_rule name) { required = true }

-- `--NAME N`, which has to be given, N a whole number from low to high
abbrev pub number_rule : Text → ℕ → ℕ → Rule
number_rule name low high = record (wanted_rule name) { parser = Some (Unsigned low high) }

-- `--NAME N`, which may be left out, N a whole number up to this
abbrev pub amount_rule : Text → ℕ → Rule
amount_rule name high = record (value_rule name) { parser = Some (Unsigned 0 high) }

-- `check [--semicolon] [--rows]`
abbrev pub check_app : App
check_app =
    with_rule (with_rule (new_app (codes "check")) (flag_rule (codes "semicolon")))
    (flag_rule (codes "rows"))

-- `allot --seats N --method WORD [--threshold N] [--base WORD] [--blank N]`
abbrev pub bare_allot_app : App
bare_allot_app = with_rule (with_rule (with_rule (with_rule (with_rule (new_app (codes "allot"))
    (number_rule (codes "seats") 1 most_seats)) (wanted_rule (codes "method")))
    (amount_rule (codes "threshold") whole_base)) (value_rule (codes "base")))
    (amount_rule (codes "blank") most_votes)

-- the same with `[--lot CODES] [--alternating] [--awards] [--semicolon]`
abbrev pub allot_app : App
allot_app = with_rule (with_rule (with_rule (with_rule bare_allot_app (value_rule (codes "lot")))
    (flag_rule (codes "alternating"))) (flag_rule (codes "awards"))) (flag_rule (codes "semicolon"))

-- `recount --setup FILE --con CODE [--without CODES] [--lot CODES]`
abbrev pub bare_recount_app : App
bare_recount_app = with_rule (with_rule (with_rule (with_rule (new_app (codes "recount"))
    (wanted_rule (codes "setup"))) (wanted_rule (codes "con")))
    (value_rule (codes "without"))) (value_rule (codes "lot"))

-- the same with `[--awards] [--decisive] [--semicolon]`
abbrev pub recount_app : App
recount_app = with_rule (with_rule (with_rule bare_recount_app (flag_rule (codes "awards")))
    (flag_rule (codes "decisive"))) (flag_rule (codes "semicolon"))

-- `new --db FILE --setup FILE`
abbrev pub new_office_app : App
new_office_app =
    with_rule (with_rule (new_app (codes "new")) (wanted_rule (codes "db")))
    (wanted_rule (codes "setup"))

-- `import --db FILE --con CODE --csv FILE`
abbrev pub bare_import_app : App
bare_import_app = with_rule (with_rule (with_rule (new_app (codes "import"))
    (wanted_rule (codes "db"))) (wanted_rule (codes "con"))) (wanted_rule (codes "csv"))

-- the same with `[--semicolon] [--rows]`
abbrev pub import_app : App
import_app = with_rule (with_rule bare_import_app (flag_rule (codes "semicolon")))
    (flag_rule (codes "rows"))

-- `show --db FILE --report NAME [--con CODE]`
abbrev pub show_app : App
show_app = with_rule (with_rule (with_rule (new_app (codes "show"))
    (wanted_rule (codes "db"))) (wanted_rule (codes "report"))) (value_rule (codes "con"))

-- the highest port
abbrev pub most_port : ℕ
most_port = 65535

-- the most connections that are served
abbrev pub most_count : ℕ
most_count = 1000000

-- `serve --db FILE --port N --count N`
abbrev pub serve_app : App
serve_app = with_rule (with_rule (with_rule (new_app (codes "serve"))
    (wanted_rule (codes "db"))) (number_rule (codes "port") 1 most_port))
    (number_rule (codes "count") 1 most_count)

-- with two commands more
abbrev pub with_commands : App → App → App → App
with_commands app first second = with_subcommand (with_subcommand app first.top) second.top

-- `office COMMAND`, where a command is required, and help is the answer to nothing at all; it has a
-- version
abbrev pub bare_office_app : App
bare_office_app = on_top (λ s. record s {
  has_version = true;
  subcommand_required = true;
  arg_required_else_help = true;
}) (new_app (codes "office"))

abbrev pub office_app : App
office_app = with_subcommand (with_commands (with_commands (with_commands bare_office_app
    check_app allot_app) recount_app new_office_app) import_app show_app) serve_app.top

-- ---- what the values of a command are

-- the flag was given
abbrev pub is_set : Text → List Row → Bool
is_set id rows = option_map_or (bytes_eq (codes "true")) (one_of id rows) false

abbrev pub sep_given : List Row → Sep
sep_given rows = if is_set (codes "semicolon") rows then Semicolon else Comma

-- the number that a text writes, where it is from low to high
abbrev pub number_in_range : ℕ → ℕ → Text → Option ℕ
number_in_range low high text =
    if is_unsigned_in low high text
    then Some (digits_value 10 (without_leading_plus text))
    else None

abbrev pub number_given : Text → ℕ → ℕ → List Row → Option ℕ
number_given id low high rows = option_and_then (number_in_range low high) (first_of id rows)

-- the number of an argument that may be left out, and 0 where it is
abbrev pub number_or_none : Text → ℕ → List Row → ℕ
number_or_none id high rows = unwrap_or (number_given id 0 high rows) 0

-- the method, the base, which is that of the valid votes where none is given, and the rule of lots
abbrev pub method_given : List Row → Option Method
method_given rows = option_and_then method_named (first_of (codes "method") rows)

abbrev pub base_named : Text → Option Base
base_named word =
    if bytes_eq word (codes "valid") then Some Valid
    else if bytes_eq word (codes "lists") then Some Lists
    else None

abbrev pub base_given : List Row → Option Base
base_given rows = base_named (unwrap_or (first_of (codes "base") rows) (codes "valid"))

abbrev pub lot_rule_given : List Row → LotRule
lot_rule_given rows = if is_set (codes "alternating") rows then Alternating else Fixed

-- what is to be shown
abbrev pub report_of : List Row → Option Shown
report_of rows = option_and_then shown_named (first_of (codes "report") rows)

-- ---- lines

-- A line as contracts see it: a text is its bytes, however a program keeps it.
pub data LineSeen : Type 0 where
  CheckSeen : Sep → Bool → LineSeen
  AllotSeen : Wanted → LineSeen
  RecountSeen : Text → Text → WantedRecount → LineSeen
  NewSeen : Text → Text → LineSeen
  ImportSeen : Text → Text → Text → Sep → Bool → LineSeen
  ShowSeen : Text → Shown → Option Text → LineSeen
  ServeSeen : Text → ℕ → ℕ → LineSeen

abbrev pub line_seen : Line → LineSeen
line_seen (line.Check sep rows) = CheckSeen sep rows
line_seen (line.Allot options) = AllotSeen (wanted options)
line_seen (line.Recount setup con options) =
    RecountSeen (string_bytes setup) (string_bytes con) (recount_wanted options)
line_seen (line.New db setup) = NewSeen (string_bytes db) (string_bytes setup)
line_seen (line.Import db con csv sep rows) =
    ImportSeen (string_bytes db) (string_bytes con) (string_bytes csv) sep rows
line_seen (line.Show db name con) = ShowSeen (string_bytes db) name (option_map string_bytes con)
line_seen (line.Serve db port count) = ServeSeen (string_bytes db) port count

-- The call gives this line, where it gives one.
abbrev pub GivesLine : {E : Type 0} → Result Line E → Option LineSeen → Type 0
GivesLine result seen = IfOk result (λ line. seen ≡ Some (line_seen line))

-- one value after another, where each is there
infixl 10 ◌>>=◌
abbrev pub ◌>>=◌ : {A B : Type 0} → Option A → (A → Option B) → Option B
found >>= next = option_and_then next found

abbrev pub check_line : List Row → Option LineSeen
check_line rows = Some (CheckSeen (sep_given rows) (is_set (codes "rows") rows))

-- what is asked of an allotment, by a method and a base
abbrev pub wanted_by : List Row → ℕ → Method → Base → Wanted
wanted_by rows seats method base = record {
  seats = seats;
  profile = record {
    method = method;
    threshold = number_or_none (codes "threshold") whole_base rows;
    base = base;
    lot = lot_rule_given rows;
  };
  blank = number_or_none (codes "blank") most_votes rows;
  lot = first_of (codes "lot") rows;
  awards = is_set (codes "awards") rows;
  sep = sep_given rows;
}

abbrev pub allot_line : List Row → Option LineSeen
allot_line rows = do
  seats ← number_given (codes "seats") 1 most_seats rows
  method ← method_given rows
  base ← base_given rows
  Some (AllotSeen (wanted_by rows seats method base))

-- what is asked of a recount
abbrev pub recount_given : List Row → WantedRecount
recount_given rows = record {
  without = first_of (codes "without") rows;
  lot = first_of (codes "lot") rows;
  awards = is_set (codes "awards") rows;
  decisive = is_set (codes "decisive") rows;
  sep = sep_given rows;
}

abbrev pub recount_line : List Row → Option LineSeen
recount_line rows = do
  setup ← first_of (codes "setup") rows
  con ← first_of (codes "con") rows
  Some (RecountSeen setup con (recount_given rows))

abbrev pub new_line : List Row → Option LineSeen
new_line rows = do
  db ← first_of (codes "db") rows
  setup ← first_of (codes "setup") rows
  Some (NewSeen db setup)

abbrev pub import_line : List Row → Option LineSeen
import_line rows = do
  db ← first_of (codes "db") rows
  con ← first_of (codes "con") rows
  csv ← first_of (codes "csv") rows
  Some (ImportSeen db con csv (sep_given rows) (is_set (codes "rows") rows))

-- a report, of the constituency that is named, where the report needs one
abbrev pub show_seen : Text → Shown → Option Text → Option LineSeen
show_seen db name con =
    if needs_con name && not (is_some con) then None else Some (ShowSeen db name con)

abbrev pub show_line : List Row → Option LineSeen
show_line rows = do
  db ← first_of (codes "db") rows
  name ← report_of rows
  show_seen db name (first_of (codes "con") rows)

abbrev pub serve_line : List Row → Option LineSeen
serve_line rows = do
  db ← first_of (codes "db") rows
  port ← number_given (codes "port") 1 most_port rows
  count ← number_given (codes "count") 1 most_count rows
  Some (ServeSeen db port count)

-- the line that a subcommand and the matches of its arguments are
abbrev pub line_of_command : Text × List Row → Option LineSeen
line_of_command p =
    if bytes_eq p.0 (codes "check") then check_line p.1
    else if bytes_eq p.0 (codes "allot") then allot_line p.1
    else if bytes_eq p.0 (codes "recount") then recount_line p.1
    else if bytes_eq p.0 (codes "new") then new_line p.1
    else if bytes_eq p.0 (codes "import") then import_line p.1
    else if bytes_eq p.0 (codes "show") then show_line p.1
    else if bytes_eq p.0 (codes "serve") then serve_line p.1
    else None

-- nothing, where there is a fault
abbrev pub unless_fault : Kinds → Option LineSeen → Option LineSeen
unless_fault [] line = line
unless_fault (kind ∷ kinds) line = None

-- what the words, the program's name first, ask for: the line of the command that clap finds in
-- them, where it finds no fault
abbrev pub line_of : List Text → Option LineSeen
line_of words = unless_fault (fault_of office_app words)
    (option_and_then line_of_command (subcommand_of office_app words))

-- The numbers are within their limits, and there is a constituency where the report needs one.
abbrev pub IsLineWithinLimits : Line → Type 0
IsLineWithinLimits (line.Serve db port count) =
    (1 ≤ port) × (port ≤ most_port) × (1 ≤ count) × (count ≤ most_count)
IsLineWithinLimits (line.Show db name con) = needs_con name ≡ true → is_some con ≡ true
IsLineWithinLimits _ = Unit {0}

-- ---- refusals

-- a `show` of a report that does not exist
abbrev pub lacks_report : Text × List Row → Bool
lacks_report p = bytes_eq p.0 (codes "show") && not (is_some (report_of p.1))

-- an `allot` by a method or a base that does not exist
abbrev pub lacks_rule : Text × List Row → Bool
lacks_rule p =
    bytes_eq p.0 (codes "allot") && not (is_some (method_given p.1) && is_some (base_given p.1))

-- one of these
abbrev pub lacks_word : Text × List Row → Bool
lacks_word p = lacks_report p || lacks_rule p

-- a `show` of a report that needs a constituency, without one
abbrev pub lacks_con : Text × List Row → Bool
lacks_con p = bytes_eq p.0 (codes "show") && (option_map_or needs_con (report_of p.1) false
    && not (is_some (first_of (codes "con") p.1)))

-- the kinds of error that the words may be answered with: those of clap, and where it finds no
-- fault, that of a word that names no report, no method or no base
abbrev pub usage_kinds : List Text → Kinds
usage_kinds words = or_else (fault_of office_app words)
    (if option_map_or lacks_word (subcommand_of office_app words) false
    then InvalidValue ∷ []
    else [])

abbrev pub is_out_of_memory : ErrorKind → Bool
is_out_of_memory OutOfMemory = true
is_out_of_memory _ = false

-- the fault that an error of clap is
abbrev pub fault_from : Error → LineFault
fault_from e = if is_out_of_memory (kind_of e) then Memory else Usage e

-- The words have no line, though clap finds no fault in them: they are a `show` without the
-- constituency that its report needs.
abbrev pub LacksCon : List Text → Type 0
LacksCon words = (line_of words ≡ None) × (fault_of office_app words ≡ [])
    × (option_map_or lacks_con (subcommand_of office_app words) false ≡ true)

-- out of memory; or the words are refused, or answered with help, by this kind of error; or they
-- lack the constituency
abbrev pub IsRefusal : List Text → LineFault → Type 0
IsRefusal words (Usage e) = (line_of words ≡ None) × IsAmong (kind_of e) (usage_kinds words)
IsRefusal words NoCon = LacksCon words
IsRefusal words Memory = Unit {0}
