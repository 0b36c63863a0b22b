use Rattle.std.proofs.Common.{◌≡◌, ◌∙◌, sym, ap, subst, map, string_bytes, [], true, List}
use Rattle.clap.specs.Words.{App, HasKind, HasMatchesOf, Text, app_of, fault_of, found_of, rows_of, is_simple, is_simple_and_free, subcommand_of}
use Rattle.clap.specs.declared.parser.matches.ArgMatches.{ArgMatches}
use Rattle.tally_office_line.specs.Line.{IsRefusal, fault_from, office_app}
use Rattle.tally_office_line.proofs.CommandLemmas.{HasCommand, asked_by, fault_read, has_command, limits_read, line_read, office_is_free, office_is_simple, refused_line, refuses}
use Rattle.tally_office_line.proofs.line.read_line.Goals as goal

is_free : (a : App) → a ≡ office_app → is_simple_and_free a ≡ true
is_free a app = ap is_simple_and_free app ∙ office_is_free

-- what the clauses of a parse that succeeds come to
parsed : (a : App) (words : List Text) (m : ArgMatches) → a ≡ office_app → (is_simple_and_free a ≡ true → fault_of a words ≡ []) → HasMatchesOf a words m → HasCommand words m
parsed a words m app kinds matches =
    has_command words m (sym (ap (λ (b : App). fault_of b words) app) ∙ kinds (is_free a app))
    ((matches (ap is_simple app ∙ office_is_simple)).1 ∙ ap (λ (b : App). subcommand_of b words) app)

pub returns-in_err-matches-clause-fault : goal.returns-in_err-matches-clause-fault
returns-in_err-matches-clause-fault c =
    let app : app_of c.in_ok-office_command.field-0 ≡ office_app = c.in_ok-office_command.ensures in
    let error = c.in_err-matches.field-0.0 in
    let words = map string_bytes c.args.words.now in
    let kinds = subst (λ (a : App). HasKind (fault_of a words) error) app (c.in_err-matches.ensures.kinds (is_free _ app)) in
    refused_line (IsRefusal words) (fault_from error) _ c.from_residual-in_err-matches.ensures.1 (refuses words error kinds)

pub read_command-requires : goal.read_command-requires
read_command-requires c =
    let words = map string_bytes c.args.words.now in
    let has = parsed _ words c.in_ok-matches.matches c.in_ok-office_command.ensures c.in_ok-matches.ensures.kinds c.in_ok-matches.ensures.matches in
    (asked_by words c.in_ok-matches.matches has _ _ c.in-Some.ensures.name c.in-Some.ensures.rows).arguments

pub returns-clause-line : goal.returns-clause-line
returns-clause-line c =
    let words = map string_bytes c.args.words.now in
    let has = parsed _ words c.in_ok-matches.matches c.in_ok-office_command.ensures c.in_ok-matches.ensures.kinds c.in_ok-matches.ensures.matches in
    let asked = asked_by words c.in_ok-matches.matches has _ _ c.in-Some.ensures.name c.in-Some.ensures.rows in
    line_read words c.in-Some.name.now (rows_of (found_of c.in-Some.arguments.now)) c.read_command.result asked c.read_command.ensures.line

pub returns-clause-limits : goal.returns-clause-limits
returns-clause-limits c =
    limits_read c.in-Some.name.now (rows_of (found_of c.in-Some.arguments.now)) c.read_command.result c.read_command.ensures.line

pub returns-clause-fault : goal.returns-clause-fault
returns-clause-fault c =
    let words = map string_bytes c.args.words.now in
    let has = parsed _ words c.in_ok-matches.matches c.in_ok-office_command.ensures c.in_ok-matches.ensures.kinds c.in_ok-matches.ensures.matches in
    let asked = asked_by words c.in_ok-matches.matches has _ _ c.in-Some.ensures.name c.in-Some.ensures.rows in
    fault_read words c.in-Some.name.now (rows_of (found_of c.in-Some.arguments.now)) c.read_command.result asked c.read_command.ensures.fault
