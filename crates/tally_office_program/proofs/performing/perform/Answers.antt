use Rattle.std.proofs.Common.{◌≡◌, ℕ, List, Option, Some, IfErr, inl, map, option_map, rules, string_bytes, subst}
use Rattle.tally_office_line.specs.Line.{ImportSeen, ServeSeen, ShowSeen, line_of}
use Rattle.tally_office_commands.specs.Done.{IsImportedAt, IsShownAt}
use Rattle.tally_office_commands.specs.Failed.{IsImportFailure, IsShowFailure}
use Rattle.tally_office_trouble.specs.Troubles.{IsTroubleOfImport, IsTroubleOfShow}
use Rattle.tally_office_trouble.specs.Written.{IsWritten}
use Rattle.tally_office_commands.specs.Offices.{AtPath, AtPort, known}
use Rattle.tally_office_program.specs.Commands.{TakesCourse}
use Rattle.tally_office_program.proofs.LineLemmas.{commands, ends-command, refused, serves}
use Rattle.tally_office_program.proofs.performing.perform.Goals as goal

pub returns-in-Err : goal.returns-in-Err
returns-in-Err g c =
    refused (known g.O.Office.Keeper (g.O.Offices.Opens c.args.offices.now) (g.O.Offices.Finds c.args.offices.now) (g.O.Offices.Makes c.args.offices.now) (g.O.Offices.Closes c.args.offices.now) (g.O.NamedFiles.Gives c.args.offices.now)) g.R.Read.remaining g.W.Write.contents g.E.Write.contents (map string_bytes c.args.words.now) c.in-Err.fault
    c.args.input.now c.args.output.now c.args.errors.now c.report_fault.new.errors c.report_fault.result
    c.in-Err.ensures.fault c.report_fault.ensures.status c.report_fault.ensures.reported c.report_fault.ensures.no_con

pub returns-in-Ok-Serve : goal.returns-in-Ok-Serve
returns-in-Ok-Serve g c =
    let words = map string_bytes c.args.words.now in
    let is : line_of words ≡ Some (ServeSeen (string_bytes c.in-Ok-Serve.db) c.in-Ok-Serve.port c.in-Ok-Serve.count) = search rules in
    let takes = subst (λ (db : List ℕ). TakesCourse (g.O.Offices.Opens c.args.offices.now (AtPath db)) (g.O.Offices.Opens c.args.offices.now (AtPort c.in-Ok-Serve.port)) g.E.Write.contents c.in-Ok-Serve.port c.in-Ok-Serve.count
    c.args.errors.now c.serve_office-outcome.new.errors c.serve_office-outcome.result) c.deref-in-Ok-Serve.ensures c.serve_office-outcome.ensures.takes in
    serves (known g.O.Office.Keeper (g.O.Offices.Opens c.args.offices.now) (g.O.Offices.Finds c.args.offices.now) (g.O.Offices.Makes c.args.offices.now) (g.O.Offices.Closes c.args.offices.now) (g.O.NamedFiles.Gives c.args.offices.now)) g.R.Read.remaining g.W.Write.contents g.E.Write.contents words (string_bytes c.in-Ok-Serve.db) c.in-Ok-Serve.port c.in-Ok-Serve.count
    c.args.input.now c.args.output.now c.serve_office-outcome.new.output c.args.errors.now c.serve_office-outcome.new.errors c.report_command-in-Ok-Serve.new.errors
    c.serve_office-outcome.result c.report_command-in-Ok-Serve.result is
    c.serve_office-outcome.ensures.named c.serve_office-outcome.ensures.written takes
    c.report_command-in-Ok-Serve.ensures.reported c.report_command-in-Ok-Serve.ensures.status

pub returns-in-Ok-Import : goal.returns-in-Ok-Import
returns-in-Ok-Import g c =
    let k = (known g.O.Office.Keeper (g.O.Offices.Opens c.args.offices.now) (g.O.Offices.Finds c.args.offices.now) (g.O.Offices.Makes c.args.offices.now) (g.O.Offices.Closes c.args.offices.now) (g.O.NamedFiles.Gives c.args.offices.now)) in
    let words = map string_bytes c.args.words.now in
    let db = string_bytes c.in-Ok-Import.db in
    let con = string_bytes c.in-Ok-Import.con in
    let csv = string_bytes c.in-Ok-Import.csv in
    let sep = c.in-Ok-Import.sep in
    let rows = c.in-Ok-Import.rows in
    let written = c.import_at-outcome.new.output in
    let outcome = c.import_at-outcome.result in
    let is : line_of words ≡ Some (ImportSeen db con csv sep rows) = search rules in
    commands k g.R.Read.remaining g.W.Write.contents g.E.Write.contents words (ImportSeen db con csv sep rows) _ _ c.report_command-in-Ok-Import.result is
    (inl (ends-command g.W.Write.contents g.E.Write.contents (IsImportedAt k db con csv sep rows) IsTroubleOfImport (IsImportFailure k db con csv sep rows)
    c.args.input.now c.args.output.now written c.args.errors.now c.report_command-in-Ok-Import.new.errors outcome c.report_command-in-Ok-Import.result
    (subst (λ (d : List ℕ). IsWritten g.W.Write.contents (IsImportedAt k d con csv sep rows) c.args.output.now written outcome) c.deref-in-Ok-Import.ensures
    (subst (λ (n : List ℕ). IsWritten g.W.Write.contents (IsImportedAt k c.deref-in-Ok-Import.result.now n csv sep rows) c.args.output.now written outcome) c.deref-in-Ok-Import-2.ensures
    (subst (λ (f : List ℕ). IsWritten g.W.Write.contents (IsImportedAt k c.deref-in-Ok-Import.result.now c.deref-in-Ok-Import-2.result.now f sep rows) c.args.output.now written outcome) c.deref-in-Ok-Import-3.ensures
    c.import_at-outcome.ensures.written)))
    c.import_at-outcome.ensures.named
    (subst (λ (d : List ℕ). IfErr outcome (IsImportFailure k d con csv sep rows)) c.deref-in-Ok-Import.ensures
    (subst (λ (n : List ℕ). IfErr outcome (IsImportFailure k c.deref-in-Ok-Import.result.now n csv sep rows)) c.deref-in-Ok-Import-2.ensures
    (subst (λ (f : List ℕ). IfErr outcome (IsImportFailure k c.deref-in-Ok-Import.result.now c.deref-in-Ok-Import-2.result.now f sep rows)) c.deref-in-Ok-Import-3.ensures
    c.import_at-outcome.ensures.trouble)))
    c.report_command-in-Ok-Import.ensures.reported c.report_command-in-Ok-Import.ensures.status))

pub returns-in-Ok-Show : goal.returns-in-Ok-Show
returns-in-Ok-Show g c =
    let k = (known g.O.Office.Keeper (g.O.Offices.Opens c.args.offices.now) (g.O.Offices.Finds c.args.offices.now) (g.O.Offices.Makes c.args.offices.now) (g.O.Offices.Closes c.args.offices.now) (g.O.NamedFiles.Gives c.args.offices.now)) in
    let words = map string_bytes c.args.words.now in
    let db = string_bytes c.in-Ok-Show.db in
    let report = c.in-Ok-Show.report in
    let con = option_map string_bytes c.in-Ok-Show.con in
    let given = option_map (λ n. n.now) c.as_deref.result in
    let written = c.show_at-outcome.new.output in
    let outcome = c.show_at-outcome.result in
    let is : line_of words ≡ Some (ShowSeen db report con) = search rules in
    let same : given ≡ con = search rules in
    commands k g.R.Read.remaining g.W.Write.contents g.E.Write.contents words (ShowSeen db report con) _ _ c.report_command-in-Ok-Show.result is
    (inl (ends-command g.W.Write.contents g.E.Write.contents (IsShownAt k db report con) IsTroubleOfShow (IsShowFailure k db report con)
    c.args.input.now c.args.output.now written c.args.errors.now c.report_command-in-Ok-Show.new.errors outcome c.report_command-in-Ok-Show.result
    (subst (λ (d : List ℕ). IsWritten g.W.Write.contents (IsShownAt k d report con) c.args.output.now written outcome) c.deref-in-Ok-Show.ensures
    (subst (λ (n : Option (List ℕ)). IsWritten g.W.Write.contents (IsShownAt k c.deref-in-Ok-Show.result.now report n) c.args.output.now written outcome) same
    c.show_at-outcome.ensures.written))
    c.show_at-outcome.ensures.named
    (subst (λ (d : List ℕ). IfErr outcome (IsShowFailure k d report con)) c.deref-in-Ok-Show.ensures
    (subst (λ (n : Option (List ℕ)). IfErr outcome (IsShowFailure k c.deref-in-Ok-Show.result.now report n)) same
    c.show_at-outcome.ensures.trouble))
    c.report_command-in-Ok-Show.ensures.reported c.report_command-in-Ok-Show.ensures.status))
