use Rattle.std.proofs.Common.{◌∷◌, ◌∙◌, [], Ok, length, subst, sym}
use Rattle.tally_import_check.specs.Check.{rows_of_records}
use Rattle.tally_import_records.specs.Given.{sep_of}
use Rattle.tally_import_check.specs.internal.Progress.{HasTaken}
use Rattle.tally_import_check.specs.internal.Rounds.{AreRecordsAfter, ImportsRecords}
use Rattle.tally_import_check.proofs.FoundLemmas.{Found-rows, Found-text}
use Rattle.tally_import_records.proofs.WorkLemmas.{IfOk-then}
use Rattle.tally_import_check.proofs.check.text_under_header.Goals as goal

pub check_rows-requires-clause-none : goal.check_rows-requires-clause-none
check_rows-requires-clause-none g c =
    subst (λ n. HasTaken (record { lists = n; rows = [] }) c.in_ok-import.import) (sym c.in_ok-import.ensures.lists) c.in_ok-import.ensures

pub import_text-requires : goal.import_text-requires
import_text-requires g c =
    let taken = c.in-Ok.ensures.imports.2 in
    record {
      lists = taken.lists ∙ c.in_ok-import.ensures.lists;
      totals = taken.totals.count ∙ c.in_ok-import.ensures.lists;
    }

pub returns-in-Ok-clause-finds : goal.returns-in-Ok-clause-finds
returns-in-Ok-clause-finds g c header named text given =
    let left = g.R.Read.remaining c.check_rows.new.reader in
    let lists = c.args.lists.now in
    let AreRows = AreRecordsAfter (g.R.Read.remaining c.args.reader.now) left c.args.records.now in
    let imported : ImportsRecords (length lists) AreRows c.check_rows.new.import (Ok tt) =
    subst (λ n. ImportsRecords n AreRows c.check_rows.new.import (Ok tt)) c.in_ok-import.ensures.lists c.in-Ok.ensures.imports in
    let rows = imported.0 in
    let shown = IfOk-then c.import_text.result c.import_text.ensures.text (λ s shows.
    shows (record { lists = length lists; rows = rows_of_records (length lists) rows }) imported.2) in
    Found-text c.args.lines (sep_of c.args.records.now) text left header lists rows c.import_text.result named
    (imported.1 text (header ∷ []) given) imported.3 shown c.import_text.ensures.fault

pub returns-clause-finds : goal.returns-clause-finds
returns-clause-finds g c header named text given =
    let left = g.R.Read.remaining c.check_rows.new.reader in
    Found-rows (sep_of c.args.records.now) text left header c.args.lists.now c.in_ok-import.import.lists c.in-Err.fault
    (AreRecordsAfter (g.R.Read.remaining c.args.reader.now) left c.args.records.now) c.check_rows.new.import named
    (λ rows stop are. are text (header ∷ []) given)
    c.in-Err.ensures.imports
