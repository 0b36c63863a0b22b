use Rattle.std.proofs.Common.{string_bytes}
use Rattle.std.proofs.lemmas.Result.{IfErr-weaker, IfOk-weaker}
use Rattle.tally_returns_rows.specs.Source.{Delivery}
use Rattle.tally_import_records.specs.Watch.{NotesNothing}
use Rattle.tally_office_commands.proofs.ImportLemmas.{end-then, first-coming, read-ended, rows_at}
use Rattle.tally_office_commands.proofs.import.import_constituency.Goals as goal

pub returns-clause-imported : goal.returns-clause-imported
returns-clause-imported g c sure =
    let d : Delivery = record { start = rows_at c.new-rows.result; finish = rows_at c.import_from-outcome.new.rows } in
    IfOk-weaker c.import_from-outcome.result _ _ (λ text done. (d, first-coming c.args.con c.args.sep _ c.new-rows.result c.new-rows.ensures, done)) (c.import_from-outcome.ensures.imported sure)

pub returns-clause-trouble : goal.returns-clause-trouble
returns-clause-trouble g c sure =
    let d : Delivery = record { start = rows_at c.new-rows.result; finish = rows_at c.import_from-outcome.new.rows } in
    IfErr-weaker c.import_from-outcome.result _ _ (λ trouble done. (d, first-coming c.args.con c.args.sep _ c.new-rows.result c.new-rows.ensures, done)) (c.import_from-outcome.ensures.trouble sure)

pub returns-clause-read : goal.returns-clause-read
returns-clause-read g c sure is =
    let k = g.K.Keeper in
    let d : Delivery = record { start = rows_at c.new-rows.result; finish = rows_at c.import_from-outcome.new.rows } in
    c.add.ensures.failed (c.into_watch.ensures.read
    (read-ended (k.constituencies c.args.keeper.now) (k.content c.args.keeper.now) (k.content c.import_from-outcome.new.keeper) d c.import_from-outcome.result (c.import_from-outcome.ensures.trouble sure) is))

pub returns-clause-all_read : goal.returns-clause-all_read
returns-clause-all_read g c sure =
    let k = g.K.Keeper in
    let d : Delivery = record { start = rows_at c.new-rows.result; finish = rows_at c.import_from-outcome.new.rows } in
    end-then c.args.lines c.args.lists.now (k.constituencies c.args.keeper.now) (k.content c.args.keeper.now) (k.content c.import_from-outcome.new.keeper) d string_bytes
    (NotesNothing c.args.watch.now c.add.new.self) c.import_from-outcome.result (c.import_from-outcome.ensures.imported sure)
    (λ ended. c.add.ensures.kept (c.into_watch.ensures.all_read ended))
