use Rattle.std.proofs.Common.{◌≤◌, ◌++◌, ◌∷◌, [], ◌∙◌, refl, sym, ap, subst}
use Rattle.std.proofs.lemmas.Result.{on_ok_weaker}
use Rattle.csv.specs.Records.{fields_of}
use Rattle.tally_import_check.specs.Check.{every_code}
use Rattle.tally_import.specs.Rows.{row_of}
use Rattle.tally_import_check.specs.internal.Progress.{HasTaken}
use Rattle.tally_import_check.proofs.import.Import.take_record.Goals as goal

pub row_of-requires : goal.row_of-requires
row_of-requires c = subst (λ n. n ≤ 60) (sym c.requires.so_far.1.lists) c.requires.so_far.1.few

pub returns : goal.returns
returns c = on_ok_weaker c.take.result (λ push taken h next.
    let is = c.in_ok-row.ensures.is (every_code c.args.self.now.lists) (λ code. refl) ∙ ap (λ n. row_of (every_code n) n (fields_of c.args.fields.now)) h.lists in
    subst (λ r. HasTaken (record taken { rows = taken.rows ++ r ∷ [] }) c.take.new.self) is (push taken h next)) c.take.ensures
