use Rattle.std.proofs.Common.{◌∙◌}
use Rattle.csv.specs.Records.{fields_of}
use Rattle.tally_import_records.proofs.FieldLemmas.{field_at-within, same_some, none_some}
use Rattle.tally_import_records.proofs.fields.field.Goals as goal

pub unreachable-requires : goal.unreachable-requires
unreachable-requires c =
    absurd (none_some _ (c.in-None.ensures.value ∙ field_at-within (fields_of c.args.fields.now) c.args.place c.requires))

pub returns : goal.returns
returns c = same_some _ _ (c.in-Some.ensures.value ∙ field_at-within (fields_of c.args.fields.now) c.args.place c.requires)
