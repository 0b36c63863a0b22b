use Rattle.std.proofs.Common.{◌∙◌, arith, ap, rules, sym}
use Rattle.std.specs.Prelude.{option_map}
use Rattle.tally_store_rows.specs.Views.{standing_value}
use Rattle.tally_store_entries.proofs.StageLemmas.{says-so}
use Rattle.tally_store_entries.proofs.views.stage_among.Goals as goal

pub returns-in-Some : goal.returns-in-Some
returns-in-Some c =
    let standing = c.in-Some.standing in
    says-so c.args.con.now c.as_bytes.result.now c.args.rows.now c.partition_point-place.result c.index-rows-place.result standing.edition standing.certified standing.note.now (omega (arith, c.if-place-rows.true)) c.index-rows-place.is (search rules)
    (sym c.standing_in.ensures ∙ ap (option_map standing_value) c.in-Some.is)
