use Rattle.std.proofs.Common.{◌≡◌, ◌<◌, ◌∷◌, length, arith}
use Rattle.std.proofs.Math.Nat.{ne_of_lt}
use Rattle.csv.specs.Records.{fields_of}
use Rattle.tally_frac.specs.Limits.{most_lists}
use Rattle.tally_import_records.specs.internal.TextRecords.{text_records_left}
use Rattle.tally_import_votes.specs.Votes.{row_of}
use Rattle.tally_import_votes.specs.internal.Reading.{votes_in}
use Rattle.tally_import_votes.proofs.RowsLemmas.{longer, rows-next}
use Rattle.tally_import_votes.proofs.votes.rows_of.Goals as goal

pub loop-votes-preserved : goal.loop-votes-preserved
loop-votes-preserved c =
    let v = votes_in c.loop-votes.votes in
    let w = votes_in c.take_row.new.votes in
    let fields = fields_of c.next.new.into in
    let left : text_records_left c.loop-votes.records ≡ fields ∷ text_records_left c.next.new.self = rw c.if-not-branch.false at c.in_ok-next.ensures.record in
    let few = c.in_ok-take_row.ensures.few in
    let grown = longer v w (row_of v.lists fields) c.in_ok-take_row.ensures.taken in
    let room : length v.lists < most_lists = omega (arith, few, grown.0) in
    record {
      reading = c.in_ok-next.ensures.reading c.if-not-branch.false;
      few = few;
      read = rows-next v w (text_records_left c.loop-votes.records) (text_records_left c.next.new.self) fields c.args.stop _ c.loop-votes.invariant.read left (ne_of_lt room) c.in_ok-take_row.ensures.taken;
    }
