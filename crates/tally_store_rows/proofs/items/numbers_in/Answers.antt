use Rattle.std.proofs.Common.{◌≡◌, ◌+◌, ℕ, Option, None, drop, ap, sym, ◌∙◌}
use Rattle.sqlite_value.specs.Order.{Row}
use Rattle.tally_store_schema.specs.Values.{number_of}
use Rattle.tally_store_rows.specs.Reading.{item_for}
use Rattle.tally_store_rows.proofs.ReadAllLemmas.{Reading, reading_more, reading_stops, reading_ends}
use Rattle.tally_store_rows.proofs.items.numbers_in.Goals as goal

pub loop-row-preserved : goal.loop-row-preserved
loop-row-preserved c =
    let read : ℕ → Row → Option ℕ = λ item row. item_for number_of row c.args.key.now item in
    let item = c.loop-row.item in
    let i = c.loop-row.row-index in
    let found = sym c.in-Some.is ∙ c.number_for.ensures in
    record {
      item = ap (λ n. n + 1) c.loop-row.invariant.item;
      reading = ap (λ xs. Reading read xs (item + 1) (drop (i + 1) c.args.rows.now)) c.in_ok-push-in-Some.ensures.items
          ∙ sym (reading_more read c.loop-row.numbers.items item c.args.rows.now i c.row-item.result _ c.loop-row-test.true c.row-item.is found) ∙ c.loop-row.invariant.reading;
    }

pub returns-in-None : goal.returns-in-None
returns-in-None c =
    let read : ℕ → Row → Option ℕ = λ item row. item_for number_of row c.args.key.now item in
    let found : None ≡ read c.loop-row.item c.row-item.result = sym c.in-None.is ∙ c.number_for.ensures in
    sym (reading_stops read c.loop-row.numbers.items c.loop-row.item c.args.rows.now c.loop-row.row-index c.row-item.result c.loop-row-test.true c.row-item.is found) ∙ c.loop-row.invariant.reading

pub returns : goal.returns
returns c =
    let read : ℕ → Row → Option ℕ = λ item row. item_for number_of row c.args.key.now item in
    sym (reading_ends read c.loop-row.numbers.items c.loop-row.item c.args.rows.now c.loop-row.row-index c.loop-row-test.false) ∙ c.loop-row.invariant.reading
