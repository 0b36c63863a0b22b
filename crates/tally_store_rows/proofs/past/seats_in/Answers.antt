use Rattle.std.proofs.Common.{◌≡◌, ◌+◌, ℕ, Option, None, drop, ap, sym, ◌∙◌}
use Rattle.sqlite_value.specs.Order.{Row}
use Rattle.tally_store_rows.specs.Reading.{past_for}
use Rattle.tally_store_rows.proofs.ReadAllLemmas.{Reading, reading_more, reading_stops, reading_ends}
use Rattle.tally_store_rows.proofs.past.seats_in.Goals as goal

pub loop-row-preserved : goal.loop-row-preserved
loop-row-preserved c =
    let read : ℕ → Row → Option ℕ = λ place row. past_for c.args.con.now c.args.edition place row in
    let place = c.loop-row.place in
    let i = c.loop-row.row-index in
    let found = sym c.in-Some.is ∙ c.past_for.ensures in
    record {
      place = ap (λ n. n + 1) c.loop-row.invariant.place;
      reading = ap (λ xs. Reading read xs (place + 1) (drop (i + 1) c.args.rows.now)) c.in_ok-push-in-Some.ensures.items
          ∙ sym (reading_more read c.loop-row.seats.items place c.args.rows.now i c.row-item.result _ c.loop-row-test.true c.row-item.is found) ∙ c.loop-row.invariant.reading;
    }

pub returns-in-None : goal.returns-in-None
returns-in-None c =
    let read : ℕ → Row → Option ℕ = λ place row. past_for c.args.con.now c.args.edition place row in
    let found : None ≡ read c.loop-row.place c.row-item.result = sym c.in-None.is ∙ c.past_for.ensures in
    sym (reading_stops read c.loop-row.seats.items c.loop-row.place c.args.rows.now c.loop-row.row-index c.row-item.result c.loop-row-test.true c.row-item.is found) ∙ c.loop-row.invariant.reading

pub returns : goal.returns
returns c =
    let read : ℕ → Row → Option ℕ = λ place row. past_for c.args.con.now c.args.edition place row in
    sym (reading_ends read c.loop-row.seats.items c.loop-row.place c.args.rows.now c.loop-row.row-index c.loop-row-test.false) ∙ c.loop-row.invariant.reading
