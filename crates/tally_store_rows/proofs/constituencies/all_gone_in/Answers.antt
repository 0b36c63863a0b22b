use Rattle.std.proofs.Common.{◌≡◌, ◌+◌, ℕ, Option, None, drop, ap, sym, ◌∙◌}
use Rattle.sqlite_value.specs.Order.{Row}
use Rattle.tally_returns.specs.GoneCandidate.{GoneCandidate}
use Rattle.tally_store_rows.specs.Reading.{gone_in_row}
use Rattle.tally_store_rows.proofs.ReadAllLemmas.{Reading, reading_more, reading_stops, reading_ends}
use Rattle.tally_store_rows.proofs.constituencies.all_gone_in.Goals as goal

pub loop-row-preserved : goal.loop-row-preserved
loop-row-preserved c =
    let read : ℕ → Row → Option GoneCandidate = λ place row. gone_in_row c.args.con.now row in
    let i = c.loop-row.row-index in
    let found = sym c.in-Some.is ∙ c.in_ok-gone.ensures in
    ap (λ xs. Reading read xs (i + 1 + 1) (drop (i + 1) c.args.rows.now)) c.in_ok-push-in-Some.ensures.items
    ∙ sym (reading_more read c.loop-row.all.items (i + 1) c.args.rows.now i c.row-item.result _ c.loop-row-test.true c.row-item.is found) ∙ c.loop-row.invariant

pub returns-in-None : goal.returns-in-None
returns-in-None c =
    let read : ℕ → Row → Option GoneCandidate = λ place row. gone_in_row c.args.con.now row in
    let i = c.loop-row.row-index in
    let found : None ≡ read (i + 1) c.row-item.result = sym c.in-None.is ∙ c.in_ok-gone.ensures in
    sym (reading_stops read c.loop-row.all.items (i + 1) c.args.rows.now i c.row-item.result c.loop-row-test.true c.row-item.is found) ∙ c.loop-row.invariant

pub returns : goal.returns
returns c =
    let read : ℕ → Row → Option GoneCandidate = λ place row. gone_in_row c.args.con.now row in
    let i = c.loop-row.row-index in
    sym (reading_ends read c.loop-row.all.items (i + 1) c.args.rows.now i c.loop-row-test.false) ∙ c.loop-row.invariant
