use Rattle.std.proofs.Common.{◌≡◌, ◌<◌, ◌∙◌, ◌++◌, None, false, length, get_or, string_bytes, ap, arith}
use Rattle.tally_setup.specs.Constituency.{Constituency}
use Rattle.tally_returns.specs.View.{View}
use Rattle.tally_report_lines.specs.Columns.{list_lines}
use Rattle.tally_report.specs.EligibleAt.{is_eligible_at}
use Rattle.tally_report.specs.ShortText.{short_columns, short_line}
use Rattle.tally_report.proofs.LineLemmas.{line_more, lines_end, not_shown, shown}
use Rattle.tally_report.proofs.TallyLemmas.{votes_at}
use Rattle.tally_report.proofs.short.push_lists.Goals.{then-marks-place+in_ok-push_list, else-marks-place}
use Rattle.tally_report.proofs.short.push_lists.Goals as goal

pub loop-place-preserved : goal.loop-place-preserved
loop-place-preserved c =
    let con = c.args.con.now in
    let view = c.args.view.now in
    let place = c.loop-place.place in
    let list = c.list-item.result in
    let line = short_line con view c.args.numbers.now in
    let lists = c.deref-list-items.ensures.value ∙ ap (λ (k : Constituency). k.lists) c.con.view_is in
    let seated : place < length view.seats = omega (arith, c.loop-place-test.true, ap length lists, c.requires.seats) in
    let mark = get_or c.args.marks.now place false in
    let marked = ap (λ ms. get_or ms place false) c.requires.marks in
    let cells = short_columns list (get_or view.seats place 0) (get_or c.args.numbers.now place None) in
    let before = string_bytes c.loop-place.text in
    let more : string_bytes c.if-marks-place.text ≡ before ++ line place list =
    elim c.if-marks-place.branch [
      | then-marks-place+in_ok-push_list w ↦ ap string_bytes w.text-is ∙ shown mark (is_eligible_at con view place) cells before (string_bytes w.push_list.new.text) marked w.if-marks-place.true
          (w.in_ok-push_list.ensures
          ∙ ap (λ s. before ++ short_columns list s w.votes_short_at.result) (votes_at view.seats c.view.inside.seats.items place w.index.result.now (ap (λ (v : View). v.seats) c.view.view_is) w.index.ensures seated)
          ∙ ap (λ n. before ++ short_columns list (get_or view.seats place 0) n) w.votes_short_at.ensures)
      | else-marks-place w ↦ ap string_bytes w.text-is ∙ not_shown mark (is_eligible_at con view place) cells before marked w.if-marks-place.false
    ] in
    line_more line con.lists c.deref-list-items.result.now place list before (string_bytes c.if-marks-place.text) (string_bytes c.args.text.now ++ list_lines line con)
    lists c.loop-place-test.true c.list-item.is c.loop-place.invariant more

pub returns : goal.returns
returns c =
    let con = c.args.con.now in
    let line = short_line con c.args.view.now c.args.numbers.now in
    lines_end line con.lists c.deref-list-items.result.now c.loop-place.place (string_bytes c.loop-place.text) (string_bytes c.args.text.now ++ list_lines line con)
    (c.deref-list-items.ensures.value ∙ ap (λ (k : Constituency). k.lists) c.con.view_is) c.loop-place-test.false c.loop-place.invariant
