use Rattle.std.proofs.Common.{◌∙◌, ◌++◌, string_bytes, ap}
use Rattle.tally_setup.specs.Constituency.{Constituency}
use Rattle.tally_report_lines.specs.Columns.{list_lines}
use Rattle.tally_report.specs.SeatsText.{seats_line}
use Rattle.tally_report.proofs.LineLemmas.{line_more, lines_end}
use Rattle.tally_report.proofs.seats.push_lists.Goals as goal

pub loop-place-preserved : goal.loop-place-preserved
loop-place-preserved c =
    let con = c.args.con.now in
    let line = seats_line c.args.seats.now in
    line_more line con.lists c.deref-list-items.result.now c.loop-place.place c.list-item.result (string_bytes c.loop-place.text) (string_bytes c.push_list.new.text) (string_bytes c.args.text.now ++ list_lines line con)
    (c.deref-list-items.ensures.value ∙ ap (λ (k : Constituency). k.lists) c.con.view_is) c.loop-place-test.true c.list-item.is c.loop-place.invariant c.in_ok-push_list.ensures

pub returns : goal.returns
returns c =
    let con = c.args.con.now in
    let line = seats_line c.args.seats.now in
    lines_end line con.lists c.deref-list-items.result.now c.loop-place.place (string_bytes c.loop-place.text) (string_bytes c.args.text.now ++ list_lines line con)
    (c.deref-list-items.ensures.value ∙ ap (λ (k : Constituency). k.lists) c.con.view_is) c.loop-place-test.false c.loop-place.invariant
