use Rattle.std.proofs.Common.{◌≡◌, ◌<◌, ◌∙◌, ◌++◌, false, length, get_or, string_bytes, ap, arith}
use Rattle.tally_setup.specs.Constituency.{Constituency}
use Rattle.tally_setup.specs.Threshold.{base_of}
use Rattle.tally_returns.specs.View.{View}
use Rattle.tally_report_lines.specs.Columns.{list_lines}
use Rattle.tally_report.specs.TallyText.{tally_line}
use Rattle.tally_report.proofs.LineLemmas.{line_more, lines_end}
use Rattle.tally_report.proofs.TallyLemmas.{few_at, line_is, votes_at}
use Rattle.tally_report.proofs.tally.push_lists.Goals as goal

pub push_list-requires : goal.push_list-requires
push_list-requires c =
    let place = c.loop-place.place in
    let view = c.args.view.now in
    let same = ap (λ (v : View). v.votes) c.view.view_is in
    let lists = c.deref-list-items.ensures.value ∙ ap (λ (k : Constituency). k.lists) c.con.view_is in
    let inside : place < length view.votes = omega (arith, c.loop-place-test.true, ap length lists, c.requires.view.lists) in
    few_at view.votes c.view.inside.votes.items view.blank place c.index.result.now same c.index.ensures c.requires.view.votes inside

pub loop-place-preserved : goal.loop-place-preserved
loop-place-preserved c =
    let con = c.args.con.now in
    let view = c.args.view.now in
    let place = c.loop-place.place in
    let same = ap (λ (v : View). v.votes) c.view.view_is in
    let lists = c.deref-list-items.ensures.value ∙ ap (λ (k : Constituency). k.lists) c.con.view_is in
    let inside : place < length view.votes = omega (arith, c.loop-place-test.true, ap length lists, c.requires.view.lists) in
    let votes = votes_at view.votes c.view.inside.votes.items place c.index.result.now same c.index.ensures inside in
    let base : c.base_of-base.result ≡ base_of con.profile.base view.votes view.blank =
    c.base_of-base.ensures.value
    ∙ ap (λ (k : Constituency). base_of k.profile.base c.deref.result.now c.view.inside.blank) c.con.view_is
    ∙ ap (λ vs. base_of con.profile.base vs c.view.inside.blank) (c.deref.ensures.value ∙ same)
    ∙ ap (λ (v : View). base_of con.profile.base view.votes v.blank) c.view.view_is in
    let mark = ap (λ ms. get_or ms place false) c.requires.marks in
    let before = string_bytes c.loop-place.text in
    let after = string_bytes c.push_list.new.text in
    line_more (tally_line con view) con.lists c.deref-list-items.result.now place c.list-item.result before after (string_bytes c.args.text.now ++ list_lines (tally_line con view) con)
    lists c.loop-place-test.true c.list-item.is c.loop-place.invariant
    (line_is con view place c.list-item.result c.index.result.now c.base_of-base.result (get_or c.args.marks.now place false) before after votes base mark c.in_ok-push_list.ensures)

pub returns : goal.returns
returns c =
    let line = tally_line c.args.con.now c.args.view.now in
    lines_end line c.args.con.now.lists c.deref-list-items.result.now c.loop-place.place (string_bytes c.loop-place.text) (string_bytes c.args.text.now ++ list_lines line c.args.con.now)
    (c.deref-list-items.ensures.value ∙ ap (λ (k : Constituency). k.lists) c.con.view_is) c.loop-place-test.false c.loop-place.invariant
