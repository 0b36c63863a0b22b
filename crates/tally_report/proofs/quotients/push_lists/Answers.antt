use Rattle.std.proofs.Common.{◌≡◌, ◌<◌, ◌∙◌, ◌++◌, false, length, get_or, string_bytes, ap, arith}
use Rattle.tally_setup.specs.Constituency.{Constituency, ListEntry}
use Rattle.tally_returns.specs.View.{View}
use Rattle.tally_report_lines.specs.Columns.{list_lines}
use Rattle.tally_report.specs.EligibleAt.{is_eligible_at}
use Rattle.tally_report.specs.QuotientsText.{quotients_line}
use Rattle.tally_report.proofs.LineLemmas.{line_more, lines_end, not_shown, shown}
use Rattle.tally_report.proofs.QuotientLemmas.{columns, columns_are}
use Rattle.tally_report.proofs.TallyLemmas.{few_at, votes_at}
use Rattle.tally_report.proofs.quotients.push_lists.Goals.{then-marks-place+in_ok-push_left+in_ok-push_quotients+in_ok-push_str, else-marks-place}
use Rattle.tally_report.proofs.quotients.push_lists.Goals as goal

pub push_quotients-requires : goal.push_quotients-requires
push_quotients-requires g c =
    let place = c.loop-place.place in
    let view = c.args.view.now in
    let lists = c.deref-list-items.ensures.value ∙ ap (λ (k : Constituency). k.lists) c.con.view_is in
    let inside : place < length view.votes = omega (arith, c.loop-place-test.true, ap length lists, c.requires.view.lists) in record {
      votes = few_at view.votes c.view.inside.votes.items view.blank place c.index.result.now (ap (λ (v : View). v.votes) c.view.view_is) c.index.ensures c.requires.view.votes inside;
      last = c.requires.last;
    }

pub loop-place-preserved : goal.loop-place-preserved
loop-place-preserved g c =
    let con = c.args.con.now in
    let view = c.args.view.now in
    let place = c.loop-place.place in
    let list = c.list-item.result in
    let nth = g.D.Divisors.divisor c.args.divisors.now in
    let unit = g.D.Divisors.unit_of c.args.divisors.now in
    let line = quotients_line nth unit c.args.last con view in
    let lists = c.deref-list-items.ensures.value ∙ ap (λ (k : Constituency). k.lists) c.con.view_is in
    let voted : place < length view.votes = omega (arith, c.loop-place-test.true, ap length lists, c.requires.view.lists) in
    let seated : place < length view.seats = omega (arith, c.loop-place-test.true, ap length lists, c.requires.seats) in
    let mark = get_or c.args.marks.now place false in
    let marked = ap (λ ms. get_or ms place false) c.requires.marks in
    let cells = columns nth unit c.args.last view place list in
    let before = string_bytes c.loop-place.text in
    let more : string_bytes c.if-marks-place.text ≡ before ++ line place list =
    elim c.if-marks-place.branch [
      | then-marks-place+in_ok-push_left+in_ok-push_quotients+in_ok-push_str w ↦ ap string_bytes w.text-is ∙ shown mark (is_eligible_at con view place) cells before (string_bytes w.push_str.new.self) marked w.if-marks-place.true
          (columns_are nth unit c.args.last view place list w.index.result.now w.index-then-marks-place.result.now w.as_str.result.now before (string_bytes w.push_left.new.text) (string_bytes w.push_quotients.new.text) (string_bytes w.push_str.new.self)
          (votes_at view.votes c.view.inside.votes.items place w.index.result.now (ap (λ (v : View). v.votes) c.view.view_is) w.index.ensures voted)
          (votes_at view.seats c.view.inside.seats.items place w.index-then-marks-place.result.now (ap (λ (v : View). v.seats) c.view.view_is) w.index-then-marks-place.ensures seated)
          (w.as_str.ensures.text ∙ ap (λ (l : ListEntry). l.code) c.list.view_is)
          w.in_ok-push_left.ensures w.in_ok-push_quotients.ensures w.in_ok-push_str.ensures.bytes)
      | else-marks-place w ↦ ap string_bytes w.text-is ∙ not_shown mark (is_eligible_at con view place) cells before marked w.if-marks-place.false
    ] in
    line_more line con.lists c.deref-list-items.result.now place list before (string_bytes c.if-marks-place.text) (string_bytes c.args.text.now ++ list_lines line con)
    lists c.loop-place-test.true c.list-item.is c.loop-place.invariant more

pub returns : goal.returns
returns g c =
    let line = quotients_line (g.D.Divisors.divisor c.args.divisors.now) (g.D.Divisors.unit_of c.args.divisors.now) c.args.last c.args.con.now c.args.view.now in
    lines_end line c.args.con.now.lists c.deref-list-items.result.now c.loop-place.place (string_bytes c.loop-place.text) (string_bytes c.args.text.now ++ list_lines line c.args.con.now)
    (c.deref-list-items.ensures.value ∙ ap (λ (k : Constituency). k.lists) c.con.view_is) c.loop-place-test.false c.loop-place.invariant
