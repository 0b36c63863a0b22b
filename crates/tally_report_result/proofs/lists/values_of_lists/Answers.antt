use Rattle.std.proofs.Common.{◌≡◌, ◌∙◌, Bool, false, get_or, ap}
use Rattle.tally_setup.specs.Constituency.{Constituency}
use Rattle.tally_report.specs.EligibleAt.{is_eligible_at}
use Rattle.tally_report_result.specs.Values.{each_list, list_object, list_values}
use Rattle.tally_report_result.specs.internal.Found.{data_of, parts_of}
use Rattle.tally_report_result.proofs.ArrayLemmas.{one_pushed, values_end, values_more}
use Rattle.tally_report_result.proofs.lists.values_of_lists.Goals as goal

pub loop-place-preserved : goal.loop-place-preserved
loop-place-preserved c =
    let con = c.args.con.now in
    let view = c.args.view.now in
    let parts = parts_of c.args.parts.now in
    let place = c.loop-place.place in
    let list = c.list-item.result in
    let mark : get_or c.args.marks.now place false ≡ is_eligible_at con view place = ap (λ ms. get_or ms place false) c.requires.marks in
    let pushed = one_pushed c.loop-place.values.items c.push.new.self.items c.in_ok-list_value.field-0 (list_object view parts (is_eligible_at con view place) place list) c.in_ok-push.ensures.items
    (c.in_ok-list_value.ensures ∙ ap (λ (b : Bool). list_object view parts b place list) mark) in
    let values = each_list con c.args.view.now (parts_of c.args.parts.now) in
    values_more values con.lists c.deref-list-items.result.now c.loop-place.place c.list-item.result (data_of c.loop-place.values.items) (data_of c.push.new.self.items) (list_values values con)
    (c.deref-list-items.ensures.value ∙ ap (λ (k : Constituency). k.lists) c.con.view_is) c.loop-place-test.true c.list-item.is c.loop-place.invariant pushed

pub returns : goal.returns
returns c =
    let con = c.args.con.now in
    let values = each_list con c.args.view.now (parts_of c.args.parts.now) in
    values_end values con.lists c.deref-list-items.result.now c.loop-place.place (data_of c.loop-place.values.items) (list_values values con)
    (c.deref-list-items.ensures.value ∙ ap (λ (k : Constituency). k.lists) c.con.view_is) c.loop-place-test.false c.loop-place.invariant
