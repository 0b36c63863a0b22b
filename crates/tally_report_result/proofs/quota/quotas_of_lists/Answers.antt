use Rattle.std.proofs.Common.{◌∙◌, ap}
use Rattle.tally_setup.specs.Constituency.{Constituency}
use Rattle.tally_allot_award.specs.internal.KeptPoll.{kept_poll}
use Rattle.tally_report_result.specs.Values.{quota_value, list_values}
use Rattle.tally_report_result.specs.internal.Found.{data_of}
use Rattle.tally_report_result.proofs.ArrayLemmas.{values_end, values_more}
use Rattle.tally_report_result.proofs.quota.quotas_of_lists.Goals as goal

pub loop-place-preserved : goal.loop-place-preserved
loop-place-preserved c =
    let con = c.args.con.now in
    let values = quota_value (kept_poll c.args.contest.now.poll) c.args.contest.now.seats c.args.seats.now in
    values_more values con.lists c.deref-list-items.result.now c.loop-place.place c.list-item.result (data_of c.loop-place.values.items) (data_of c.push_list.new.values.items) (list_values values con)
    (c.deref-list-items.ensures.value ∙ ap (λ (k : Constituency). k.lists) c.con.view_is) c.loop-place-test.true c.list-item.is c.loop-place.invariant c.in_ok-push_list.ensures

pub returns : goal.returns
returns c =
    let con = c.args.con.now in
    let values = quota_value (kept_poll c.args.contest.now.poll) c.args.contest.now.seats c.args.seats.now in
    values_end values con.lists c.deref-list-items.result.now c.loop-place.place (data_of c.loop-place.values.items) (list_values values con)
    (c.deref-list-items.ensures.value ∙ ap (λ (k : Constituency). k.lists) c.con.view_is) c.loop-place-test.false c.loop-place.invariant
