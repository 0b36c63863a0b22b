use Rattle.std.proofs.Common.{◌<◌, length, arith}
use Rattle.std.proofs.lemmas.Slice.Zip.{AllZip-long}
use Rattle.tally_machine_law.specs.Outcome.{IsLawfulView}
use Rattle.tally_returns.specs.View.{FitsView}
use Rattle.tally_report_result.specs.internal.Found.{data_of}
use Rattle.tally_report_result.proofs.ResultLemmas.{all-done, one-result-more, zipped-at}
use Rattle.tally_report_result.proofs.result.result_values.Goals as goal

pub bounds-views-place : goal.bounds-views-place
bounds-views-place c = omega (arith, c.loop-place-test.true, AllZip-long FitsView c.args.cons.now c.args.views.now c.requires)

pub result_value-requires : goal.result_value-requires
result_value-requires c =
    zipped-at FitsView c.args.cons.now c.args.views.now c.loop-place.place c.index-cons-place.result c.index-views-place.result c.requires c.loop-place-test.true c.index-cons-place.is c.index-views-place.is

pub loop-place-preserved : goal.loop-place-preserved
loop-place-preserved c lawful =
    let cons = c.args.cons.now in
    let views = c.args.views.now in
    let place = c.loop-place.place in
    let within : place < length views = omega (arith, c.loop-place-test.true, AllZip-long FitsView cons views c.requires) in
    let here = zipped-at IsLawfulView cons views place c.index-cons-place.result c.index-views-place.result lawful c.loop-place-test.true c.index-cons-place.is c.index-views-place.is in
    one-result-more cons views place c.loop-place.values.items c.push.new.list.items c.in_ok-result_value.field-0 c.index-cons-place.result c.index-views-place.result
    c.loop-place-test.true within c.index-cons-place.is c.index-views-place.is c.in_ok-push.ensures.ok (c.loop-place.invariant lawful) (c.in_ok-result_value.ensures.value here)

pub returns-clause-values : goal.returns-clause-values
returns-clause-values c lawful =
    let cons = c.args.cons.now in
    let views = c.args.views.now in
    all-done cons views c.loop-place.place (data_of c.loop-place.values.items) c.loop-place-test.false (omega (arith, c.loop-place-test.false, AllZip-long FitsView cons views c.requires)) (c.loop-place.invariant lawful)
