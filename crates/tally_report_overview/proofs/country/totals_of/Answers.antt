use Rattle.std.proofs.Common.{arith}
use Rattle.std.proofs.lemmas.Slice.Zip.{AllZip-long}
use Rattle.tally_returns.specs.View.{FitsView}
use Rattle.tally_report_overview.proofs.TotalLemmas.{con-more, fits-at, over-at, over-none, totals-from, within-first}
use Rattle.tally_report_overview.proofs.country.totals_of.Goals as goal

pub bounds-views-place : goal.bounds-views-place
bounds-views-place c = omega (arith, c.loop-place-test.true, AllZip-long FitsView c.args.cons.now c.args.views.now c.requires.views)

pub add_constituency-requires-clause-view : goal.add_constituency-requires-clause-view
add_constituency-requires-clause-view c =
    fits-at c.args.cons.now c.args.views.now c.loop-place.place c.index-cons-place.result c.index-views-place.result c.requires.views c.loop-place-test.true c.index-cons-place.is c.index-views-place.is

pub loop-place-init : goal.loop-place-init
loop-place-init c = record {
  rest = totals-from c.new-totals.result c.new-totals.ensures.empty c.args.cons.now c.args.views.now;
  within = within-first c.new-totals.result c.new-totals.ensures.empty 0;
}

pub loop-place-preserved : goal.loop-place-preserved
loop-place-preserved c =
    let i = c.loop-place.place in record {
      rest = λ new rest.
          c.loop-place.invariant.rest new
          (over-at c.args.cons.now c.args.views.now i c.index-cons-place.result c.index-views-place.result c.loop-place.totals c.add_constituency.new.totals new
          c.loop-place-test.true (omega (arith, c.loop-place-test.true, AllZip-long FitsView c.args.cons.now c.args.views.now c.requires.views))
          c.index-cons-place.is c.index-views-place.is c.in_ok-add_constituency.ensures.added rest);
      within = con-more i c.loop-place.totals c.add_constituency.new.totals c.loop-place.invariant.within c.in_ok-add_constituency.ensures.within;
    }

pub returns : goal.returns
returns c = c.loop-place.invariant.rest c.loop-place.totals (over-none c.args.cons.now c.args.views.now c.loop-place.place c.loop-place.totals c.loop-place-test.false)
