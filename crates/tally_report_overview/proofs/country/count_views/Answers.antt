use Rattle.std.proofs.Common.{subst, arith}
use Rattle.std.proofs.lemmas.List.{take_all}
use Rattle.std.proofs.lemmas.Slice.Zip.{AllZip-long}
use Rattle.tally_returns.specs.View.{FitsView}
use Rattle.tally_report_overview.specs.internal.Totals.{IsCount}
use Rattle.tally_report_overview.proofs.TotalLemmas.{count-more, count-within, fits-at}
use Rattle.tally_report_overview.proofs.country.count_views.Goals as goal

pub bounds-views-place : goal.bounds-views-place
bounds-views-place c = omega (arith, c.loop-place-test.true, AllZip-long FitsView c.args.cons.now c.args.views.now c.requires.views)

pub with_view-counted-requires-clause-view : goal.with_view-counted-requires-clause-view
with_view-counted-requires-clause-view c =
    fits-at c.args.cons.now c.args.views.now c.loop-place.place c.index-cons-place.result c.index-views-place.result c.requires.views c.loop-place-test.true c.index-cons-place.is c.index-views-place.is

pub loop-place-preserved : goal.loop-place-preserved
loop-place-preserved c = record {
  is =
      count-more c.args.views.now c.loop-place.place c.index-views-place.result c.loop-place.counted c.with_view-counted.result
      (omega (arith, c.loop-place-test.true, AllZip-long FitsView c.args.cons.now c.args.views.now c.requires.views)) c.index-views-place.is c.loop-place.invariant.is c.with_view-counted.ensures.more;
  within = count-within c.loop-place.place c.loop-place.counted c.with_view-counted.result c.loop-place.invariant.within c.with_view-counted.ensures.within;
}

pub returns : goal.returns
returns c =
    subst (λ views. IsCount views c.loop-place.counted)
    (take_all c.loop-place.place c.args.views.now (omega (arith, c.loop-place-test.false, AllZip-long FitsView c.args.cons.now c.args.views.now c.requires.views)))
    c.loop-place.invariant.is
