use Rattle.std.proofs.Common.{◌≡◌, ◌<◌, length, refl, ap, below_more, arith}
use Rattle.std.proofs.lemmas.Bool.{false≢true}
use Rattle.tally_setup.specs.Constituency.{Constituency}
use Rattle.tally_report_allotment.proofs.FitsLemmas.{each-of-returns, returns-if-each}
use Rattle.tally_report_allotment.proofs.fits.are_returns_of.Goals as goal

pub returns-then-not-is_return_at : goal.returns-then-not-is_return_at
returns-then-not-is_return_at c =
    let con = c.args.con.now in
    let returns = c.args.returns.now in
    let place = c.loop-place.place in
    let inside : place < length con.stations = omega (arith, c.loop-place-test.true, c.if-returns-as_slice.false, ap length c.as_slice.ensures.value, ap (λ (k : Constituency). length k.stations) c.con.view_is) in
    (λ no. absurd (false≢true no), λ are. c.if-not-is_return_at.ensures.1 (each-of-returns con returns place inside are))

pub loop-place-preserved : goal.loop-place-preserved
loop-place-preserved c = below_more _ _ c.loop-place.invariant (c.if-not-is_return_at.ensures.0 refl)

pub returns : goal.returns
returns c =
    let con = c.args.con.now in
    let returns = c.args.returns.now in
    let same : length returns ≡ length con.stations = omega (arith, c.if-returns-as_slice.false, ap length c.as_slice.ensures.value, ap (λ (k : Constituency). length k.stations) c.con.view_is) in
    (λ _. returns-if-each con returns c.loop-place.place same (omega (arith, c.loop-place-test.false)) c.loop-place.invariant, λ _. refl)
