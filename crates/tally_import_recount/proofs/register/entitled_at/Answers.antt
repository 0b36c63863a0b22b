use Rattle.std.proofs.Common.{◌≡◌, ◌<◌, ◌+◌, ◌-◌, ◌∙◌, drop, get_or, length, sym, ap, arith}
use Rattle.tally_setup.specs.Constituency.{entitled}
use Rattle.tally_setup.specs.declared.constituency.Station.{Station}
use Rattle.tally_import_recount.proofs.TableLemmas.{entitled_from, numbers-put}
use Rattle.tally_import_recount.proofs.register.entitled_at.Goals as goal

pub loop-count-preserved : goal.loop-count-preserved
loop-count-preserved c q =
    let stations = c.args.stations.now in
    let x = c.index-stations-stations.result in
    let i = c.loop-count.count in
    let place = length stations - (i + 1) in
    let less : i < length stations = c.loop-count-test.true in
    let here : place + 1 ≡ length stations - i = omega (arith, less) in
    let is : x ≡ get_or stations place x = c.index-stations-stations.is ∙ ap (λ k. get_or stations k x) (omega arith) in
    numbers-put c.loop-count.table c.insert.new.self stations place x x.code c.entitled.result (omega (arith, less)) (ap (λ (s : Station). s.code) is)
    (c.entitled.ensures ∙ ap entitled is) c.in_ok-insert.ensures.updates
    (λ p. c.loop-count.invariant p ∙ ap (λ k. entitled_from (drop k stations) p) (sym here)) q
