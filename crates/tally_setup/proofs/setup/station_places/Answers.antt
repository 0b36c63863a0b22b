use Rattle.std.proofs.Common.{◌≡◌, Some, length, add-one, ◌++◌, rules}
use Rattle.std.specs.List.{slice_get}
use Rattle.std.proofs.lemmas.Option.{slice_get_read}
use Rattle.tally_setup.specs.internal.Index.{places_in}
use Rattle.tally_setup.proofs.SetupLemmas.{places-more}
use Rattle.tally_setup.proofs.setup.station_places.Goals as goal

pub loop-con-preserved : goal.loop-con-preserved
loop-con-preserved c =
    let con = c.index-cons-con.result in
    let at : slice_get c.args.cons.now c.loop-con.con ≡ Some con = slice_get_read _ _ _ _ (λ i. length c.args.cons.now) c.loop-con-test.true c.index-cons-con.is in
    let stations : c.len.result ≡ length con.stations = search rules in
    let pushed : c.push_places.new.places.items ≡ c.loop-con.places.items ++ places_in c.loop-con.con (length con.stations) = rw stations at c.in_ok-push_places.ensures in
    rw (add-one, pushed) (places-more _ _ _ _ at c.loop-con.invariant)
