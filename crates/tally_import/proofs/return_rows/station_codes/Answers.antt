use Rattle.std.proofs.Common.{◌∙◌, ap}
use Rattle.tally_import.proofs.ConstituencyLemmas.{station-moved}
use Rattle.tally_import.proofs.return_rows.station_codes.Goals as goal

pub loop-station-preserved : goal.loop-station-preserved
loop-station-preserved c =
    λ q. station-moved c.loop-station.codes c.insert.new.self c.args.stations.now c.loop-station.station-index _ c.station-item.result.code q
    c.loop-station-test.true (ap (λ s. s.code) c.station-item.is) c.in_ok-insert.ensures.updates
    ∙ c.loop-station.invariant q
