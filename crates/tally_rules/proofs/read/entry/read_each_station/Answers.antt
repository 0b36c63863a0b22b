use Rattle.std.proofs.Common.{◌≡◌, ◌++◌, ◌∷◌, [], Ok, ap, ◌∙◌, sym, append_assoc}
use Rattle.toml.specs.View.{view}
use Rattle.std.proofs.lemmas.List.{map-append}
use Rattle.std.proofs.lemmas.List.Elements.{All-push}
use Rattle.std.proofs.lemmas.Result.{err_from_is_err_and}
use Rattle.tally_setup.specs.Limits.{IsStation}
use Rattle.tally_setup.specs.Constituency.{station_codes}
use Rattle.tally_rules.specs.Reading.{read_each_station, station_entry}
use Rattle.tally_setup.specs.Setup.{all_station_codes}
use Rattle.tally_setup.specs.declared.constituency.Station.{Station}
use Rattle.tally_rules.proofs.ReadLemmas.{read-more, array-fault, array-end, IsFoundAt-same}
use Rattle.tally_rules.proofs.read.entry.read_each_station.Goals as goal

pub returns-in_err-station-clause-fault : goal.returns-in_err-station-clause-fault
unfolding read_each_station
returns-in_err-station-clause-fault c =
    let p = err_from_is_err_and c.from_residual-in_err-station.result c.from_residual-in_err-station.ensures.1 in
    let before = ap (λ stations. station_entry c.args.before.now c.args.con.now stations (view c.station-item.result)) (sym c.deref.ensures.value) in
    let found = IsFoundAt-same _ _ _ _ before c.in_err-station.ensures.fault in
    rw (p.1, p.2) (array-fault (station_entry c.args.before.now c.args.con.now) _ _ _ _ _ _ _ (rw c.constituency_way-here.ensures at c.in_ok-entries.ensures.array) c.loop-station.invariant.0 c.loop-station-test.true c.station-item.is found)

pub loop-station-preserved : goal.loop-station-preserved
loop-station-preserved c =
    let station = c.in_ok-station.station in
    let taken = all_station_codes c.args.before.now in
    let one : station_entry c.args.before.now c.args.con.now c.loop-station.stations.items (view c.station-item.result) ≡ Ok station = ap (λ stations. station_entry c.args.before.now c.args.con.now stations (view c.station-item.result)) (sym c.deref.ensures.value) ∙ c.in_ok-station.ensures.station in
    let codes : c.station_entry.new.taken ≡ taken ++ station_codes (c.loop-station.stations.items ++ station ∷ []) =
    c.in_ok-station.ensures.taken
    ∙ ap (λ t. t ++ station.code ∷ []) c.loop-station.invariant.1
    ∙ append_assoc taken (station_codes c.loop-station.stations.items) (station.code ∷ [])
    ∙ ap (λ t. taken ++ t) (sym (map-append (λ (s : Station). s.code) c.loop-station.stations.items (station ∷ []))) in
    rw c.push_reserved.ensures.items (
      read-more (station_entry c.args.before.now c.args.con.now) _ _ _ _ _ c.loop-station.invariant.0 c.loop-station-test.true c.station-item.is one,
      codes,
      c.in_ok-station.ensures.distinct,
      All-push IsStation _ _ c.loop-station.invariant.3 c.in_ok-station.ensures.limits,
      rw c.push_reserved.ensures.capacity c.loop-station.invariant.4,
    )

pub returns-clause-stations : goal.returns-clause-stations
unfolding read_each_station
returns-clause-stations c = array-end (station_entry c.args.before.now c.args.con.now) _ _ _ _ (rw c.constituency_way-here.ensures at c.in_ok-entries.ensures.array) c.loop-station.invariant.0 c.loop-station-test.false
