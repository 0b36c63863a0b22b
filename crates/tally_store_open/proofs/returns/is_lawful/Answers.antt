use Rattle.std.proofs.Common.{◌≡◌, ℕ, List, Some, subst, sym, ap, ◌∙◌}
use Rattle.std.specs.Prelude.{option_map}
use Rattle.tally_setup.specs.Constituency.{Constituency}
use Rattle.tally_setup.specs.Setup.{station_with}
use Rattle.tally_setup.specs.declared.constituency.Station.{Station}
use Rattle.tally_returns.specs.Decide.{limits_of}
use Rattle.tally_returns.specs.Lawful.{IsLawful}
use Rattle.tally_returns.specs.Return.{StationReturn}
use Rattle.tally_returns.specs.State.{stations_of}
use Rattle.tally_store_open.proofs.returns.is_lawful.Goals as goal

pub returns-in-Some-clause-lawful : goal.returns-in-Some-clause-lawful
returns-in-Some-clause-lawful c test =
    let setup = c.args.setup.now in
    let place : Constituency × Station = (c.in-Some.con.now, c.in-Some.station.now) in
    let code = ap (λ (e : List ℕ × StationReturn). e.0) c.entry.view_is in
    let standing = ap (λ (e : List ℕ × StationReturn). e.1) c.entry.view_is in
    let known : stations_of setup c.args.entry.now.0 ≡ Some (limits_of place.0 place.1) =
    ap (option_map (λ (p : Constituency × Station). limits_of p.0 p.1)) (ap (λ s. station_with s setup) (sym code) ∙ sym c.in-Some.ensures.found) in
    (limits_of place.0 place.1, known, subst (IsLawful (limits_of place.0 place.1)) standing (c.is_lawful.ensures.lawful test))
