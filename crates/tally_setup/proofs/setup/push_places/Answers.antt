use Rattle.std.proofs.Common.{◌∙◌, ◌++◌, ◌∷◌, [], ap, sym, add-one, append_assoc}
use Rattle.tally_setup.specs.internal.Index.{places_in}
use Rattle.tally_setup.specs.declared.setup.StationPlace.{StationPlace}
use Rattle.tally_setup.proofs.setup.push_places.Goals as goal

pub loop-station-preserved : goal.loop-station-preserved
loop-station-preserved c =
    let before = c.args.places.now.items in
    let con = c.args.con in
    let station = c.loop-station.station in
    let place : StationPlace = record { con = con; station = station } in
    c.in_ok-push.ensures.items ∙ ap (λ places. places ++ place ∷ []) c.loop-station.invariant
    ∙ append_assoc before (places_in con station) (place ∷ []) ∙ ap (λ n. before ++ places_in con n) (sym (add-one station))
