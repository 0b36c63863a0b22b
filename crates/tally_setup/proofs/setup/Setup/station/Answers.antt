use Rattle.std.proofs.Common.{◌≡◌, ap, ◌∙◌, sym, option_copied, Some, None}
use Rattle.std.specs.List.{slice_get}
use Rattle.std.specs.Option.{option_and_then}
use Rattle.tally_setup.specs.Setup.{station_with}
use Rattle.tally_setup.specs.Constituency.{Constituency}
use Rattle.tally_setup.proofs.SetupLemmas.{station_with-place, slice_get-lookup, station_at_index}
use Rattle.tally_setup.proofs.setup.Setup.station.Goals as goal

pub returns-in_err-index_of-clause-found : goal.returns-in_err-index_of-clause-found
returns-in_err-index_of-clause-found c =
    let e = ap (station_with c.args.code) (sym c.self.view_is) ∙ station_with-place _ _ _ _ c.self.invariant c.args.code ∙ ap (option_and_then (station_at_index c.self.inside.cons.items c.self.inside.station_places.items)) (sym c.in_err-index_of.ensures.place) in
    rw (c.from_residual.ensures, e)

pub returns-in_err-place-clause-found : goal.returns-in_err-place-clause-found
returns-in_err-place-clause-found c =
    let e = ap (station_with c.args.code) (sym c.self.view_is) ∙ station_with-place _ _ _ _ c.self.invariant c.args.code ∙ ap (option_and_then (station_at_index c.self.inside.cons.items c.self.inside.station_places.items)) (sym c.in_ok-index_of.ensures.place) in
    let place : slice_get c.self.inside.station_places.items c.in_ok-index_of.field-0 ≡ None = ap (λ s. slice_get s c.in_ok-index_of.field-0) (sym c.deref.ensures.value) ∙ slice_get-lookup _ _ _ c.get.ensures.lookup ∙ ap option_copied c.in_err-place.was in
    rw (c.from_residual-in_err-place.ensures, e, place)

pub returns-in_err-con-clause-found : goal.returns-in_err-con-clause-found
returns-in_err-con-clause-found c =
    let e = ap (station_with c.args.code) (sym c.self.view_is) ∙ station_with-place _ _ _ _ c.self.invariant c.args.code ∙ ap (option_and_then (station_at_index c.self.inside.cons.items c.self.inside.station_places.items)) (sym c.in_ok-index_of.ensures.place) in
    let place : slice_get c.self.inside.station_places.items c.in_ok-index_of.field-0 ≡ Some c.in_ok-place.place.now = ap (λ s. slice_get s c.in_ok-index_of.field-0) (sym c.deref.ensures.value) ∙ slice_get-lookup _ _ _ c.get.ensures.lookup ∙ ap option_copied c.in_ok-place.was in
    let con : slice_get c.self.inside.cons.items c.in_ok-place.place.now.con ≡ None = ap (λ s. slice_get s c.in_ok-place.place.now.con) (sym c.deref-2.ensures.value) ∙ slice_get-lookup _ _ _ c.get-2.ensures.lookup ∙ ap option_copied c.in_err-con.was in
    rw (c.from_residual-in_err-con.ensures, e, place, con)

pub returns-in_err-get-clause-found : goal.returns-in_err-get-clause-found
returns-in_err-get-clause-found c =
    let e = ap (station_with c.args.code) (sym c.self.view_is) ∙ station_with-place _ _ _ _ c.self.invariant c.args.code ∙ ap (option_and_then (station_at_index c.self.inside.cons.items c.self.inside.station_places.items)) (sym c.in_ok-index_of.ensures.place) in
    let place : slice_get c.self.inside.station_places.items c.in_ok-index_of.field-0 ≡ Some c.in_ok-place.place.now = ap (λ s. slice_get s c.in_ok-index_of.field-0) (sym c.deref.ensures.value) ∙ slice_get-lookup _ _ _ c.get.ensures.lookup ∙ ap option_copied c.in_ok-place.was in
    let con : slice_get c.self.inside.cons.items c.in_ok-place.place.now.con ≡ Some c.in_ok-con.con.now = ap (λ s. slice_get s c.in_ok-place.place.now.con) (sym c.deref-2.ensures.value) ∙ slice_get-lookup _ _ _ c.get-2.ensures.lookup ∙ ap option_copied c.in_ok-con.was in
    let stations : c.in_ok-con.con.now.stations ≡ c.deref-3.result.now = ap (λ (v : Constituency). v.stations) (sym c.con.view_is) ∙ sym c.deref-3.ensures.value in
    let station : slice_get c.in_ok-con.con.now.stations c.in_ok-place.place.now.station ≡ None = ap (λ s. slice_get s c.in_ok-place.place.now.station) stations ∙ slice_get-lookup _ _ _ c.get-3.ensures.lookup ∙ ap option_copied c.in_err-get.was in
    rw (c.from_residual-in_err-get.ensures, e, place, con, station)

pub returns-clause-found : goal.returns-clause-found
returns-clause-found c =
    let e = ap (station_with c.args.code) (sym c.self.view_is) ∙ station_with-place _ _ _ _ c.self.invariant c.args.code ∙ ap (option_and_then (station_at_index c.self.inside.cons.items c.self.inside.station_places.items)) (sym c.in_ok-index_of.ensures.place) in
    let place : slice_get c.self.inside.station_places.items c.in_ok-index_of.field-0 ≡ Some c.in_ok-place.place.now = ap (λ s. slice_get s c.in_ok-index_of.field-0) (sym c.deref.ensures.value) ∙ slice_get-lookup _ _ _ c.get.ensures.lookup ∙ ap option_copied c.in_ok-place.was in
    let con : slice_get c.self.inside.cons.items c.in_ok-place.place.now.con ≡ Some c.in_ok-con.con.now = ap (λ s. slice_get s c.in_ok-place.place.now.con) (sym c.deref-2.ensures.value) ∙ slice_get-lookup _ _ _ c.get-2.ensures.lookup ∙ ap option_copied c.in_ok-con.was in
    let stations : c.in_ok-con.con.now.stations ≡ c.deref-3.result.now = ap (λ (v : Constituency). v.stations) (sym c.con.view_is) ∙ sym c.deref-3.ensures.value in
    let station : slice_get c.in_ok-con.con.now.stations c.in_ok-place.place.now.station ≡ Some c.in_ok-get.field-0.now = ap (λ s. slice_get s c.in_ok-place.place.now.station) stations ∙ slice_get-lookup _ _ _ c.get-3.ensures.lookup ∙ ap option_copied c.in_ok-get.was in
    rw (e, place, con, station)
