use Rattle.std.proofs.Common.{◌≡◌, ◌∙◌, OnOk, ap, subst}
use Rattle.tally_desk_routes.specs.Routes.{RouteRows, command_routes, con_routes, station_routes, with_routes}
use Rattle.tally_desk_routes.proofs.routes.add_desk_routes.Goals as goal

pub returns : goal.returns
returns c =
    let before : c.add_all-2.new.router ≡ with_routes (with_routes c.args.router.now station_routes) con_routes =
    c.in_ok-add_all-2.ensures ∙ ap (λ (rows : RouteRows). with_routes rows con_routes) c.in_ok-add_all.ensures in
    subst (λ (rows : RouteRows). OnOk c.add_all-3.result (c.add_all-3.new.router ≡ with_routes rows command_routes)) before c.add_all-3.ensures
