use Rattle.std.proofs.Common.{◌≡◌, List, ℕ, Some, refl, sym, ap, ◌∙◌}
use Rattle.matchit.specs.Seek.{first}
use Rattle.matchit.specs.Router.{RouteOf}
use Rattle.tally_desk_routes.specs.declared.routes.Route.{Route}
use Rattle.tally_desk_routes.specs.Routes.{RouteRows, desk_rows}
use Rattle.tally_desk_routes.proofs.routes.route_of.Goals as goal

pub returns-in-Ok-at : goal.returns-in-Ok-at
returns-in-Ok-at c =
    let params = c.in-Ok-at.found.params in
    let e : RouteOf Route = record { pattern = params.pattern.now; text = params.text.now; names = params.names.now; value = c.in-Ok-at.found.value.now } in
    let text = c.in-Ok.ensures.cases in
    let found : first desk_rows c.args.target.now ≡ Some e =
    ap (λ (t : List ℕ). first desk_rows t) (sym text.0) ∙ ap (λ (r : RouteRows). first r c.in-Ok.text.now) (sym c.requires) ∙ c.in-Ok-at.ensures.found in
    (Some e, (text.1, found), refl)
