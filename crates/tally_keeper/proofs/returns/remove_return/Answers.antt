use Rattle.std.proofs.Common.{◌≡◌, ◌∙◌, None, List, ℕ, false, sym, ap, subst}
use Rattle.std.specs.FinMap.{get, remove}
use Rattle.std.specs.Option.{ForSome}
use Rattle.tally_setup.specs.Constituency.{Constituency}
use Rattle.tally_setup.specs.Setup.{station_with}
use Rattle.tally_keeper.specs.internal.Rows.{IsTallied, cons_of, returns_of, seats_of, views_of, without_former}
use Rattle.tally_keeper.specs.internal.Sums.{CanCount}
use Rattle.tally_keeper.proofs.TallyLemmas.{former-can, former-cons, former-seats, no_station-none, removed-none, tallied-former}
use Rattle.tally_keeper.proofs.TreeLemmas.{get-tree, tree-remove}
use Rattle.tally_keeper.proofs.returns.remove_return.Goals as goal

pub count_former-requires : goal.count_former-requires
count_former-requires c =
    let former = c.remove-former.result in
    let code : c.con.inside.code ≡ c.in-Some.con.now.code = ap (λ (con : Constituency). con.code) c.con.view_is in
    subst (λ (q : List ℕ). ForSome former (λ standing. ForSome (get (views_of c.args.views.now) q) (λ view. CanCount view standing false))) (sym code)
    (former-can c.args.setup.now (returns_of c.args.returns.now) (views_of c.args.views.now) c.args.station c.in-Some.con.now c.in-Some.field-0-1.now c.station.ensures.limits c.requires.tallied
    (sym c.in-Some.ensures.found) former (c.remove-former.ensures.value ∙ sym (get-tree c.args.returns.now c.args.station)))

pub returns-in_default-clause-taken : goal.returns-in_default-clause-taken
returns-in_default-clause-taken c =
    let m = returns_of c.args.returns.now in
    let none : station_with c.args.station c.args.setup.now ≡ None = sym c.in_default.ensures.found in
    sym (removed-none m c.args.station (no_station-none c.args.setup.now m c.args.station c.requires.tallied.lawful none))

pub returns-clause-taken : goal.returns-clause-taken
returns-clause-taken c = tree-remove c.args.returns.now c.remove-former.new.self c.args.station c.remove-former.ensures.updates

pub returns-clause-tallied : goal.returns-clause-tallied
returns-clause-tallied c =
    let m = returns_of c.args.returns.now in
    let views = views_of c.args.views.now in
    let former = c.remove-former.result in
    let code : c.con.inside.code ≡ c.in-Some.con.now.code = ap (λ (con : Constituency). con.code) c.con.view_is in
    let returns : returns_of c.remove-former.new.self ≡ remove m c.args.station = tree-remove c.args.returns.now c.remove-former.new.self c.args.station c.remove-former.ensures.updates in
    let seen : views_of c.count_former.new.views ≡ without_former views c.in-Some.con.now.code former = c.count_former.ensures ∙ ap (λ q. without_former views q former) code in
    let tallied = tallied-former c.args.setup.now m views c.args.station c.in-Some.con.now c.in-Some.field-0-1.now c.station.ensures.limits c.requires.tallied
    (sym c.in-Some.ensures.found) former (c.remove-former.ensures.value ∙ sym (get-tree c.args.returns.now c.args.station)) in
    subst (λ v. IsTallied c.args.setup.now (returns_of c.remove-former.new.self) v) (sym seen)
    (subst (λ n. IsTallied c.args.setup.now n (without_former views c.in-Some.con.now.code former)) (sym returns) tallied)

pub returns-clause-cons : goal.returns-clause-cons
returns-clause-cons c = ap cons_of c.count_former.ensures ∙ former-cons (views_of c.args.views.now) c.con.inside.code c.remove-former.result

pub returns-clause-seats : goal.returns-clause-seats
returns-clause-seats c = ap seats_of c.count_former.ensures ∙ former-seats (views_of c.args.views.now) c.con.inside.code c.remove-former.result
