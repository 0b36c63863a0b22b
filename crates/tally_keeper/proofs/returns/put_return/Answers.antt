use Rattle.std.proofs.Common.{◌≡◌, ◌∙◌, Some, List, ℕ, false, true, sym, ap, subst}
use Rattle.std.specs.FinMap.{get, insert}
use Rattle.std.specs.Option.{ForSome}
use Rattle.tally_setup.specs.Constituency.{Constituency}
use Rattle.tally_setup.specs.Setup.{station_with}
use Rattle.tally_returns.specs.Decide.{limits_of}
use Rattle.tally_returns.specs.Lawful.{IsLawful}
use Rattle.tally_returns.specs.Lodge.{StationLimits}
use Rattle.tally_returns.specs.Return.{StationReturn}
use Rattle.tally_returns.specs.State.{stations_of}
use Rattle.tally_returns.specs.View.{View}
use Rattle.tally_keeper.specs.internal.Rows.{IsTallied, cons_of, returns_of, seats_of, views_of, with_view, without_former}
use Rattle.tally_keeper.specs.internal.Sums.{CanCount, with_return_counted}
use Rattle.tally_keeper.proofs.TallyLemmas.{counted-con, counted-seats, former-can, former-cons, former-seats, limits-at, put-can, tallied-former, tallied-put}
use Rattle.tally_keeper.proofs.TreeLemmas.{cons_of-kept, get-tree, seats_of-kept, tree-insert}
use Rattle.tally_keeper.proofs.returns.put_return.Goals as goal

pub count_former-requires : goal.count_former-requires
count_former-requires c =
    let former = c.in_ok-former.former in
    let code : c.con.inside.code ≡ c.in-Some.con.now.code = ap (λ (con : Constituency). con.code) c.con.view_is in
    subst (λ (q : List ℕ). ForSome former (λ standing. ForSome (get (views_of c.args.views.now) q) (λ view. CanCount view standing false))) (sym code)
    (former-can c.args.setup.now (returns_of c.args.returns.now) (views_of c.args.views.now) c.args.station c.in-Some.con.now c.in-Some.field-0-1.now c.station.ensures.limits c.requires.tallied
    (sym c.in-Some.ensures.found) former (c.in_ok-former.ensures.old ∙ sym (get-tree c.args.returns.now c.args.station)))

pub count-requires : goal.count-requires
count-requires c =
    let setup = c.args.setup.now in
    let m = returns_of c.args.returns.now in
    let con = c.in-Some.con.now in
    let place = c.in-Some.field-0-1.now in
    let former = c.in_ok-former.former in
    let is : station_with c.args.station setup ≡ Some (con, place) = sym c.in-Some.ensures.found in
    let code : c.con.inside.code ≡ con.code = ap (λ (con : Constituency). con.code) c.con.view_is in
    let seen : views_of c.count_former.new.views ≡ without_former (views_of c.args.views.now) con.code former = c.count_former.ensures ∙ ap (λ q. without_former (views_of c.args.views.now) q former) code in
    let tallied = tallied-former setup m (views_of c.args.views.now) c.args.station con place c.station.ensures.limits c.requires.tallied is former (c.in_ok-former.ensures.old ∙ sym (get-tree c.args.returns.now c.args.station)) in
    let known : stations_of setup c.args.station ≡ Some (limits_of con place) = limits-at setup c.args.station con place is in
    let same : c.requires.lawful.0 ≡ limits_of con place = let e : Some c.requires.lawful.0 ≡ Some (limits_of con place) = sym c.requires.lawful.1 ∙ known in cc in
    let lawful : IsLawful (limits_of con place) c.args.standing = subst (λ (l : StationLimits). IsLawful l c.args.standing) same c.requires.lawful.2 in
    let stands : Some c.in-Some-get.standing.now ≡ Some c.args.standing = c.in-Some-get.ensures.value ∙ c.in_ok-former.ensures.updates.1 in
    let standing : c.in-Some-get.standing.now ≡ c.args.standing = cc in
    let can = put-can setup m (without_former (views_of c.args.views.now) con.code former) c.args.station con place c.args.standing c.station.ensures.limits c.requires.tallied.lawful tallied is lawful in
    subst (λ (r : StationReturn). ForSome (get (views_of c.count_former.new.views) c.con.inside.code) (λ view. CanCount view r true)) (sym standing)
    (subst (λ v. ForSome (get v c.con.inside.code) (λ view. CanCount view c.args.standing true)) (sym seen)
    (subst (λ q. ForSome (get (without_former (views_of c.args.views.now) con.code former) q) (λ view. CanCount view c.args.standing true)) (sym code) can))

pub returns-clause-put : goal.returns-clause-put
returns-clause-put c = tree-insert c.args.returns.now c.insert.new.self c.args.station c.args.standing c.in_ok-former.ensures.updates

pub returns-clause-tallied : goal.returns-clause-tallied
returns-clause-tallied c =
    let setup = c.args.setup.now in
    let m = returns_of c.args.returns.now in
    let con = c.in-Some.con.now in
    let place = c.in-Some.field-0-1.now in
    let former = c.in_ok-former.former in
    let is : station_with c.args.station setup ≡ Some (con, place) = sym c.in-Some.ensures.found in
    let code : c.con.inside.code ≡ con.code = ap (λ (con : Constituency). con.code) c.con.view_is in
    let seen : views_of c.count_former.new.views ≡ without_former (views_of c.args.views.now) con.code former = c.count_former.ensures ∙ ap (λ q. without_former (views_of c.args.views.now) q former) code in
    let tallied = tallied-former setup m (views_of c.args.views.now) c.args.station con place c.station.ensures.limits c.requires.tallied is former (c.in_ok-former.ensures.old ∙ sym (get-tree c.args.returns.now c.args.station)) in
    let known : stations_of setup c.args.station ≡ Some (limits_of con place) = limits-at setup c.args.station con place is in
    let same : c.requires.lawful.0 ≡ limits_of con place = let e : Some c.requires.lawful.0 ≡ Some (limits_of con place) = sym c.requires.lawful.1 ∙ known in cc in
    let lawful : IsLawful (limits_of con place) c.args.standing = subst (λ (l : StationLimits). IsLawful l c.args.standing) same c.requires.lawful.2 in
    let stands : Some c.in-Some-get.standing.now ≡ Some c.args.standing = c.in-Some-get.ensures.value ∙ c.in_ok-former.ensures.updates.1 in
    let standing : c.in-Some-get.standing.now ≡ c.args.standing = cc in
    let returns : returns_of c.insert.new.self ≡ insert m c.args.station c.args.standing = tree-insert c.args.returns.now c.insert.new.self c.args.station c.args.standing c.in_ok-former.ensures.updates in
    let now : views_of c.count.new.views ≡ with_view (without_former (views_of c.args.views.now) con.code former) con.code (λ view. with_return_counted view c.args.standing true) =
    c.count.ensures ∙ ap (λ (r : StationReturn). with_view (views_of c.count_former.new.views) c.con.inside.code (λ view. with_return_counted view r true)) standing
    ∙ ap (λ v. with_view v c.con.inside.code (λ view. with_return_counted view c.args.standing true)) seen
    ∙ ap (λ q. with_view (without_former (views_of c.args.views.now) con.code former) q (λ view. with_return_counted view c.args.standing true)) code in
    let put = tallied-put setup m (without_former (views_of c.args.views.now) con.code former) c.args.station con place c.args.standing c.station.ensures.limits c.requires.tallied.lawful tallied is lawful in
    subst (λ v. IsTallied setup (returns_of c.insert.new.self) v) (sym now)
    (subst (λ n. IsTallied setup n (with_view (without_former (views_of c.args.views.now) con.code former) con.code (λ view. with_return_counted view c.args.standing true))) (sym returns) put)

pub returns-clause-cons : goal.returns-clause-cons
returns-clause-cons c =
    ap cons_of c.count.ensures
    ∙ cons_of-kept (views_of c.count_former.new.views) c.con.inside.code (λ (view : View). with_return_counted view c.in-Some-get.standing.now true) (counted-con c.in-Some-get.standing.now true)
    ∙ ap cons_of c.count_former.ensures ∙ former-cons (views_of c.args.views.now) c.con.inside.code c.in_ok-former.former

pub returns-clause-seats : goal.returns-clause-seats
returns-clause-seats c =
    ap seats_of c.count.ensures
    ∙ seats_of-kept (views_of c.count_former.new.views) c.con.inside.code (λ (view : View). with_return_counted view c.in-Some-get.standing.now true) (counted-seats c.in-Some-get.standing.now true)
    ∙ ap seats_of c.count_former.ensures ∙ former-seats (views_of c.args.views.now) c.con.inside.code c.in_ok-former.former
