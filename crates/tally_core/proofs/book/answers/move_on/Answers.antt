use Rattle.std.proofs.Common.{◌≡◌, ◌∙◌, Some, Ok, Err, true, false, ap, sym, subst, rules}
use Rattle.tally_setup.specs.Constituency.{Constituency}
use Rattle.tally_setup.specs.Setup.{constituency_with, station_with}
use Rattle.tally_returns.specs.View.{View}
use Rattle.std.specs.Option.{option_copied}
use Rattle.tally_keeper.specs.internal.Held.{IsMoved, is_query}
use Rattle.tally_returns.specs.Return.{StationReturn}
use Rattle.tally_returns.specs.declared.reply.Reply.TheVariants.{Moved}
use Rattle.tally_keeper.specs.Kept.{with_no_lot}
use Rattle.tally_keeper.proofs.StepLemmas.{IsLookedUp, looked-up, looked_up-lawful, moved-on, moved-refused, moves-put, station-known, station-own, view-none, with_put}
use Rattle.tally_core.proofs.book.answers.move_on.Goals as goal

pub unreachable-requires : goal.unreachable-requires
unreachable-requires c =
    let k = c.args.ledger.now in
    let known : station_with c.args.station k.setup ≡ Some (c.in-Some.con.now, c.in-Some.place.now) =
    ap (station_with c.args.station) (sym c.setup.ensures) ∙ station-known c.setup.result.now c.args.station c.station.result c.in-Some.con c.in-Some.place c.station.ensures.found c.in-Some.is in
    let code_is = ap (λ (x : Constituency). x.code) c.con.view_is in
    view-none k c.con.inside.code c.in-Some.con.now c.view.result
    (ap (λ q. constituency_with q k.setup) code_is ∙ station-own k c.args.station c.in-Some.con.now c.in-Some.place.now c.requires.held known) c.view.ensures c.in_default-view.is

pub decide_at-requires : goal.decide_at-requires
decide_at-requires c =
    let k = c.args.ledger.now in
    let known : station_with c.args.station k.setup ≡ Some (c.in-Some.con.now, c.in-Some.place.now) =
    ap (station_with c.args.station) (sym c.setup.ensures) ∙ station-known c.setup.result.now c.args.station c.station.result c.in-Some.con c.in-Some.place c.station.ensures.found c.in-Some.is in
    record {
      lawful = looked_up-lawful k c.args.station c.in-Some.con.now c.in-Some.place.now (option_copied c.return_at-found.result) c.requires.held known c.return_at-found.ensures;
    }

pub returns-in_err-next : goal.returns-in_err-next
returns-in_err-next c =
    let k = c.args.ledger.now in
    let ask = c.args.ask.now in
    let con = c.in-Some.con.now in
    let place = c.in-Some.place.now in
    let found = option_copied c.return_at-found.result in
    let certified = c.view-2.inside.certified in
    let known : station_with c.args.station k.setup ≡ Some (con, place) =
    ap (station_with c.args.station) (sym c.setup.ensures) ∙ station-known c.setup.result.now c.args.station c.station.result c.in-Some.con c.in-Some.place c.station.ensures.found c.in-Some.is in
    let looked : IsLookedUp k c.args.station con place certified found =
    looked-up k c.args.station con place c.con.inside.code c.view.result c.in-Some-view.view certified found c.requires.held known (ap (λ (x : Constituency). x.code) c.con.view_is) c.view.ensures
    c.in-Some-view.is (ap (λ (v : View). v.certified) c.view-2.view_is) c.return_at-found.ensures in
    let e = c.in_err-next.field-0.0 in
    let is : c.from_residual.result ≡ Err e = search rules in
    subst (λ r. IsMoved k ask r k) (sym is) (moved-refused k ask c.args.station con place certified found e looked c.requires.named c.in_err-next.ensures.decided)

pub unreachable-requires-in_default-2 : goal.unreachable-requires-in_default-2
unreachable-requires-in_default-2 c =
    let k = c.args.ledger.now in
    let ask = c.args.ask.now in
    let con = c.in-Some.con.now in
    let place = c.in-Some.place.now in
    let found = option_copied c.return_at-found.result in
    let certified = c.view-2.inside.certified in
    let known : station_with c.args.station k.setup ≡ Some (con, place) =
    ap (station_with c.args.station) (sym c.setup.ensures) ∙ station-known c.setup.result.now c.args.station c.station.result c.in-Some.con c.in-Some.place c.station.ensures.found c.in-Some.is in
    let looked : IsLookedUp k c.args.station con place certified found =
    looked-up k c.args.station con place c.con.inside.code c.view.result c.in-Some-view.view certified found c.requires.held known (ap (λ (x : Constituency). x.code) c.con.view_is) c.view.ensures
    c.in-Some-view.is (ap (λ (v : View). v.certified) c.view-2.view_is) c.return_at-found.ensures in
    moves-put k ask c.args.station con place certified found c.in_ok-next.field-0 looked c.requires.named c.requires.moves c.in_ok-next.ensures.decided c.in_default-2.not-PutReturn

pub returns : goal.returns
returns c =
    let k = c.args.ledger.now in
    let ask = c.args.ask.now in
    let con = c.in-Some.con.now in
    let place = c.in-Some.place.now in
    let found = option_copied c.return_at-found.result in
    let certified = c.view-2.inside.certified in
    let known : station_with c.args.station k.setup ≡ Some (con, place) =
    ap (station_with c.args.station) (sym c.setup.ensures) ∙ station-known c.setup.result.now c.args.station c.station.result c.in-Some.con c.in-Some.place c.station.ensures.found c.in-Some.is in
    let looked : IsLookedUp k c.args.station con place certified found =
    looked-up k c.args.station con place c.con.inside.code c.view.result c.in-Some-view.view certified found c.requires.held known (ap (λ (x : Constituency). x.code) c.con.view_is) c.view.ensures
    c.in-Some-view.is (ap (λ (v : View). v.certified) c.view-2.view_is) c.return_at-found.ensures in
    let next = c.in-PutReturn.next in
    let decided = c.in_ok-next.ensures.decided ∙ ap Ok c.in-PutReturn.is in
    let put : c.put.new.self ≡ with_put k c.args.station next = c.in_ok-put.ensures.put in
    let own = c.con.inside.code in
    let con_is : own ≡ con.code = ap (λ (x : Constituency). x.code) c.con.view_is in
    let new = c.take_lot.new.ledger in
    let query : is_query ask ≡ true → new ≡ with_no_lot (with_put k c.args.station next) con.code =
    λ q. c.take_lot.ensures.query q ∙ ap (λ x. with_no_lot x own) put ∙ ap (with_no_lot (with_put k c.args.station next)) con_is in
    let other : is_query ask ≡ false → new ≡ with_put k c.args.station next = λ q. c.take_lot.ensures.other q ∙ put in
    subst (λ (r : StationReturn). IsMoved k ask (Ok (Moved r.rev)) new) (sym c.next.view_is)
    (moved-on k new ask c.args.station con place certified found next looked c.requires.named decided query other)
