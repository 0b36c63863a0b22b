use Rattle.std.proofs.Common.{◌≡◌, ap, subst, length, arith}
use Rattle.std.specs.Prelude.{All}
use Rattle.std.proofs.lemmas.List.{take_all}
use Rattle.std.proofs.lemmas.List.Elements.{All-more}
use Rattle.tally_setup.specs.Constituency.{Constituency}
use Rattle.tally_returns.specs.PastSeats.{PastSeats}
use Rattle.tally_returns.specs.View.{HasEachList}
use Rattle.tally_returns.proofs.view.have_each_list.Goals as goal

pub loop-certificate-preserved : goal.loop-certificate-preserved
loop-certificate-preserved c =
    let seats : length c.certificate.inside.seats.items ≡ length c.certificate-item.result.seats = ap (λ (p : PastSeats). length p.seats) c.certificate.view_is in
    let lists : length c.con.inside.lists.items ≡ length c.args.con.now.lists = ap (λ (con : Constituency). length con.lists) c.con.view_is in
    let each : length c.certificate-item.result.seats ≡ length c.args.con.now.lists =
    omega (arith, seats, lists, c.len.ensures, c.len-in-loop-certificate.ensures, c.if-len.false, c.certificate.inside.seats.ok.0, c.con.inside.lists.ok.0) in
    All-more (HasEachList c.args.con.now) c.args.past.now c.loop-certificate.certificate-index c.certificate-item.result c.loop-certificate-test.true c.loop-certificate.invariant
    (subst (HasEachList c.args.con.now) c.certificate-item.is each)

pub returns-clause-each : goal.returns-clause-each
returns-clause-each c =
    λ _. subst (All (HasEachList c.args.con.now)) (take_all c.loop-certificate.certificate-index c.args.past.now c.loop-certificate-test.false) c.loop-certificate.invariant
