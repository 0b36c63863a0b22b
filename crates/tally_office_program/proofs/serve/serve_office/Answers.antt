use Rattle.std.proofs.Common.{inl, inr, refl, string_bytes, true}
use Rattle.tally_office_program.specs.Served.{IsServedText}
use Rattle.tally_office_commands.specs.Offices.{AtPath, AtPort}
use Rattle.tally_office_program.specs.Commands.{IsTroubleOfListening, NotListening}
use Rattle.tally_office_trouble.specs.Troubles.{IsTroubleOfServe}
use Rattle.tally_office_commands.proofs.WrittenLemmas.{ended, ended-named, not-begun}
use Rattle.tally_office_commands.proofs.OtherLemmas.{of-opening, other}
use Rattle.tally_office_program.proofs.ServerLemmas.{serving, takes, unlistened, whatever}
use Rattle.tally_office_program.proofs.serve.serve_office.Goals as goal

pub returns-in-Err-clause-written : goal.returns-in-Err-clause-written
returns-in-Err-clause-written g c = not-begun g.W.Write.contents (IsServedText c.args.count) c.args.output.now c.in-Err.unopened (of-opening _ c.in-Err.ensures.named)

pub returns-in-Err-clause-takes : goal.returns-in-Err-clause-takes
returns-in-Err-clause-takes g c = record {
  course = NotListening c.in-Err.unopened;
  is = refl;
  named = inl (c.in-Err.ensures.named, c.in-Err.ensures.opens);
  says = refl;
}

pub returns-clause-written : goal.returns-clause-written
returns-clause-written g c =
    let Listens = g.O.Offices.Opens c.args.offices.now (AtPort c.args.port) in
    let Closed = g.O.Offices.Closes c.args.offices.now c.args.db.now c.serve_on-outcome.new.keeper true in
    ended g.W.Write.contents (IsServedText c.args.count) Closed string_bytes c.args.output.now c.close_and_print.new.output c.serve_on-outcome.result c.close_and_print.result
    (other (IsTroubleOfListening Listens) (unlistened Listens) c.serve_on-outcome.result c.serve_on-outcome.ensures.named)
    (whatever Closed (IsServedText c.args.count) string_bytes c.serve_on-outcome.result c.serve_on-outcome.ensures.text)
    c.close_and_print.ensures.text c.close_and_print.ensures.closed c.close_and_print.ensures.cut c.close_and_print.ensures.trouble

pub returns-clause-named : goal.returns-clause-named
returns-clause-named g c =
    let Listens = g.O.Offices.Opens c.args.offices.now (AtPort c.args.port) in
    ended-named _ (IsTroubleOfListening Listens) IsTroubleOfServe (λ t is. inr (inl (serving Listens t is))) (λ t is. inr (inr is)) c.serve_on-outcome.result c.close_and_print.result
    c.serve_on-outcome.ensures.named c.close_and_print.ensures.named c.close_and_print.ensures.trouble

pub returns-clause-takes : goal.returns-clause-takes
returns-clause-takes g c =
    takes (g.O.Offices.Opens c.args.offices.now (AtPath c.args.db.now)) (g.O.Offices.Opens c.args.offices.now (AtPort c.args.port)) g.E.Write.contents c.args.port c.args.count _ c.args.errors.now c.serve_on-outcome.new.errors c.serve_on-outcome.result c.close_and_print.result
    c.in-Ok.ensures.opens c.serve_on-outcome.ensures.listens c.serve_on-outcome.ensures.said c.serve_on-outcome.ensures.silent c.serve_on-outcome.ensures.named c.close_and_print.ensures.named c.close_and_print.ensures.trouble
