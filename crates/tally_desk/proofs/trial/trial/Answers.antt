use Rattle.tally_desk.specs.Requests.{AtCon, TriesBody, TriesText}
use Rattle.tally_desk.proofs.DeskLemmas.{con-answer, con-copied, gives-on}
use Rattle.tally_desk.proofs.trial.trial.Goals as goal

pub returns-clause-gives : goal.returns-clause-gives
returns-clause-gives g c sure =
    let k = g.K.Keeper in
    let setup = k.constituencies c.args.keeper.now in
    let old = k.content c.args.keeper.now in
    let new = k.content c.try_rows.new.keeper in
    let m = c.args.message.now in
    gives-on (TriesText setup old c.in_ok-con.con c.args.sep c.deref-2.result.now) (AtCon setup old m (λ code con. TriesBody setup old con c.args.sep m)) old new c.try_rows.result
    (λ text tried. con-answer c.setup.result.now setup old new m c.deref.result.now c.in-Some.code c.con_in_target.result (λ code con. TriesBody setup old con c.args.sep m) text
    c.con_in_target.ensures c.setup.ensures.setup c.deref.ensures.value c.in-Some.is
    (λ con found. con-copied c.setup-2.result.now setup m con c.in_ok-con.con c.in-Some.code c.deref-2.result.now (λ con body. TriesText setup old con c.args.sep body text new)
    c.setup-2.ensures.setup c.in_ok-con.ensures c.deref-2.ensures.value found tried))
    (c.try_rows.ensures.tries sure)
