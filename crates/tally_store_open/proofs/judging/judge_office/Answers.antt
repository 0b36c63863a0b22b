use Rattle.std.proofs.Common.{subst}
use Rattle.std.proofs.lemmas.Result.{IfErr-weaker, IfOk-weaker}
use Rattle.sqlite.specs.Held.{state}
use Rattle.tally_setup.specs.Limits.{IsSetup}
use Rattle.tally_store_open.specs.internal.Opening.{CountsTables, IsJudged, rows_found}
use Rattle.tally_store_open.proofs.JudgingLemmas.{judged, judged_none, look_as, numbers_judged, so_again}
use Rattle.tally_store_open.proofs.judging.judge_office.Goals as goal

pub returns-clause-reads : goal.returns-clause-reads
returns-clause-reads g c = look_as g.S.Store c.args.tx.now c.read_rows.new.tx _ _ c.in_ok-rows.ensures.reads

pub returns-clause-judged : goal.returns-clause-judged
returns-clause-judged g c clean has =
    let old = state g.S.Store c.args.tx.now.conn.now in
    let here = judged c.args.setup old (rows_found c.in_ok-rows.rows) (subst IsSetup c.setup.view_is c.setup.invariant.limits) (c.in_ok-rows.ensures.shown clean has) in
    so_again c.accept.result c.args.setup (λ setup. IsJudged setup old.now) c.accept.ensures.setup here c.accept.ensures.passed

pub returns-clause-refused : goal.returns-clause-refused
returns-clause-refused g c clean has =
    let old = state g.S.Store c.args.tx.now.conn.now in
    let none = judged_none c.args.setup old (rows_found c.in_ok-rows.rows) (subst IsSetup c.setup.view_is c.setup.invariant.limits) (c.in_ok-rows.ensures.shown clean has) in
    IfOk-weaker c.accept.result _ _ (λ answer refused. IfErr-weaker answer _ _ (λ fault why. (why.0, none why.1)) refused) c.accept.ensures.refused

pub returns-clause-numbers : goal.returns-clause-numbers
returns-clause-numbers g c clean has =
    let old = state g.S.Store c.args.tx.now.conn.now in
    let known = c.accept.new.known in
    let here = numbers_judged c.args.setup old (rows_found c.in_ok-rows.rows) known (subst IsSetup c.setup.view_is c.setup.invariant.limits) (c.in_ok-rows.ensures.shown clean has) in
    so_again c.accept.result c.args.setup (λ setup. CountsTables known setup old.now) c.accept.ensures.setup here c.accept.ensures.numbers
