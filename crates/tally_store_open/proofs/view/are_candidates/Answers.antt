use Rattle.std.proofs.Common.{◌∙◌, arith, subst, sym, IsTrue, true≢false}
use Rattle.tally_machine_law.specs.Outcome.{IsLawfulGone}
use Rattle.tally_store_open.proofs.AllLemmas.{all_more, all_end}
use Rattle.tally_store_open.proofs.view.are_candidates.Goals as goal

pub loop-candidate-preserved : goal.loop-candidate-preserved
loop-candidate-preserved c =
    let passed : IsTrue c.is_lawful_gone.result = c.if-not-is_lawful_gone.false in
    all_more (IsLawfulGone c.args.con.now) c.args.gone.now c.loop-candidate.candidate-index c.candidate-item.result (omega (arith, c.loop-candidate-test.true)) c.candidate-item.is (c.is_lawful_gone.ensures.lawful passed) c.loop-candidate.invariant

pub returns-clause-candidates : goal.returns-clause-candidates
returns-clause-candidates c passed = all_end (IsLawfulGone c.args.con.now) c.args.gone.now c.loop-candidate.candidate-index (omega (arith, c.loop-candidate-test.false)) c.loop-candidate.invariant

pub returns-then-not-is_lawful_gone-clause-otherwise : goal.returns-then-not-is_lawful_gone-clause-otherwise
returns-then-not-is_lawful_gone-clause-otherwise c all =
    let one = all c.loop-candidate.candidate-index c.candidate-item.result (omega (arith, c.loop-candidate-test.true)) in
    let passed = c.is_lawful_gone.ensures.otherwise (subst (IsLawfulGone c.args.con.now) (sym c.candidate-item.is) one) in
    absurd (true≢false (sym passed ∙ c.if-not-is_lawful_gone.true))
