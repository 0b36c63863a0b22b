use Rattle.std.proofs.Common.{◌∙◌, arith, subst, sym, IsTrue, true≢false}
use Rattle.tally_machine_law.specs.Outcome.{IsLawfulPast}
use Rattle.tally_returns.specs.View.{HasEachList}
use Rattle.tally_store_open.proofs.AllLemmas.{all_more, all_end}
use Rattle.tally_store_open.proofs.view.are_earlier.Goals as goal

pub is_lawful_past-requires : goal.is_lawful_past-requires
is_lawful_past-requires c =
    subst (HasEachList c.args.con.now) (sym c.certificate-item.is) (c.requires c.loop-certificate.certificate-index c.certificate-item.result (omega (arith, c.loop-certificate-test.true)))

pub loop-certificate-preserved : goal.loop-certificate-preserved
loop-certificate-preserved c =
    let passed : IsTrue c.is_lawful_past.result = c.if-not-is_lawful_past.false in
    all_more (IsLawfulPast c.args.con.now c.args.edition) c.args.past.now c.loop-certificate.certificate-index c.certificate-item.result (omega (arith, c.loop-certificate-test.true)) c.certificate-item.is (c.is_lawful_past.ensures.lawful passed) c.loop-certificate.invariant

pub returns-clause-earlier : goal.returns-clause-earlier
returns-clause-earlier c passed = all_end (IsLawfulPast c.args.con.now c.args.edition) c.args.past.now c.loop-certificate.certificate-index (omega (arith, c.loop-certificate-test.false)) c.loop-certificate.invariant

pub returns-then-not-is_lawful_past-clause-otherwise : goal.returns-then-not-is_lawful_past-clause-otherwise
returns-then-not-is_lawful_past-clause-otherwise c all =
    let one = all c.loop-certificate.certificate-index c.certificate-item.result (omega (arith, c.loop-certificate-test.true)) in
    let passed = c.is_lawful_past.ensures.otherwise (subst (IsLawfulPast c.args.con.now c.args.edition) (sym c.certificate-item.is) one) in
    absurd (true≢false (sym passed ∙ c.if-not-is_lawful_past.true))
