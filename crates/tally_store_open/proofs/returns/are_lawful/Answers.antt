use Rattle.std.proofs.Common.{◌∙◌, arith, subst, sym, IsTrue, true≢false}
use Rattle.tally_store_open.specs.internal.Entries.{IsLawfulEntry}
use Rattle.tally_store_open.proofs.AllLemmas.{all_more, all_end}
use Rattle.tally_store_open.proofs.returns.are_lawful.Goals as goal

pub loop-entry-preserved : goal.loop-entry-preserved
loop-entry-preserved c =
    let passed : IsTrue c.is_lawful.result = c.if-not-is_lawful.false in
    all_more (IsLawfulEntry c.args.setup.now) c.args.entries.now c.loop-entry.entry-index c.entry-item.result (omega (arith, c.loop-entry-test.true)) c.entry-item.is (c.is_lawful.ensures.lawful passed) c.loop-entry.invariant

pub returns-clause-lawful : goal.returns-clause-lawful
returns-clause-lawful c passed = all_end (IsLawfulEntry c.args.setup.now) c.args.entries.now c.loop-entry.entry-index (omega (arith, c.loop-entry-test.false)) c.loop-entry.invariant

pub returns-then-not-is_lawful-clause-otherwise : goal.returns-then-not-is_lawful-clause-otherwise
returns-then-not-is_lawful-clause-otherwise c all =
    let one = all c.loop-entry.entry-index c.entry-item.result (omega (arith, c.loop-entry-test.true)) in
    let passed = c.is_lawful.ensures.otherwise (subst (IsLawfulEntry c.args.setup.now) (sym c.entry-item.is) one) in
    absurd (true≢false (sym passed ∙ c.if-not-is_lawful.true))
