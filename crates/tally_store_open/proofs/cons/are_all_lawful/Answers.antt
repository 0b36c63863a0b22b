use Rattle.std.proofs.Common.{◌≡◌, ◌∙◌, IsTrue, length, rules, sym, true}
use Rattle.std.specs.Prelude.{All}
use Rattle.tally_machine_law.proofs.CertificationLemmas.{on_ok}
use Rattle.tally_store_open.specs.internal.Entries.{rises}
use Rattle.tally_store_open.specs.internal.Found.{AreAllLawful, IsLawfulFound}
use Rattle.tally_store_open.proofs.cons.are_all_lawful.Goals as goal

pub returns-clause-lawful : goal.returns-clause-lawful
returns-clause-lawful c =
    let kept = c.args.ledger.now in
    let found = c.args.found.now in
    let many : length found ≡ length kept.setup = search rules in
    let rise : rises found ≡ true = sym c.codes_rise.ensures ∙ c.if-not-codes_rise.false in
    on_ok c.are_each_lawful.result (λ yes. IsTrue yes → All (IsLawfulFound kept) found) (λ yes. IsTrue yes → AreAllLawful kept found)
    (λ yes ensured is. record { many = many; rise = rise; each = ensured is }) c.are_each_lawful.ensures.lawful

pub returns-clause-otherwise : goal.returns-clause-otherwise
returns-clause-otherwise c =
    let kept = c.args.ledger.now in
    let found = c.args.found.now in
    on_ok c.are_each_lawful.result (λ yes. All (IsLawfulFound kept) found → IsTrue yes) (λ yes. AreAllLawful kept found → IsTrue yes)
    (λ yes ensured all. ensured all.each) c.are_each_lawful.ensures.otherwise
