use Rattle.std.proofs.Common.{◌∙◌, IsTrue, Some, ap, sym}
use Rattle.tally_machine_law.proofs.CertificationLemmas.{on_ok}
use Rattle.tally_store_open.specs.internal.Found.{AreAllLawful, AreLawfulCons}
use Rattle.tally_store_rows.specs.Views.{tables_in}
use Rattle.tally_store_open.proofs.VerdictLemmas.{found_lawful, not_found_lawful}
use Rattle.tally_store_open.proofs.cons.are_lawful_cons.Goals as goal

pub returns-in_default-clause-otherwise : goal.returns-in_default-clause-otherwise
returns-in_default-clause-otherwise c lawful =
    let none = rw c.in_default.is at c.in_ok-found.ensures in
    absurd (not_found_lawful c.args.ledger.now c.args.cons.now (tables_in c.args.tables) none lawful)

pub returns-clause-lawful : goal.returns-clause-lawful
returns-clause-lawful c =
    let found = rw c.in-Some.is at c.in_ok-found.ensures in
    let kept = c.args.ledger.now in
    let vs = c.deref.result.now in
    on_ok c.are_all_lawful.result (λ b. IsTrue b → AreAllLawful kept vs) (λ b. IsTrue b → AreLawfulCons kept c.args.cons.now (tables_in c.args.tables))
    (λ b ensured is. (vs, sym found ∙ ap Some (sym c.deref.ensures.value), ensured is)) c.are_all_lawful.ensures.lawful

pub returns-clause-otherwise : goal.returns-clause-otherwise
returns-clause-otherwise c =
    let found = rw c.in-Some.is at c.in_ok-found.ensures in
    let kept = c.args.ledger.now in
    let vs = c.deref.result.now in
    on_ok c.are_all_lawful.result (λ b. AreAllLawful kept vs → IsTrue b) (λ b. AreLawfulCons kept c.args.cons.now (tables_in c.args.tables) → IsTrue b)
    (λ b ensured lawful. ensured (found_lawful kept c.args.cons.now (tables_in c.args.tables) vs (ap Some c.deref.ensures.value ∙ found) lawful)) c.are_all_lawful.ensures.otherwise
