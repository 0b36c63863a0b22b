use Rattle.std.proofs.Common.{cond, Some, None, sym, ap, ◌∙◌}
use Rattle.tally_store_rows.proofs.Utf8Lemmas.{is_text, is_no_text}
use Rattle.tally_store_rows.proofs.columns.utf8_of.Goals as goal

pub returns-in-Ok : goal.returns-in-Ok
returns-in-Ok c = ap Some c.in-Ok.ensures.cases.0 ∙ sym (ap (λ b. cond b (Some c.args.text.now) None) (is_text c.args.text.now c.in-Ok.ensures.cases.1))

pub returns-in-Err : goal.returns-in-Err
returns-in-Err c = sym (ap (λ b. cond b (Some c.args.text.now) None) (is_no_text c.args.text.now c.in-Err.ensures.cases.0))
