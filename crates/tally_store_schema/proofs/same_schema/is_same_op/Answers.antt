use Rattle.std.proofs.Common.{◌∙◌, sym, true≢false}
use Rattle.tally_store_schema.proofs.same_schema.is_same_op.Goals as goal

pub returns-else-eq : goal.returns-else-eq
returns-else-eq c = λ same. absurd (true≢false (sym same ∙ c.if-eq.false))
