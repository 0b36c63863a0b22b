use Rattle.std.proofs.Common.{◌++◌, ◌∷◌, [], sym, subst, refl}
use Rattle.tally_returns_rows.specs.declared.import.Row.TheVariants as row
use Rattle.tally_import_recount.specs.internal.Register.{HasTaken}
use Rattle.tally_import_recount.proofs.TakenLemmas.{taken-nothing}
use Rattle.tally_import_recount.proofs.register.Register.take.Goals as goal

pub returns-in-Bad-clause-taken : goal.returns-in-Bad-clause-taken
returns-in-Bad-clause-taken c con words rows h =
    subst (λ r. HasTaken con words (rows ++ r ∷ []) c.pass.new.self) (sym c.in-Bad.is)
    (taken-nothing con words rows (row.Bad c.in-Bad.field-0) c.args.self.now c.pass.new.self refl refl refl c.pass.ensures h)
