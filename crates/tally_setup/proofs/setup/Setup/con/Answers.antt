use Rattle.std.proofs.Common.{ap, ◌∙◌, sym, option_copied}
use Rattle.std.specs.List.{slice_get}
use Rattle.std.specs.Option.{option_and_then}
use Rattle.tally_setup.specs.Setup.{constituency_with}
use Rattle.tally_setup.proofs.SetupLemmas.{constituency_with-place, slice_get-lookup}
use Rattle.tally_setup.proofs.setup.Setup.con.Goals as goal

pub returns-in_err-index_of-clause-found : goal.returns-in_err-index_of-clause-found
returns-in_err-index_of-clause-found c =
    ap option_copied c.from_residual.ensures
    ∙ sym (
    ap (constituency_with c.args.code) (sym c.self.view_is)
    ∙ constituency_with-place _ _ _ _ c.self.invariant c.args.code
    ∙ ap (option_and_then (slice_get c.self.inside.cons.items)) (sym c.in_err-index_of.ensures.place)
    )

pub returns-clause-found : goal.returns-clause-found
returns-clause-found c =
    sym (
    ap (constituency_with c.args.code) (sym c.self.view_is)
    ∙ constituency_with-place _ _ _ _ c.self.invariant c.args.code
    ∙ ap (option_and_then (slice_get c.self.inside.cons.items)) (sym c.in_ok-index_of.ensures.place)
    ∙ ap (λ cons. slice_get cons c.in_ok-index_of.field-0) (sym c.deref.ensures.value)
    ∙ slice_get-lookup _ _ _ c.get.ensures.lookup
    )
