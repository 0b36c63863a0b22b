use Rattle.std.proofs.Common.{ℕ, List, ap, ◌∙◌}
use Rattle.tally_allot.specs.AllotFault.{IsFaultOf}
use Rattle.tally_law.specs.LotNeed.{IsLotTaken}
use Rattle.tally_law.specs.Poll.{HasEligible}
use Rattle.tally_law.specs.Rules.{poll_of, rule_of}
use Rattle.tally_machine_law.proofs.CertificationLemmas.{carried}
use Rattle.tally_machine_law.specs.Outcome.{poll_in, rule_in}
use Rattle.tally_returns.specs.View.{View}
use Rattle.tally_setup.specs.Constituency.{Constituency}
use Rattle.tally_setup.specs.declared.profile.Profile.{Profile}
use Rattle.tally_store_open.proofs.SeenLemmas.{not_refused}
use Rattle.tally_store_open.proofs.view.is_lot_taken.Goals as goal

pub returns-in-Ok-clause-taken : goal.returns-in-Ok-clause-taken
returns-in-Ok-clause-taken c passed =
    let profile = ap (λ (k : Constituency). k.profile) c.con.view_is in
    let seats = ap (λ (k : Constituency). k.seats) c.con.view_is in
    let votes = c.deref.ensures.value ∙ ap (λ (v : View). v.votes) c.view.view_is in
    let blank = ap (λ (v : View). v.blank) c.view.view_is in
    let lot = c.deref-2.ensures.value ∙ ap (λ (v : View). v.lot) c.view.view_is in
    let Right : Profile → ℕ → List ℕ → ℕ → List ℕ → Type 0 = λ profile seats votes blank lot. HasEligible (poll_of profile votes blank) × IsLotTaken (rule_of profile) (poll_of profile votes blank) seats lot in
    carried Right profile seats votes blank lot (c.in-Ok.ensures.eligible, c.in-Ok.ensures.lot_taken)

pub returns-in_default-clause-otherwise : goal.returns-in_default-clause-otherwise
returns-in_default-clause-otherwise c right =
    let con = c.args.con.now in
    let view = c.args.view.now in
    let profile = ap (λ (k : Constituency). k.profile) c.con.view_is in
    let seats = ap (λ (k : Constituency). k.seats) c.con.view_is in
    let votes = c.deref.ensures.value ∙ ap (λ (v : View). v.votes) c.view.view_is in
    let blank = ap (λ (v : View). v.blank) c.view.view_is in
    let lot = c.deref-2.ensures.value ∙ ap (λ (v : View). v.lot) c.view.view_is in
    let Fault : Profile → ℕ → List ℕ → ℕ → List ℕ → Type 0 = λ profile seats votes blank lot. IsFaultOf (rule_of profile) (poll_of profile votes blank) seats lot c.in-Err.fault in
    let says : IsFaultOf (rule_in con) (poll_in con view) con.seats view.lot c.in-Err.fault = carried Fault profile seats votes blank lot c.in-Err.ensures.fault in
    absurd (not_refused con view c.in-Err.fault c.in_default.not-Memory says c.requires.lot right)
