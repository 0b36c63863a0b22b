use Rattle.std.proofs.Common.{◌≡◌, ◌∙◌, ℕ, List, ap, subst, sym}
use Rattle.tally_law.specs.LotNeed.{IsAllotmentUnderLot}
use Rattle.tally_law.specs.Rules.{poll_of, rule_of}
use Rattle.tally_machine_law.proofs.CertificationLemmas.{carried}
use Rattle.tally_machine_law.specs.Outcome.{poll_in, rule_in}
use Rattle.tally_returns.specs.View.{View}
use Rattle.tally_setup.specs.Constituency.{Constituency}
use Rattle.tally_setup.specs.declared.profile.Profile.{Profile}
use Rattle.tally_store_open.proofs.view.is_certificate.Goals as goal

pub returns-then-view-clause-certified : goal.returns-then-view-clause-certified
returns-then-view-clause-certified c passed =
    let con = c.args.con.now in
    let view = c.args.view.now in
    let closed : view.closed ≡ view.stations = sym (ap (λ (v : View). v.closed) c.view.view_is) ∙ c.if-view.true ∙ ap (λ (v : View). v.stations) c.view.view_is in
    let profile = ap (λ (k : Constituency). k.profile) c.con.view_is in
    let seats = ap (λ (k : Constituency). k.seats) c.con.view_is in
    let votes = c.deref.ensures.value ∙ ap (λ (v : View). v.votes) c.view.view_is in
    let blank = ap (λ (v : View). v.blank) c.view.view_is in
    let lot = c.deref-then-view.ensures.value ∙ ap (λ (v : View). v.lot) c.view.view_is in
    let given = c.deref-then-view-2.ensures.value ∙ ap (λ (v : View). v.seats) c.view.view_is in
    let Under : Profile → ℕ → List ℕ → ℕ → List ℕ → Type 0 = λ profile seats votes blank lot. IsAllotmentUnderLot (rule_of profile) (poll_of profile votes blank) lot seats c.deref-then-view-2.result.now in
    let ensured = subst (IsAllotmentUnderLot (rule_in con) (poll_in con view) view.lot con.seats) given (carried Under profile seats votes blank lot (c.is_allotment.ensures.0 passed)) in
    ((closed, ensured.0, ensured.1), ensured)
