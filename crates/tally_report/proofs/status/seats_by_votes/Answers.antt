use Rattle.std.proofs.Common.{◌∙◌, ℕ, List, IfOk, IfErr, OnOk, ap, sym, subst}
use Rattle.tally_setup.specs.Constituency.{Constituency}
use Rattle.tally_setup.specs.Limits.{IsConstituency}
use Rattle.tally_law.specs.Conditions.{AreLimitsKept}
use Rattle.tally_setup.specs.declared.profile.Profile.{Profile}
use Rattle.tally_law.specs.Allotment.{IsAllotment}
use Rattle.tally_law.specs.Poll.{HasEligible}
use Rattle.tally_allot.specs.AllotFault.{IsFaultOf}
use Rattle.tally_law.specs.LotNeed.{IsLotTaken}
use Rattle.tally_law.specs.Rules.{rule_of, poll_of}
use Rattle.tally_machine_law.specs.Outcome.{poll_in, rule_in}
use Rattle.tally_returns.specs.View.{View}
use Rattle.tally_machine_law.proofs.CertificationLemmas.{all_three, fits-limits}
use Rattle.tally_report.proofs.AwardLemmas.{carried}
use Rattle.tally_report.proofs.status.seats_by_votes.Goals as goal

pub allot-requires : goal.allot-requires
allot-requires c =
    let con = c.args.con.now in
    let view = c.args.view.now in
    let profile = ap (λ (k : Constituency). k.profile) c.con.view_is in
    let seats = ap (λ (k : Constituency). k.seats) c.con.view_is in
    let votes = c.as_slice-votes.ensures.value ∙ ap (λ (v : View). v.votes) c.view.view_is in
    let blank = ap (λ (v : View). v.blank) c.view.view_is in
    let Kept : Profile → ℕ → List ℕ → ℕ → List ℕ → Type 0 = λ profile seats votes blank lot. AreLimitsKept profile seats votes blank in
    carried Kept (sym profile) (sym seats) (sym votes) (sym blank) (sym c.recorded_lot-lot.ensures) (fits-limits con view (subst IsConstituency c.con.view_is c.con.invariant) c.requires)

pub returns-clause-seats : goal.returns-clause-seats
returns-clause-seats c =
    let con = c.args.con.now in
    let view = c.args.view.now in
    let profile = ap (λ (k : Constituency). k.profile) c.con.view_is in
    let seats = ap (λ (k : Constituency). k.seats) c.con.view_is in
    let votes = c.as_slice-votes.ensures.value ∙ ap (λ (v : View). v.votes) c.view.view_is in
    let blank = ap (λ (v : View). v.blank) c.view.view_is in
    let lot = c.recorded_lot-lot.ensures in
    let Eligible : Profile → ℕ → List ℕ → ℕ → List ℕ → Type 0 = λ profile seats votes blank lot. OnOk c.allot.result (HasEligible (poll_of profile votes blank)) in
    let Taken : Profile → ℕ → List ℕ → ℕ → List ℕ → Type 0 = λ profile seats votes blank lot. OnOk c.allot.result (IsLotTaken (rule_of profile) (poll_of profile votes blank) seats lot) in
    let Allotted : Profile → ℕ → List ℕ → ℕ → List ℕ → Type 0 = λ profile seats votes blank lot. IfOk c.allot.result (λ given. IsAllotment (rule_of profile) (poll_of profile votes blank) lot seats given.items) in
    all_three c.allot.result (HasEligible (poll_in con view)) (IsLotTaken (rule_in con) (poll_in con view) con.seats view.lot) (λ given. IsAllotment (rule_in con) (poll_in con view) view.lot con.seats given.items)
    (carried Eligible profile seats votes blank lot c.allot.ensures.eligible)
    (carried Taken profile seats votes blank lot c.allot.ensures.lot_taken)
    (carried Allotted profile seats votes blank lot c.allot.ensures.allotment)

pub returns-clause-fault : goal.returns-clause-fault
returns-clause-fault c =
    let profile = ap (λ (k : Constituency). k.profile) c.con.view_is in
    let seats = ap (λ (k : Constituency). k.seats) c.con.view_is in
    let votes = c.as_slice-votes.ensures.value ∙ ap (λ (v : View). v.votes) c.view.view_is in
    let blank = ap (λ (v : View). v.blank) c.view.view_is in
    let Fault : Profile → ℕ → List ℕ → ℕ → List ℕ → Type 0 = λ profile seats votes blank lot. IfErr c.allot.result (IsFaultOf (rule_of profile) (poll_of profile votes blank) seats lot) in
    carried Fault profile seats votes blank c.recorded_lot-lot.ensures c.allot.ensures.fault
