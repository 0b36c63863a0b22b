use Rattle.std.proofs.Common.{rules, ◌≤◌, ◌∙◌, ℕ, List, ap, arith}
use Rattle.tally_allot.specs.AllotFault.{IsFaultOf}
use Rattle.tally_law.specs.Rules.{poll_of, rule_of}
use Rattle.tally_machine_law.specs.Outcome.{poll_in, rule_in}
use Rattle.tally_returns.specs.View.{View}
use Rattle.tally_setup.specs.declared.profile.Profile.{Profile}
use Rattle.tally_setup.specs.Constituency.{Constituency}
use Rattle.tally_report.proofs.AwardLemmas.{allots, carried}
use Rattle.tally_report.proofs.short.votes_short_in.Goals as goal

pub returns-in_default : goal.returns-in_default
returns-in_default c =
    let con = c.args.con.now in
    let view = c.args.view.now in
    let some : 1 ≤ con.seats = omega (arith, c.con.invariant.some_seat, ap (λ (k : Constituency). k.seats) c.con.view_is) in
    let profile = ap (λ (k : Constituency). k.profile) c.con.view_is in
    let seats = ap (λ (k : Constituency). k.seats) c.con.view_is in
    let votes = c.as_slice-votes.ensures.value ∙ ap (λ (v : View). v.votes) c.view.view_is in
    let blank = ap (λ (v : View). v.blank) c.view.view_is in
    let lot = c.deref.ensures.value ∙ ap (λ (v : View). v.lot) c.view.view_is in
    let Fault : Profile → ℕ → List ℕ → ℕ → List ℕ → Type 0 = λ profile seats votes blank lot. IsFaultOf (rule_of profile) (poll_of profile votes blank) seats lot c.in-Err.fault in
    let says : IsFaultOf (rule_in con) (poll_in con view) con.seats view.lot c.in-Err.fault = carried Fault profile seats votes blank lot c.in-Err.ensures.fault in record {
      numbers = λ allotted_seats has. absurd (allots c.laws_of_lots.ensures.groups c.laws_of_lots.ensures.never_both con view some allotted_seats has c.in-Err.fault says c.in_default.not-Memory);
      fault = tt;
    }
