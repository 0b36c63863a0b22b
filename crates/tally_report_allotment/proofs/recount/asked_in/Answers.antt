use Rattle.std.proofs.Common.{◌≡◌, ◌∙◌, length, sym, ap, subst, arith}
use Rattle.std.proofs.lemmas.List.{length-map}
use Rattle.tally_law.specs.Conditions.{AreLimitsKept}
use Rattle.tally_setup.specs.Constituency.{Constituency, ListEntry}
use Rattle.tally_setup.specs.Limits.{IsConstituency}
use Rattle.tally_returns.specs.View.{blank_of}
use Rattle.tally_report_allotment.specs.Recount.{counted, votes_counted}
use Rattle.tally_report_allotment.proofs.CountedLemmas.{count-lists, limits}
use Rattle.tally_report_allotment.proofs.DecisiveLemmas.{carried}
use Rattle.tally_report_allotment.proofs.recount.asked_in.Goals as goal

pub invariant_of-result : goal.invariant_of-result
invariant_of-result c =
    let con = c.args.con.now in
    let returns = c.args.recount.now.returns.items in
    let ok = subst IsConstituency c.con.view_is c.con.invariant in
    let profile = ap (λ (k : Constituency). k.profile) c.con.view_is in
    let seats = ap (λ (k : Constituency). k.seats) c.con.view_is in
    let votes : c.in_ok-votes.votes.items ≡ votes_counted con returns = c.in_ok-votes.ensures ∙ ap (votes_counted con) c.deref.ensures.value in
    let blank : c.blank_counted-blank.result ≡ blank_of (counted returns) = c.blank_counted-blank.ensures ∙ ap (λ rs. blank_of (counted rs)) c.deref-2.ensures.value in
    record {
      limits = carried AreLimitsKept (sym profile) (sym seats) (sym votes) (sym blank) (limits con returns ok c.requires);
      one_each = omega (
        arith,
        ap length c.in_ok-lists.ensures,
        length-map c.deref-3.result.now (λ (list : ListEntry). list.code),
        ap length c.deref-3.ensures.value,
        ap (λ (k : Constituency). length k.lists) c.con.view_is,
        ap length votes,
        count-lists con returns,
      );
    }
