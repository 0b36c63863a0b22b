use Rattle.std.proofs.Common.{◌≡◌, ◌≤◌, ◌<◌, ◌∙◌, ◌↔◌, ℕ, List, None, IsTrue, length, get_or, sym, ap, subst, arith}
use Rattle.tally_law.specs.Allotment.{IsAllotmentByVotes}
use Rattle.tally_law.specs.Conditions.{AreLimitsKept}
use Rattle.tally_law.specs.Rules.{poll_of, rule_of}
use Rattle.tally_setup.specs.Constituency.{Constituency}
use Rattle.tally_setup.specs.Limits.{IsConstituency}
use Rattle.tally_setup.specs.declared.profile.Profile.{Profile}
use Rattle.tally_returns.specs.Counts.{VoteCounts}
use Rattle.tally_returns.proofs.CountsLemmas.{length-counts}
use Rattle.tally_report_allotment.specs.Recount.{votes_counted, without_return}
use Rattle.tally_report_allotment.proofs.CountedLemmas.{count-lists, for-lists, limits}
use Rattle.tally_report_allotment.proofs.DecisiveLemmas.{IsTakenOut, carried, found-at, others-are, own-blank, own-within, rest-votes, verdict}
use Rattle.tally_report_allotment.proofs.decisive.is_decisive.Goals as goal

pub votes_less-requires-clause-votes : goal.votes_less-requires-clause-votes
votes_less-requires-clause-votes c =
    let con = c.args.con.now in
    let lists : c.len.result ≡ length con.lists = omega (arith, c.len.ensures, c.con.inside.lists.ok.0, ap (λ (k : Constituency). length k.lists) c.con.view_is) in
    ap length c.requires.votes ∙ count-lists con c.args.returns.now ∙ sym lists

pub votes_less-requires-clause-by : goal.votes_less-requires-clause-by
votes_less-requires-clause-by c =
    let con = c.args.con.now in
    let returns = c.args.returns.now in
    let place = c.args.place in
    let counts = c.in-Some.counts in
    let some = found-at returns place c.index-returns-place.result counts c.requires.place c.index-returns-place.is c.in-Some.is in
    let lists : c.len.result ≡ length con.lists = omega (arith, c.len.ensures, c.con.inside.lists.ok.0, ap (λ (k : Constituency). length k.lists) c.con.view_is) in
    let by : c.deref.result.now ≡ counts.votes = c.deref.ensures.value ∙ ap (λ (v : VoteCounts). v.votes) c.counts.view_is in
    ap length by ∙ length-counts (length con.lists) counts (for-lists con returns c.requires.returns place counts some) ∙ sym lists

pub votes_less-requires-clause-each : goal.votes_less-requires-clause-each
votes_less-requires-clause-each c = λ list lt.
    let con = c.args.con.now in
    let returns = c.args.returns.now in
    let place = c.args.place in
    let counts = c.in-Some.counts in
    let some = found-at returns place c.index-returns-place.result counts c.requires.place c.index-returns-place.is c.in-Some.is in
    let lists : c.len.result ≡ length con.lists = omega (arith, c.len.ensures, c.con.inside.lists.ok.0, ap (λ (k : Constituency). length k.lists) c.con.view_is) in
    let by : c.deref.result.now ≡ counts.votes = c.deref.ensures.value ∙ ap (λ (v : VoteCounts). v.votes) c.counts.view_is in
    subst (λ (vs : List ℕ). get_or vs list 0 ≤ get_or c.args.votes.now list 0) (sym by)
    (subst (λ (vs : List ℕ). get_or counts.votes list 0 ≤ get_or vs list 0) (sym c.requires.votes)
    (own-within con returns place counts list some (subst (λ (n : ℕ). list < n) lists lt)))

pub overflow_sub-rest_blank : goal.overflow_sub-rest_blank
overflow_sub-rest_blank c =
    let con = c.args.con.now in
    let returns = c.args.returns.now in
    let place = c.args.place in
    let counts = c.in-Some.counts in
    let some = found-at returns place c.index-returns-place.result counts c.requires.place c.index-returns-place.is c.in-Some.is in
    let lists : c.len.result ≡ length con.lists = omega (arith, c.len.ensures, c.con.inside.lists.ok.0, ap (λ (k : Constituency). length k.lists) c.con.view_is) in
    let by : c.deref.result.now ≡ counts.votes = c.deref.ensures.value ∙ ap (λ (v : VoteCounts). v.votes) c.counts.view_is in
    let own : c.from.result ≡ counts.blank = c.from.ensures ∙ ap (λ (v : VoteCounts). v.blank) c.counts.view_is in
    let t : IsTakenOut con returns place counts c.len.result c.args.votes.now c.deref.result.now c.args.blank c.from.result =
    record { some = some; lists = lists; votes_are = c.requires.votes; by_is = by; blank_is = c.requires.blank; own_is = own } in
    (own-blank con returns place counts c.len.result c.args.votes.now c.deref.result.now c.args.blank c.from.result t).0

pub votes_allow-requires-clause-limits : goal.votes_allow-requires-clause-limits
votes_allow-requires-clause-limits c =
    let con = c.args.con.now in
    let returns = c.args.returns.now in
    let place = c.args.place in
    let counts = c.in-Some.counts in
    let some = found-at returns place c.index-returns-place.result counts c.requires.place c.index-returns-place.is c.in-Some.is in
    let lists : c.len.result ≡ length con.lists = omega (arith, c.len.ensures, c.con.inside.lists.ok.0, ap (λ (k : Constituency). length k.lists) c.con.view_is) in
    let by : c.deref.result.now ≡ counts.votes = c.deref.ensures.value ∙ ap (λ (v : VoteCounts). v.votes) c.counts.view_is in
    let own : c.from.result ≡ counts.blank = c.from.ensures ∙ ap (λ (v : VoteCounts). v.blank) c.counts.view_is in
    let t : IsTakenOut con returns place counts c.len.result c.args.votes.now c.deref.result.now c.args.blank c.from.result =
    record { some = some; lists = lists; votes_are = c.requires.votes; by_is = by; blank_is = c.requires.blank; own_is = own } in
    let rest : c.deref-2.result.now ≡ votes_counted con (without_return returns place) =
    c.deref-2.ensures.value ∙ c.in_ok-rest.ensures ∙ rest-votes con returns place counts c.len.result c.args.votes.now c.deref.result.now c.args.blank c.from.result t in
    let blank = (own-blank con returns place counts c.len.result c.args.votes.now c.deref.result.now c.args.blank c.from.result t).1 in
    let profile = ap (λ (k : Constituency). k.profile) c.con.view_is in
    let seats = ap (λ (k : Constituency). k.seats) c.con.view_is in
    carried AreLimitsKept (sym profile) (sym seats) (sym rest) (sym blank)
    (limits con (without_return returns place) (subst IsConstituency c.con.view_is c.con.invariant) (others-are con returns place c.requires.place c.requires.returns))

pub votes_allow-requires-clause-one_each : goal.votes_allow-requires-clause-one_each
votes_allow-requires-clause-one_each c =
    let con = c.args.con.now in
    let returns = c.args.returns.now in
    let place = c.args.place in
    let counts = c.in-Some.counts in
    let some = found-at returns place c.index-returns-place.result counts c.requires.place c.index-returns-place.is c.in-Some.is in
    let lists : c.len.result ≡ length con.lists = omega (arith, c.len.ensures, c.con.inside.lists.ok.0, ap (λ (k : Constituency). length k.lists) c.con.view_is) in
    let by : c.deref.result.now ≡ counts.votes = c.deref.ensures.value ∙ ap (λ (v : VoteCounts). v.votes) c.counts.view_is in
    let own : c.from.result ≡ counts.blank = c.from.ensures ∙ ap (λ (v : VoteCounts). v.blank) c.counts.view_is in
    let t : IsTakenOut con returns place counts c.len.result c.args.votes.now c.deref.result.now c.args.blank c.from.result =
    record { some = some; lists = lists; votes_are = c.requires.votes; by_is = by; blank_is = c.requires.blank; own_is = own } in
    let rest : c.deref-2.result.now ≡ votes_counted con (without_return returns place) =
    c.deref-2.ensures.value ∙ c.in_ok-rest.ensures ∙ rest-votes con returns place counts c.len.result c.args.votes.now c.deref.result.now c.args.blank c.from.result t in
    let blank = (own-blank con returns place counts c.len.result c.args.votes.now c.deref.result.now c.args.blank c.from.result t).1 in
    let profile = ap (λ (k : Constituency). k.profile) c.con.view_is in
    let seats = ap (λ (k : Constituency). k.seats) c.con.view_is in
    c.requires.seats ∙ sym (count-lists con (without_return returns place)) ∙ sym (ap length rest)

pub returns : goal.returns
returns c =
    let con = c.args.con.now in
    let returns = c.args.returns.now in
    let place = c.args.place in
    let counts = c.in-Some.counts in
    let some = found-at returns place c.index-returns-place.result counts c.requires.place c.index-returns-place.is c.in-Some.is in
    let lists : c.len.result ≡ length con.lists = omega (arith, c.len.ensures, c.con.inside.lists.ok.0, ap (λ (k : Constituency). length k.lists) c.con.view_is) in
    let by : c.deref.result.now ≡ counts.votes = c.deref.ensures.value ∙ ap (λ (v : VoteCounts). v.votes) c.counts.view_is in
    let own : c.from.result ≡ counts.blank = c.from.ensures ∙ ap (λ (v : VoteCounts). v.blank) c.counts.view_is in
    let t : IsTakenOut con returns place counts c.len.result c.args.votes.now c.deref.result.now c.args.blank c.from.result =
    record { some = some; lists = lists; votes_are = c.requires.votes; by_is = by; blank_is = c.requires.blank; own_is = own } in
    let rest : c.deref-2.result.now ≡ votes_counted con (without_return returns place) =
    c.deref-2.ensures.value ∙ c.in_ok-rest.ensures ∙ rest-votes con returns place counts c.len.result c.args.votes.now c.deref.result.now c.args.blank c.from.result t in
    let blank = (own-blank con returns place counts c.len.result c.args.votes.now c.deref.result.now c.args.blank c.from.result t).1 in
    let profile = ap (λ (k : Constituency). k.profile) c.con.view_is in
    let seats = ap (λ (k : Constituency). k.seats) c.con.view_is in
    let Says : Profile → ℕ → List ℕ → ℕ → Type 0 = λ p s vs b. IsTrue c.votes_allow.result ↔ IsAllotmentByVotes (rule_of p) (poll_of p vs b) s c.args.seats.now in
    verdict (get_or returns place None) counts c.votes_allow.result some (carried Says profile seats rest blank c.votes_allow.ensures)
