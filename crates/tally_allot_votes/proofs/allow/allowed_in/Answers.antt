use Rattle.std.proofs.Common.{◌≡◌, sum, refl}
use Rattle.tally_allot_award.proofs.TermsRace.{races}
use Rattle.tally_allot_votes.proofs.ScanByVotes.{fair_if_none_runs, fair_if_not_above, not_above_if_fair, verdict}
use Rattle.tally_allot_votes.proofs.allow.allowed_in.Goals as goal

pub returns-in_default-highest_next : goal.returns-in_default-highest_next
returns-in_default-highest_next g c =
    let terms = g.C.Contest.terms c.args.contest.now in
    let held = c.args.held.now in
    let whole : sum held ≡ terms.seats = cc in
    let within = c.if-not-is_within.ensures.0 refl in
    (λ _. (races terms c.requires.sound).from_fair held (fair_if_none_runs terms c.requires.sound held within whole c.in_default-highest_next.ensures), λ _. refl)

pub returns : goal.returns
returns g c =
    let terms = g.C.Contest.terms c.args.contest.now in
    let held = c.args.held.now in
    let whole : sum held ≡ terms.seats = cc in
    let within = c.if-not-is_within.ensures.0 refl in
    let r = races terms c.requires.sound in
    verdict c.is_above_by_votes.result c.is_above_by_votes.ensures
    (λ not_above. r.from_fair held (fair_if_not_above terms c.requires.sound held within c.in-Some.last c.in-Some-highest_next.next c.in-Some.ensures c.in-Some-highest_next.ensures whole not_above))
    (λ allowed. not_above_if_fair terms c.requires.sound held within c.in-Some.last c.in-Some-highest_next.next c.in-Some.ensures c.in-Some-highest_next.ensures (r.to_fair held allowed))
