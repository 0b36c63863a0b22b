use Rattle.std.proofs.Common.{sym, ◌∙◌}
use Rattle.std.proofs.lemmas.Bool.{false≢true}
use Rattle.tally_allot_award.specs.internal.KeptPoll.{kept_poll}
use Rattle.tally_allot_award.specs.internal.Pairs.{pair_of}
use Rattle.tally_allot_award.proofs.AboveLemmas.{above_by_votes, below_by_votes, above_by_place}
use Rattle.tally_allot_award.proofs.divisor_contest.DivisorContestContest.is_above.Goals as goal

pub returns-then-votes_rank_above : goal.returns-then-votes_rank_above
returns-then-votes_rank_above g c =
    above_by_votes (pair_of (g.D.Divisors.divisor c.args.self.now.divisors) c.args.self.now.lot_rule (kept_poll c.args.self.now.poll) c.args.self.now.lot.now c.args.list c.args.seat) (pair_of (g.D.Divisors.divisor c.args.self.now.divisors) c.args.self.now.lot_rule (kept_poll c.args.self.now.poll) c.args.self.now.lot.now c.args.other c.args.other_seat) _ _ _ _ c.votes_of-votes.ensures.votes c.nth-divisor.ensures c.votes_of-other_votes.ensures.votes c.nth-other_divisor.ensures (c.votes_rank_above.ensures.0 c.if-votes_rank_above.true)

pub returns-then-votes_rank_above-2 : goal.returns-then-votes_rank_above-2
returns-then-votes_rank_above-2 g c =
    below_by_votes (pair_of (g.D.Divisors.divisor c.args.self.now.divisors) c.args.self.now.lot_rule (kept_poll c.args.self.now.poll) c.args.self.now.lot.now c.args.list c.args.seat) (pair_of (g.D.Divisors.divisor c.args.self.now.divisors) c.args.self.now.lot_rule (kept_poll c.args.self.now.poll) c.args.self.now.lot.now c.args.other c.args.other_seat) _ _ _ _ c.votes_of-votes.ensures.votes c.nth-divisor.ensures c.votes_of-other_votes.ensures.votes c.nth-other_divisor.ensures (λ h. false≢true (sym c.if-votes_rank_above.false ∙ c.votes_rank_above.ensures.1 h)) (c.votes_rank_above-2.ensures.0 c.if-votes_rank_above-2.true)

pub returns : goal.returns
returns g c =
    above_by_place (pair_of (g.D.Divisors.divisor c.args.self.now.divisors) c.args.self.now.lot_rule (kept_poll c.args.self.now.poll) c.args.self.now.lot.now c.args.list c.args.seat) (pair_of (g.D.Divisors.divisor c.args.self.now.divisors) c.args.self.now.lot_rule (kept_poll c.args.self.now.poll) c.args.self.now.lot.now c.args.other c.args.other_seat) _ _ _ _ c.votes_of-votes.ensures.votes c.nth-divisor.ensures c.votes_of-other_votes.ensures.votes c.nth-other_divisor.ensures (λ h. false≢true (sym c.if-votes_rank_above.false ∙ c.votes_rank_above.ensures.1 h)) (λ h. false≢true (sym c.if-votes_rank_above-2.false ∙ c.votes_rank_above-2.ensures.1 h)) _ _ c.place_at.ensures c.place_at-2.ensures
