use Rattle.std.proofs.Common.{IfOk, IfErr, OnOk, length, subst}
use Rattle.tally_law.specs.Allotment.{IsAllotment}
use Rattle.tally_law.specs.LotNeed.{IsLotTaken}
use Rattle.tally_law.specs.Poll.{HasEligible}
use Rattle.tally_allot_award.specs.internal.Terms.{Terms, IsProperLot, placed_race}
use Rattle.tally_allot_award.specs.internal.WonSeat.{AreRows, AreWon}
use Rattle.tally_allot.specs.AllotFault.{IsFaultOf}
use Rattle.tally_allot.proofs.under_lot.award_under_lot.Goals as goal

pub returns-clause-allotment : goal.returns-clause-allotment
returns-clause-allotment g c = subst (λ (t : Terms). IfOk c.award_in.result (λ awarded. IsAllotment t.rule t.poll t.lot t.seats awarded.seats.items)) c.new-contest.ensures.terms c.award_in.ensures.allotment

pub returns-clause-won : goal.returns-clause-won
returns-clause-won g c = subst (λ (t : Terms). IfOk c.award_in.result (λ awarded. AreWon (placed_race t) awarded.seats.items awarded.pairs.items)) c.new-contest.ensures.terms c.award_in.ensures.won

pub returns-clause-rows : goal.returns-clause-rows
returns-clause-rows g c = subst (λ (t : Terms). IfOk c.award_in.result (λ awarded. AreRows (length t.poll.votes) awarded.pairs.items)) c.new-contest.ensures.terms c.award_in.ensures.rows

pub returns-clause-proper : goal.returns-clause-proper
returns-clause-proper g c = subst (λ (t : Terms). OnOk c.award_in.result (IsProperLot t.poll t.lot)) c.new-contest.ensures.terms c.award_in.ensures.proper

pub returns-clause-lot_taken : goal.returns-clause-lot_taken
returns-clause-lot_taken g c = subst (λ (t : Terms). OnOk c.award_in.result (IsLotTaken t.rule t.poll t.seats t.lot)) c.new-contest.ensures.terms c.award_in.ensures.lot_taken

pub returns-clause-eligible : goal.returns-clause-eligible
returns-clause-eligible g c = subst (λ (t : Terms). OnOk c.award_in.result (HasEligible t.poll)) c.new-contest.ensures.terms c.award_in.ensures.eligible

pub returns-clause-fault : goal.returns-clause-fault
returns-clause-fault g c = subst (λ (t : Terms). IfErr c.award_in.result (IsFaultOf t.rule t.poll t.seats t.lot)) c.new-contest.ensures.terms c.award_in.ensures.fault
