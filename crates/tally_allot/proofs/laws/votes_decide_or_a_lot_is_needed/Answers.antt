use Rattle.tally_allot.proofs.ProfileLaws.{votes-decide-or-not, never-both}
use Rattle.tally_allot.proofs.laws.votes_decide_or_a_lot_is_needed.Goals as goal

pub returns-clause-either : goal.returns-clause-either
returns-clause-either c = votes-decide-or-not

pub returns-clause-never_both : goal.returns-clause-never_both
returns-clause-never_both c = never-both
