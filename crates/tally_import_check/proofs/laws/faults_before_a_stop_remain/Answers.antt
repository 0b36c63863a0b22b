use Rattle.tally_import_check.proofs.laws.faults_before_a_stop_remain.Goals as goal
use Rattle.tally_import_check.proofs.StandingLemmas.{checked-more}

pub returns : goal.returns
returns c = checked-more
