use Rattle.std.proofs.Common.{ap, refl}
use Rattle.tally_rules.specs.Place.{in_entry}
use Rattle.tally_rules.specs.Reading.{rest_of_list}
use Rattle.tally_rules.proofs.StepLemmas.{placed-passed, placed-first, placed-after, placed-in_entry, read-after}
use Rattle.tally_rules.proofs.read.entry.rest_of_list.Goals as goal

pub returns-in_err-in_entry-clause-fault : goal.returns-in_err-in_entry-clause-fault
unfolding rest_of_list
returns-in_err-in_entry-clause-fault c =
    placed-passed _ _ _ c.from_residual.ensures.1
    (placed-first _ _ _ (placed-in_entry _ _ _ _ _ c.list_way.ensures c.read_name.ensures.fault c.in_err-in_entry.ensures.fault c.in_err-in_entry.ensures.place))

pub returns-in_err-read_candidates-clause-fault : goal.returns-in_err-read_candidates-clause-fault
unfolding rest_of_list
returns-in_err-read_candidates-clause-fault c =
    let name = rw c.in_ok-in_entry.ensures.value at c.read_name.ensures.name in
    placed-passed _ _ _ c.from_residual-in_err-read_candidates.ensures.1
    (placed-after _ _ _ _ (ap (in_entry _) name)
    (placed-first _ _ _ c.in_err-read_candidates.ensures.fault))

pub returns-clause-list : goal.returns-clause-list
unfolding rest_of_list
returns-clause-list c =
    let name = rw c.in_ok-in_entry.ensures.value at c.read_name.ensures.name in
    read-after _ _ _ _ (ap (in_entry _) name)
    (read-after _ _ _ _ c.in_ok-read_candidates.ensures.candidates refl)
