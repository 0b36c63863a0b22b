use Rattle.std.proofs.Common.{rules}
use Rattle.tally_report_allotment.specs.internal.Allotments.{details_of}
use Rattle.tally_report_allotment.proofs.allotment.allotment_text.Goals as goal

pub returns-in_err-seats-clause-fault : goal.returns-in_err-seats-clause-fault
returns-in_err-seats-clause-fault c = rw (← c.deref.ensures.value, ← c.deref-2.ensures.value) (search rules)

pub returns-clause-text : goal.returns-clause-text
returns-clause-text c = record {
  seats = c.in_ok-seats.seats.items;
  details = details_of c.in_ok-found.found;
  allotment = search rules;
  found = search rules;
  is = search rules;
}
