use Rattle.std.proofs.Common.{rules}
use Rattle.tally_report.proofs.provisional.provisional_text.Goals as goal

pub returns-clause-text : goal.returns-clause-text
returns-clause-text c = λ lawful.
    (c.in_ok-found.found.status, c.in_ok-found.found.seats.items, c.in_ok-found.ensures.seats lawful, search rules)
