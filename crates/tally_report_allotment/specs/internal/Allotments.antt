-- The parts of the text of an allotment.
use Rattle.std.specs.Prelude.{ℕ, List}
use Rattle.tally_law.specs.LotNeed.{IsAllotmentUnderLot}
use Rattle.tally_report_allotment.specs.AllotmentText.{Details}
use Rattle.tally_report_allotment.specs.Question.{Question, poll_asked, rule_asked}
use Rattle.tally_report_allotment.specs.declared.found.Found.{Found}

-- what was found, as definitions see it
abbrev pub details_of : Found → Details
details_of found =
    record { short = found.short.items; next = found.next; won = found.won.items }

-- these are the seats of what is asked
abbrev pub AreSeatsOf : Question → List ℕ → Type 0
AreSeatsOf q a = IsAllotmentUnderLot (rule_asked q) (poll_asked q) q.lot q.seats a
