-- The words of a result for an entry and for the status of provisional seats.
use Rattle.std.specs.Prelude.{ℕ, List, codes}
use Rattle.tally_setup.specs.declared.constituency.Entry.{Entry}
use Rattle.tally_setup.specs.declared.constituency.Entry.TheVariants as entry
use Rattle.tally_report.specs.declared.status.ProvisionalStatus.{ProvisionalStatus}
use Rattle.tally_report.specs.declared.status.ProvisionalStatus.TheVariants as status

abbrev pub entry_word : Entry → List ℕ
entry_word entry.Single = codes "single"
entry_word entry.Double = codes "double"

abbrev pub status_word : ProvisionalStatus → List ℕ
status_word status.Certified = codes "certified"
status_word status.Open = codes "open"
status_word (status.LotNeeded group in_question) = codes "lot"
status_word status.NoEligible = codes "no_eligible"
