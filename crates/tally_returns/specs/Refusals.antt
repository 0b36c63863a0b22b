-- The table of refusals.
use Rattle.std.specs.Prelude.{ℕ, List, codes}
use Rattle.tally_returns.specs.declared.refusal.Refusal.{Refusal}
use Rattle.tally_returns.specs.declared.refusal.Refusal.TheVariants.{NoStation, NoConstituency}
use Rattle.tally_returns.specs.declared.refusal.Refusal.TheVariants.{NoCandidate, BadCounts}
use Rattle.tally_returns.specs.declared.refusal.Refusal.TheVariants.{BadNote, TooManyVotes, Differs}
use Rattle.tally_returns.specs.declared.refusal.Refusal.TheVariants.{NoReturn, Certified}
use Rattle.tally_returns.specs.declared.refusal.Refusal.TheVariants.{NotCertified, Stale, Exhausted}
use Rattle.tally_returns.specs.declared.refusal.Refusal.TheVariants.{WrongStatus, NotAllClosed}
use Rattle.tally_returns.specs.declared.refusal.Refusal.TheVariants.{NoEligible, LotStands}
use Rattle.tally_returns.specs.declared.refusal.Refusal.TheVariants.{LotNotNeeded, LotWrongGroup}
use Rattle.tally_returns.specs.declared.refusal.Refusal.TheVariants.{LotMissing, AlreadyGone}
use Rattle.tally_returns.specs.declared.refusal.Refusal.TheVariants.{NotHolder, NotConfirmed}
use Rattle.tally_returns.specs.declared.refusal.Refusal.TheVariants.{Memory, Store}

-- the number of a refusal
abbrev pub refusal_number : Refusal → ℕ
refusal_number NoStation = 1
refusal_number NoConstituency = 2
refusal_number NoCandidate = 3
refusal_number BadCounts = 4
refusal_number BadNote = 5
refusal_number TooManyVotes = 6
refusal_number (Differs rev) = 7
refusal_number NoReturn = 8
refusal_number Certified = 9
refusal_number NotCertified = 10
refusal_number (Stale now) = 11
refusal_number Exhausted = 12
refusal_number (WrongStatus status) = 13
refusal_number (NotAllClosed left) = 14
refusal_number NoEligible = 15
refusal_number LotStands = 16
refusal_number LotNotNeeded = 17
refusal_number (LotWrongGroup group) = 18
refusal_number (LotMissing group seats) = 19
refusal_number AlreadyGone = 20
refusal_number NotHolder = 21
refusal_number Memory = 22
refusal_number Store = 23
refusal_number NotConfirmed = 24

-- the word of a refusal
abbrev pub refusal_word : Refusal → List ℕ
refusal_word NoStation = codes "no_station"
refusal_word NoConstituency = codes "no_constituency"
refusal_word NoCandidate = codes "no_candidate"
refusal_word BadCounts = codes "bad_counts"
refusal_word BadNote = codes "bad_note"
refusal_word TooManyVotes = codes "too_many_votes"
refusal_word (Differs rev) = codes "differs"
refusal_word NoReturn = codes "no_return"
refusal_word Certified = codes "certified"
refusal_word NotCertified = codes "not_certified"
refusal_word (Stale now) = codes "stale"
refusal_word Exhausted = codes "exhausted"
refusal_word (WrongStatus status) = codes "wrong_status"
refusal_word (NotAllClosed left) = codes "not_all_closed"
refusal_word NoEligible = codes "no_eligible"
refusal_word LotStands = codes "lot_stands"
refusal_word LotNotNeeded = codes "lot_not_needed"
refusal_word (LotWrongGroup group) = codes "lot_wrong_group"
refusal_word (LotMissing group seats) = codes "lot_missing"
refusal_word AlreadyGone = codes "already_gone"
refusal_word NotHolder = codes "not_holder"
refusal_word Memory = codes "unavailable"
refusal_word Store = codes "unavailable"
refusal_word NotConfirmed = codes "not_confirmed"
