-- Why votes come to no seats: what each trouble says, its line on standard error, and its status.
use Rattle.std.specs.Prelude.{◌≡◌, ◌+◌, ◌++◌, if◌then◌else◌, ℕ, Bool, List, [], ◌∷◌, codes}
use Rattle.std.specs.Fmt.{decimal}
use Rattle.std.specs.List.{flat_map}
use Rattle.tally_allot.specs.AllotFault.{IsFaultOf}
use Rattle.tally_allot.specs.declared.fault.AllotFault.TheVariants as allotting
use Rattle.tally_frac.specs.ListSet.{has_place}
use Rattle.tally_import_votes.specs.declared.fault.AllotTrouble.{AllotTrouble}
use Rattle.tally_import_votes.specs.declared.fault.AllotTrouble.TheVariants as trouble
use Rattle.tally_import_votes.specs.declared.fault.BadVotes.{BadVotes}
use Rattle.tally_import_votes.specs.declared.fault.BadVotes.TheVariants as bad
use Rattle.tally_import_votes.specs.declared.fault.VotesFault.{VotesFault}
use Rattle.tally_import_votes.specs.declared.fault.VotesFault.TheVariants as fault
use Rattle.tally_report_allotment.specs.Question.{Question, poll_asked, rule_asked}

-- ---- the line

abbrev pub bad_votes_text : BadVotes → List ℕ
bad_votes_text (bad.Fields count) = codes "fields " ++ decimal count
bad_votes_text bad.BadList = codes "bad_list"
bad_votes_text (bad.Duplicate code) = codes "duplicate " ++ code
bad_votes_text bad.BadNumber = codes "bad_number"

abbrev pub bad_row_text : ℕ → BadVotes → List ℕ
bad_row_text number cause =
    codes "refused: bad_row " ++ decimal number ++ codes " " ++ bad_votes_text cause

abbrev pub votes_fault_text : VotesFault → List ℕ
votes_fault_text fault.BadHeader = codes "refused: bad_header"
votes_fault_text (fault.BadRow number cause) = bad_row_text number cause
votes_fault_text fault.TooManyLists = codes "refused: too_many_lists"
votes_fault_text fault.TooLong = codes "refused: too_long"
votes_fault_text fault.Read = codes "failed: read"
votes_fault_text fault.NoList = codes "refused: no_list"
votes_fault_text fault.TooManyVotes = codes "refused: too_many_votes"
votes_fault_text fault.Memory = codes "failed: memory"

-- codes, each after a space
abbrev pub codes_text : List (List ℕ) → List ℕ
codes_text lists = flat_map (λ code. codes " " ++ code) lists

abbrev pub missing_text : ℕ → List (List ℕ) → List ℕ
missing_text seats lists = codes "refused: lot_missing " ++ decimal seats ++ codes_text lists

abbrev pub trouble_text : AllotTrouble → List ℕ
trouble_text (trouble.Votes fault) = votes_fault_text fault
trouble_text trouble.NoEligible = codes "refused: no_eligible"
trouble_text (trouble.LotMissing seats lists) = missing_text seats lists.items
trouble_text trouble.WrongLot = codes "refused: wrong_lot"
trouble_text trouble.Memory = codes "failed: memory"
trouble_text trouble.Write = codes "failed: write"

abbrev pub allot_line : AllotTrouble → List ℕ
allot_line t = trouble_text t ++ codes "\n"

-- ---- the exit status: 1 where the line says `refused`, 3 where it says `failed`

abbrev pub votes_fault_status : VotesFault → ℕ
votes_fault_status fault.BadHeader = 1
votes_fault_status (fault.BadRow number cause) = 1
votes_fault_status fault.TooManyLists = 1
votes_fault_status fault.TooLong = 1
votes_fault_status fault.Read = 3
votes_fault_status fault.NoList = 1
votes_fault_status fault.TooManyVotes = 1
votes_fault_status fault.Memory = 3

abbrev pub allot_status : AllotTrouble → ℕ
allot_status (trouble.Votes fault) = votes_fault_status fault
allot_status trouble.NoEligible = 1
allot_status (trouble.LotMissing seats lists) = 1
allot_status trouble.WrongLot = 1
allot_status trouble.Memory = 3
allot_status trouble.Write = 3

-- ---- what it says of what was asked

-- the codes that a group marks, where the first one has this place
abbrev pub codes_marked : ℕ → List Bool → List (List ℕ) → List (List ℕ)
codes_marked place group [] = []
codes_marked place group (code ∷ lists) =
    if has_place group place
    then code ∷ codes_marked (place + 1) group lists
    else codes_marked (place + 1) group lists

-- The trouble is that of an allotment. Where a lot is missing, its codes are those of the group, in
-- the order of the lists.
abbrev pub IsTroubleOf : Question → AllotTrouble → Type 0
IsTroubleOf q (trouble.Votes fault) = ⊥
IsTroubleOf q trouble.NoEligible =
    IsFaultOf (rule_asked q) (poll_asked q) q.seats q.lot allotting.NoEligible
IsTroubleOf q (trouble.LotMissing seats lists) =
    (group : List Bool)
    × IsFaultOf (rule_asked q) (poll_asked q) q.seats q.lot (allotting.LotMissing group seats)
    × (lists.items ≡ codes_marked 1 group q.lists)
IsTroubleOf q trouble.WrongLot =
    IsFaultOf (rule_asked q) (poll_asked q) q.seats q.lot allotting.WrongLot
IsTroubleOf q trouble.Memory = Unit {0}
IsTroubleOf q trouble.Write = ⊥
