-- What the parts of a recount leave.
use Rattle.std.specs.Prelude.{◌≡◌, ⊤, ℕ, Bool, true, List, Some, Result, Ok, Err}
use Rattle.std.specs.Prelude.{String, string_bytes, IfSome}
use Rattle.std.specs.declared.alloc.Global.{Global}
use Rattle.tally_setup.specs.Constituency.{Constituency}
use Rattle.tally_returns_rows.specs.declared.source.ImportFault.{ImportFault}
use Rattle.tally_returns_rows.specs.declared.source.ImportFault.TheVariants as cause
use Rattle.tally_import.specs.ReturnRowsValue.{ReturnRows}
use Rattle.tally_import_votes.specs.Troubles.{IsTroubleOf}
use Rattle.tally_import_votes.specs.declared.fault.AllotTrouble.{AllotTrouble}
use Rattle.tally_import_votes.specs.declared.fault.AllotTrouble.TheVariants as allotting
use Rattle.tally_import_votes.specs.declared.fault.VotesFault.TheVariants as fault
use Rattle.tally_report_allotment.specs.Recount.{Recounted, question_counted}
use Rattle.tally_report_allotment.specs.RecountText.{IsRecountText}
use Rattle.tally_import_recount.specs.Counted.{no_station}
use Rattle.tally_import_recount.specs.Recounts.{IsFaultOfText, IsTextOf, IsTroubleIn}
use Rattle.tally_import_options.specs.WantedRecount.{Wanted}
use Rattle.tally_import_recount.specs.declared.fault.RecountTrouble.{RecountTrouble}
use Rattle.tally_import_recount.specs.declared.fault.RecountTrouble.TheVariants as trouble

-- a word for a station that is left out is the code of none; or it is out of memory
abbrev pub IsNoStation : Constituency → List (List ℕ) → RecountTrouble → Type 0
IsNoStation con words (trouble.NoStation code) = no_station con words ≡ Some code
IsNoStation con words (trouble.Allot allotting.Memory) = ⊤
IsNoStation con words (trouble.Allot t) = ⊥

-- The fault with which the rows of a text end, where it is known. It is never one of a database,
-- and out of memory may come at any place.
abbrev pub IsFaultOfRows : ReturnRows → ImportFault → Type 0
IsFaultOfRows rows cause.Memory = ⊤
IsFaultOfRows rows cause.Store = ⊥
IsFaultOfRows rows f = IfSome rows.text (λ text. IsFaultOfText rows.con rows.sep text f)

-- the trouble that such a fault is
abbrev pub trouble_of_rows : ImportFault → AllotTrouble
trouble_of_rows cause.BadHeader = allotting.Votes fault.BadHeader
trouble_of_rows cause.TooLong = allotting.Votes fault.TooLong
trouble_of_rows cause.Read = allotting.Votes fault.Read
trouble_of_rows cause.Memory = allotting.Memory
trouble_of_rows cause.Store = allotting.Memory

-- what is written of what was counted, or why nothing is
abbrev pub IsOutcome : Constituency → Recounted → Result (String Global) AllotTrouble → Type 0
IsOutcome con r (Ok text) = IsRecountText con r (string_bytes text)
IsOutcome con r (Err t) = IsTroubleOf (question_counted con r) t

-- what is written of a text, or why nothing is
abbrev pub FindsText : Constituency → Wanted → List ℕ → Result (String Global) RecountTrouble
    → Type 0
FindsText con w text (Ok found) = IsTextOf con w text (string_bytes found)
FindsText con w text (Err t) = IsTroubleIn con w text t

-- A trouble that comes before anything is written: Read only where a read failed, and never Write.
abbrev pub IsOfReading : RecountTrouble → Bool → Type 0
IsOfReading (trouble.Allot (allotting.Votes fault.Read)) failed = failed ≡ true
IsOfReading (trouble.Allot allotting.Write) failed = ⊥
IsOfReading t failed = ⊤
