-- What the recount of a text of returns answers and writes.
use Rattle.std.specs.Prelude.{◌≡◌, ⊤, ℕ, List, Option, Some, None, Result, Ok, Err, take}
use Rattle.std.specs.Io.KnownBytes.{Appends, Keeps}
use Rattle.tally_setup.specs.Constituency.{Constituency}
use Rattle.tally_returns_rows.specs.declared.import.Row.{Row}
use Rattle.tally_returns_rows.specs.declared.source.ImportFault.{ImportFault}
use Rattle.tally_returns_rows.specs.declared.source.ImportFault.TheVariants as cause
use Rattle.tally_import.specs.ReturnRows.{bytes_coming, text_coming}
use Rattle.tally_import_records.specs.Input.{Gave}
use Rattle.tally_import_records.specs.declared.end.Stop.TheVariants as stopped
use Rattle.tally_import_records.specs.declared.separator.Sep.{Sep}
use Rattle.tally_import_votes.specs.Lot.{words_given}
use Rattle.tally_import_votes.specs.Troubles.{IsTroubleOf}
use Rattle.tally_import_votes.specs.declared.fault.AllotTrouble.{AllotTrouble}
use Rattle.tally_import_votes.specs.declared.fault.AllotTrouble.TheVariants as allotting
use Rattle.tally_import_votes.specs.declared.fault.VotesFault.{VotesFault}
use Rattle.tally_import_votes.specs.declared.fault.VotesFault.TheVariants as fault
use Rattle.tally_report_allotment.specs.Recount.{question_counted}
use Rattle.tally_report_allotment.specs.RecountText.{IsRecountText}
use Rattle.tally_import_recount.specs.Counted.{no_station, recounted_rows}
use Rattle.tally_import_options.specs.WantedRecount.{Wanted}
use Rattle.tally_import_recount.specs.declared.fault.RecountTrouble.{RecountTrouble}
use Rattle.tally_import_recount.specs.declared.fault.RecountTrouble.TheVariants as trouble

-- these are the rows of a text, to its end
abbrev pub AreRowsOf : Constituency → Sep → List ℕ → List Row → Type 0
AreRowsOf con sep text rows = text_coming con sep text ≡ record { rows = rows; fault = None }

-- The fault is that of the text, which comes after all of its rows. A failed read comes after those
-- that were complete in the bytes that came.
abbrev pub IsFaultOfText : Constituency → Sep → List ℕ → ImportFault → Type 0
IsFaultOfText con sep text cause.Read = (bytes : List ℕ) × (left : Option (List ℕ))
    × Gave text left bytes (Some stopped.Read)
    × ((bytes_coming con sep bytes (Some stopped.Read)).fault ≡ Some cause.Read)
IsFaultOfText con sep text f = (text_coming con sep text).fault ≡ Some f

-- every word for a station that is left out is the code of one
abbrev pub AreKnown : Constituency → Wanted → Type 0
AreKnown con w = no_station con (words_given w.without) ≡ None

-- This is the text of what the rows of a text count.
abbrev pub IsTextOf : Constituency → Wanted → List ℕ → List ℕ → Type 0
IsTextOf con w text written = AreKnown con w
    × ((rows : List Row) × AreRowsOf con w.sep text rows
    × IsRecountText con (recounted_rows con w rows) written)

-- What they count allots no seats, for this trouble.
abbrev pub IsTroubleFound : Constituency → Wanted → List ℕ → AllotTrouble → Type 0
IsTroubleFound con w text t = AreKnown con w
    × ((rows : List Row) × AreRowsOf con w.sep text rows
    × IsTroubleOf (question_counted con (recounted_rows con w rows)) t)

-- The text is not the returns of the constituency.
abbrev pub IsRefusedFor : Constituency → Wanted → List ℕ → ImportFault → Type 0
IsRefusedFor con w text f = AreKnown con w × IsFaultOfText con w.sep text f

-- The fault of votes that stands for it.
abbrev pub IsVotesFaultIn : Constituency → Wanted → List ℕ → VotesFault → Type 0
IsVotesFaultIn con w text fault.BadHeader = IsRefusedFor con w text cause.BadHeader
IsVotesFaultIn con w text fault.TooLong = IsRefusedFor con w text cause.TooLong
IsVotesFaultIn con w text fault.Read = IsRefusedFor con w text cause.Read
IsVotesFaultIn con w text other = ⊥

-- The trouble is the first one of the text. Out of memory may come at any place.
abbrev pub IsTroubleIn : Constituency → Wanted → List ℕ → RecountTrouble → Type 0
IsTroubleIn con w text (trouble.NoStation code) =
    no_station con (words_given w.without) ≡ Some code
IsTroubleIn con w text (trouble.Allot (allotting.Votes f)) = IsVotesFaultIn con w text f
IsTroubleIn con w text (trouble.Allot allotting.Memory) = ⊤
IsTroubleIn con w text (trouble.Allot allotting.Write) = ⊥
IsTroubleIn con w text (trouble.Allot t) = IsTroubleFound con w text t

-- What is answered of a text, and what is left on the writer: the text of the recount is written,
-- or the first trouble is answered and nothing written. A write that failed leaves a prefix of the
-- text.
abbrev pub Recounts : Constituency → Wanted → List ℕ → Option (List ℕ) → Option (List ℕ)
    → Result (Unit {0}) RecountTrouble → Type 0
Recounts con w text old new (Ok u) =
    (written : List ℕ) × IsTextOf con w text written × Appends old new written
Recounts con w text old new (Err (trouble.Allot allotting.Write)) =
    (written : List ℕ) × (n : ℕ) × IsTextOf con w text written × Appends old new (take n written)
Recounts con w text old new (Err t) = IsTroubleIn con w text t × Keeps old new

-- with a trouble nothing was written, unless the writing failed
abbrev pub IsSilent : Option (List ℕ) → Option (List ℕ) → Result (Unit {0}) RecountTrouble
    → Type 0
IsSilent old new (Ok u) = Unit {0}
IsSilent old new (Err (trouble.Allot allotting.Write)) = Unit {0}
IsSilent old new (Err t) = Keeps old new
