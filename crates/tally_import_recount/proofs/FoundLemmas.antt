-- What is answered of a text, by what was found in it.
use Rattle.std.proofs.Common.{◌≡◌, ℕ, List, Bool, Option, Some, None, Err, refl, subst, take}
use Rattle.std.specs.Prelude.{IfSome}
use Rattle.std.specs.Io.KnownBytes.{Appends, Keeps}
use Rattle.tally_setup.specs.Constituency.{Constituency}
use Rattle.tally_returns_rows.specs.declared.import.Row.{Row}
use Rattle.tally_import_votes.specs.Troubles.{IsTroubleOf}
use Rattle.tally_import_votes.specs.declared.fault.AllotTrouble.{AllotTrouble}
use Rattle.tally_import_votes.specs.declared.fault.AllotTrouble.TheVariants as allotting
use Rattle.tally_report_allotment.specs.Recount.{question_counted}
use Rattle.tally_import_recount.specs.Counted.{recounted_rows}
use Rattle.tally_import_recount.specs.Recounts.{AreKnown, AreRowsOf, IsTextOf, IsTroubleIn, Recounts}
use Rattle.tally_import_options.specs.WantedRecount.{Wanted}
use Rattle.tally_import_recount.specs.declared.fault.RecountTrouble.{RecountTrouble}
use Rattle.tally_import_recount.specs.declared.fault.RecountTrouble.TheVariants as trouble
use Rattle.tally_import_recount.specs.internal.Finds.{IsOfReading}

-- what happens to a text that is known
pub where-known : (o : Option (List ℕ)) (P Q : List ℕ → Type 0) → ((text : List ℕ) → P text → Q text) → IfSome o P → IfSome o Q
where-known None P Q more p = tt
where-known (Some text) P Q more p = more text p

-- what was counted of the rows of a text
pub found-outcome : (con : Constituency) (w : Wanted) (text : List ℕ) (rows : List Row) (t : AllotTrouble) → AreKnown con w → AreRowsOf con w.sep text rows
    → IsTroubleOf (question_counted con (recounted_rows con w rows)) t → IsTroubleIn con w text (trouble.Allot t)
found-outcome con w text rows (allotting.Votes f) known are is = absurd is
found-outcome con w text rows allotting.NoEligible known are is = (known, (rows, are, is))
found-outcome con w text rows (allotting.LotMissing seats lists) known are is = (known, (rows, are, is))
found-outcome con w text rows allotting.WrongLot known are is = (known, (rows, are, is))
found-outcome con w text rows allotting.Memory known are is = tt
found-outcome con w text rows allotting.Write known are is = absurd is

pub outcome-reading : (con : Constituency) (w : Wanted) (rows : List Row) (t : AllotTrouble) (failed : Bool)
    → IsTroubleOf (question_counted con (recounted_rows con w rows)) t → IsOfReading (trouble.Allot t) failed
outcome-reading con w rows (allotting.Votes f) failed is = absurd is
outcome-reading con w rows allotting.NoEligible failed is = tt
outcome-reading con w rows (allotting.LotMissing seats lists) failed is = tt
outcome-reading con w rows allotting.WrongLot failed is = tt
outcome-reading con w rows allotting.Memory failed is = tt
outcome-reading con w rows allotting.Write failed is = absurd is

-- with a trouble that comes before anything is written, nothing is
pub kept-trouble : (con : Constituency) (w : Wanted) (text : List ℕ) (writer : Option (List ℕ)) (t : RecountTrouble) → Keeps writer writer → IsTroubleIn con w text t
    → Recounts con w text writer writer (Err t)
kept-trouble con w text writer (trouble.NoStation code) kept is = (is, kept)
kept-trouble con w text writer (trouble.Allot (allotting.Votes f)) kept is = (is, kept)
kept-trouble con w text writer (trouble.Allot allotting.NoEligible) kept is = (is, kept)
kept-trouble con w text writer (trouble.Allot (allotting.LotMissing seats lists)) kept is = (is, kept)
kept-trouble con w text writer (trouble.Allot allotting.WrongLot) kept is = (is, kept)
kept-trouble con w text writer (trouble.Allot allotting.Memory) kept is = (is, kept)
kept-trouble con w text writer (trouble.Allot allotting.Write) kept is = absurd is

-- a write that failed left a prefix of the text
pub written-part : (con : Constituency) (w : Wanted) (text : List ℕ) (old new : Option (List ℕ)) (written given : List ℕ) (n : ℕ) → given ≡ written
    → IsTextOf con w text written → Appends old new (take n given) → Recounts con w text old new (Err (trouble.Allot allotting.Write))
written-part con w text old new written given n same found appends = (written, n, found, subst (λ b. Appends old new (take n b)) same appends)

pub Keeps-same : (known : Option (List ℕ)) → Keeps known known
Keeps-same None = tt
Keeps-same (Some bytes) = refl
