-- What the program does for a command line.
use Rattle.std.specs.Prelude.{◌⊎◌, ℕ, List, Option, Some, None}
use Rattle.tally_office_commands.specs.Done.{IsImportedAt, IsMadeAt, IsShownAt}
use Rattle.tally_office_commands.specs.Failed.{IsImportFailure, IsShowFailure}
use Rattle.tally_office_commands.specs.Made.{IsNewTrouble}
use Rattle.tally_office_line.specs.Line.{AllotSeen, CheckSeen, ImportSeen, LineSeen, NewSeen}
use Rattle.tally_office_line.specs.Line.{RecountSeen, ServeSeen, ShowSeen, line_of}
use Rattle.tally_office_commands.specs.Offices.{AtPath, AtPort, Known}
use Rattle.tally_office_trouble.specs.Troubles.{IsTroubleOfImport, IsTroubleOfShow}
use Rattle.tally_office_trouble.specs.Written.{Bytes}
use Rattle.tally_office_streams.specs.Ends.{EndsAllot, EndsCheck}
use Rattle.tally_office_streams.specs.Line.{RefusesLine}
use Rattle.tally_office_streams.specs.Recounted.{EndsRecount}
use Rattle.tally_office_streams.specs.Streams.{HasNotBegun, Streams}
use Rattle.tally_office_program.specs.Commands.{EndsCommand, EndsServer}

-- What becomes of what the words ask for, where this is known of the offices and the files. A
-- check, an allotment, a recount, an import or a report may be out of memory before it begins.
abbrev pub PerformsLine : {K R W E : Type 0} → Known K
    → Bytes R → Bytes W → Bytes E → List (List ℕ) → Option LineSeen
    → Streams R W E → Streams R W E → ℕ → Type 0
PerformsLine k left held reported words (Some (CheckSeen sep rows)) old new status =
    EndsCheck left held reported rows sep old new status ⊎ HasNotBegun reported old new status
PerformsLine k left held reported words (Some (AllotSeen w)) old new status =
    EndsAllot left held reported w old new status ⊎ HasNotBegun reported old new status
PerformsLine k left held reported words (Some (RecountSeen setup con w)) old new status =
    EndsRecount (k.Gives setup) left held reported con w old new status
    ⊎ HasNotBegun reported old new status
PerformsLine k left held reported words (Some (NewSeen db setup)) old new status =
    EndsCommand held reported (IsMadeAt k db setup) (IsNewTrouble (k.Gives setup)) old new status
PerformsLine k left held reported words (Some (ImportSeen db con csv sep rows)) old new status =
    EndsCommand held reported (IsImportedAt k db con csv sep rows)
    (λ t. IsTroubleOfImport t × IsImportFailure k db con csv sep rows t) old new status
    ⊎ HasNotBegun reported old new status
PerformsLine k left held reported words (Some (ShowSeen db name con)) old new status =
    EndsCommand held reported (IsShownAt k db name con)
    (λ t. IsTroubleOfShow t × IsShowFailure k db name con t) old new status
    ⊎ HasNotBegun reported old new status
PerformsLine k left held reported words (Some (ServeSeen db port count)) old new status =
    EndsServer (k.Opens (AtPath db)) (k.Opens (AtPort port)) held reported port count old new status
PerformsLine k left held reported words None old new status =
    RefusesLine reported words old new status

-- What the program does for these words, its name first.
abbrev pub Performs : {K R W E : Type 0} → Known K
    → Bytes R → Bytes W → Bytes E → List (List ℕ) → Streams R W E → Streams R W E → ℕ → Type 0
Performs k left held reported words = PerformsLine k left held reported words (line_of words)
