-- The return of a polling station, and the recorded returns.
use Rattle.std.specs.Prelude.{ℕ, List, [], codes}
use Rattle.std.specs.FinMap.{FinMap}
use Rattle.tally_setup.specs.Code.{code_cmp}
use Rattle.tally_returns.specs.Counts.{VoteCounts}
use Rattle.tally_returns.specs.declared.returns.Status.{Status}
use Rattle.tally_returns.specs.declared.returns.Status.TheVariants.{Received, Queried, Corrected}
use Rattle.tally_returns.specs.declared.returns.Status.TheVariants.{Closed}

-- its revision (from 1), the code of the slip that it was lodged with, its status, the note of its
-- last query (empty at first) and its counts
pub record StationReturn : Type 0 where
  pub rev : ℕ
  pub slip : List ℕ
  pub status : Status
  pub note : List ℕ
  pub counts : VoteCounts

-- the return of each station that has one, by the station's code
abbrev pub Returns : Type 0
Returns = FinMap code_cmp StationReturn

-- a return as it is lodged
abbrev pub first_return : List ℕ → VoteCounts → StationReturn
first_return slip counts =
    record { rev = 1; slip = slip; status = Received; note = []; counts = counts }

-- the word of a status, as it is shown
abbrev pub status_word : Status → List ℕ
status_word Received = codes "received"
status_word Queried = codes "queried"
status_word Corrected = codes "corrected"
status_word Closed = codes "closed"
