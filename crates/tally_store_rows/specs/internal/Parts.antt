-- The parts of rows that private functions read, as values. No public contract speaks of them.
use Rattle.tally_returns.specs.Counts.{VoteCounts}
use Rattle.tally_returns.specs.GoneCandidate.{GoneCandidate}
use Rattle.tally_returns.specs.Return.{StationReturn}
use Rattle.tally_store_rows.specs.declared.constituencies.Place.{Place}
use Rattle.tally_store_rows.specs.declared.returns.Head.{Head}

-- a candidate who is gone, by what the row has of it
abbrev pub place_value : Place → GoneCandidate
place_value place = record { list = place.list; place = place.place; note = place.note.now }

-- a return of these counts, by what its row of `returns` has
abbrev pub return_of_counts : VoteCounts → Head → StationReturn
return_of_counts counts head = record {
  rev = head.rev;
  slip = head.slip;
  status = head.status;
  note = head.note.now;
  counts = counts;
}
