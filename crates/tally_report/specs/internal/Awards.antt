-- The awards that a report prints.
use Rattle.std.specs.Prelude.{length}
use Rattle.tally_allot.specs.declared.award.Award.{Award}
use Rattle.tally_report_lines.specs.internal.Awards.{IsAwardAmong}
use Rattle.tally_setup.specs.Constituency.{Constituency}

-- an award to a list of this constituency
abbrev pub IsAwardIn : Constituency → Award → Type 0
IsAwardIn con award = IsAwardAmong (length con.lists) award
