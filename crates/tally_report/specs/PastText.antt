-- The certificates that were reopened, in order of edition, each with the seats that it gave.
--
--     PAST c1 Twin Town
--     edition 3
--     A                   1 Alpha
--     B                   2 Beta
use Rattle.std.specs.Prelude.{ℕ, ◌++◌, List, codes}
use Rattle.std.specs.List.{flat_map}
use Rattle.tally_setup.specs.Constituency.{Constituency}
use Rattle.tally_returns.specs.PastSeats.{PastSeats}
use Rattle.tally_returns.specs.View.{View}
use Rattle.tally_report_lines.specs.Columns.{heading}
use Rattle.tally_report.specs.SeatsText.{certificate_lines}

abbrev pub past_lines : Constituency → PastSeats → List ℕ
past_lines con past = certificate_lines con past.edition past.seats

abbrev pub past_text : Constituency → View → List ℕ
past_text con view = heading (codes "PAST") con ++ flat_map (past_lines con) view.past
