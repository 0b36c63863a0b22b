-- The seats in the order of their award: the number, the list, which seat of the list it is, its
-- quotient as a fraction, and that rounded down.
--
--     AWARDS c1 Twin Town
--        1 B                  1           100     1         100
--        2 A                  1           100     1         100
--        3 B                  2           100     2          50
use Rattle.std.specs.Prelude.{◌≡◌, ℕ, ◌-◌, ◌++◌, List, [], slice_index_or, codes}
use Rattle.tally_setup.specs.Constituency.{Constituency, list_codes}
use Rattle.tally_allot.specs.Awards.{AreAwardsBy}
use Rattle.tally_allot.specs.declared.award.Award.{Award}
use Rattle.tally_returns.specs.View.{View}
use Rattle.tally_machine_law.specs.Outcome.{poll_in, rule_in}
use Rattle.tally_report_lines.specs.Award.{award_columns}
use Rattle.tally_report_lines.specs.Columns.{heading, lines_from}

-- the code of the list at a place, from 0
abbrev pub code_at_index : Constituency → ℕ → List ℕ
code_at_index con place = slice_index_or (list_codes con.lists) place []

-- the line of the n-th award, to a list of a constituency
abbrev pub award_line : Constituency → ℕ → Award → List ℕ
award_line con n award = award_columns (code_at_index con (award.list - 1)) n award

-- awards in their order
abbrev pub awards_text : Constituency → List Award → List ℕ
awards_text con awards = heading (codes "AWARDS") con ++ lines_from (award_line con) 1 awards

-- The text is that of the awards by the closed votes and the lot.
abbrev pub IsAwardsText : Constituency → View → List ℕ → Type 0
IsAwardsText con view text =
    (awards : List Award) × AreAwardsBy (rule_in con) (poll_in con view) view.lot con.seats awards
    × (text ≡ awards_text con awards)
