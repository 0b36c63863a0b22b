-- The members of a result, in the order of the bytes of their keys, from the last ones on.
use Rattle.std.specs.Prelude.{codes, map}
use Rattle.serde_json.specs.Data.{Data, boolean, string, object, Members, member, no_members}
use Rattle.tally_setup.specs.Constituency.{Constituency}
use Rattle.tally_returns.specs.View.{View}
use Rattle.tally_report_lines.specs.Words.{base_word, lot_rule_word, method_word}
use Rattle.tally_report_result.specs.Parts.{ResultParts}
use Rattle.tally_report_result.specs.Values.{all_holders, array_of, award_value, each_list}
use Rattle.tally_report_result.specs.Values.{gone_value, group_codes, list_values, lot_value}
use Rattle.tally_report_result.specs.Values.{past_value, quota_values, seats_in_question, whole}
use Rattle.tally_report_result.specs.Words.{entry_word, status_word}

abbrev pub from_spoiled : Constituency → View → ResultParts → Members
from_spoiled con view parts =
    member (codes "spoiled") (whole view.spoiled)
    (member (codes "stations") (whole view.stations)
    (member (codes "status") (string (status_word parts.status))
    (member (codes "threshold") (whole con.profile.threshold) no_members)))

abbrev pub from_queried : Constituency → View → ResultParts → Members
from_queried con view parts =
    member (codes "queried") (whole view.queried)
    (member (codes "question") (whole (seats_in_question parts.status))
    (member (codes "quota") (array_of (quota_values con view parts))
    (member (codes "received") (whole view.received)
    (member (codes "seats") (whole con.seats) (from_spoiled con view parts)))))

abbrev pub from_lot : Constituency → View → ResultParts → Members
from_lot con view parts =
    member (codes "lot") (lot_value con view.lot)
    (member (codes "lot_rule") (string (lot_rule_word con.profile.lot))
    (member (codes "method") (string (method_word con.profile.method))
    (member (codes "name") (string con.name)
    (member (codes "note") (string view.note)
    (member (codes "past") (array_of (map past_value view.past)) (from_queried con view parts))))))

abbrev pub from_gone : Constituency → View → ResultParts → Members
from_gone con view parts =
    member (codes "gone") (array_of (map (gone_value con) view.gone))
    (member (codes "group") (array_of (group_codes con parts.status))
    (member (codes "holders") (array_of (all_holders con view))
    (member (codes "lists") (array_of (list_values (each_list con view parts) con))
    (from_lot con view parts))))

abbrev pub from_certified : Constituency → View → ResultParts → Members
from_certified con view parts =
    member (codes "certified") (boolean view.certified)
    (member (codes "closed") (whole view.closed)
    (member (codes "con") (string con.code)
    (member (codes "corrected") (whole view.corrected)
    (member (codes "edition") (whole view.edition)
    (member (codes "entry") (string (entry_word con.entry)) (from_gone con view parts))))))

abbrev pub result_members : Constituency → View → ResultParts → Members
result_members con view parts =
    member (codes "awards") (array_of (map (award_value con) parts.awards))
    (member (codes "base") (string (base_word con.profile.base))
    (member (codes "blank") (whole view.blank) (from_certified con view parts)))

abbrev pub result_value : Constituency → View → ResultParts → Data
result_value con view parts = object (result_members con view parts)
