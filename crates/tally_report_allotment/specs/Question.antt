-- What seats are asked for.
use Rattle.std.specs.Prelude.{ℕ, List}
use Rattle.tally_setup.specs.declared.profile.Profile.{Profile}
use Rattle.tally_law.specs.Allotment.{Rule}
use Rattle.tally_law.specs.Poll.{Poll}
use Rattle.tally_law.specs.Rules.{poll_of, rule_of}
use Rattle.tally_report_allotment.specs.declared.question.Asked.{Asked}

-- Seats by a profile, for lists of these codes with these votes, with blank votes, under a lot of
-- places.
pub record Question : Type 0 where
  pub profile : Profile
  pub seats : ℕ
  pub lists : List (List ℕ)
  pub votes : List ℕ
  pub blank : ℕ
  pub lot : List ℕ

abbrev pub question : Asked → Question
question asked = record {
  profile = asked.profile;
  seats = asked.seats;
  lists = asked.lists.items;
  votes = asked.votes.items;
  blank = asked.blank;
  lot = asked.lot.items;
}

-- the rule, and the poll of the votes
abbrev pub rule_asked : Question → Rule
rule_asked q = rule_of q.profile

abbrev pub poll_asked : Question → Poll
poll_asked q = poll_of q.profile q.votes q.blank
