use Rattle.std.proofs.Common.{◌≡◌, ◌<◌, ◌^◌, true, take}
use Rattle.std.specs.Char.{is_ascii_digit}
use Rattle.std.specs.List.{list_all}
use Rattle.tally_import.specs.Rows.{written_number}
use Rattle.tally_import_votes.proofs.votes.votes_number.Given as goal

abbrev pub invariant-loop-digit : goal.invariant-loop-digit
invariant-loop-digit l = record {
  digits : list_all is_ascii_digit (take l.digit-index l.text) ≡ true;
  value : l.n ≡ written_number (take l.digit-index l.text);
  below : l.n < 10 ^ l.digit-index;
}
