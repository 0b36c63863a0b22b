use Rattle.std.proofs.Common.{◌≡◌, ℕ, List, drop}
use Rattle.std.specs.Prelude.{◌||◌}
use Rattle.std.specs.HashSet.{contains}
use Rattle.std.specs.Str.{bytes_eq}
use Rattle.tally_setup.specs.Codes.{is_among_codes}
use Rattle.tally_import_votes.specs.Lot.{bytes_of}
use Rattle.tally_import_recount.specs.Counted.{no_station}
use Rattle.tally_import_recount.proofs.without.stations_named.Given as goal

abbrev pub invariant-loop-word : goal.invariant-loop-word
invariant-loop-word l = record {
  known : no_station l.con (bytes_of (drop l.word-index l.words)) ≡ no_station l.con (bytes_of l.words);
  words : (code : List ℕ) → (contains bytes_eq l.codes code || is_among_codes code (bytes_of (drop l.word-index l.words))) ≡ is_among_codes code (bytes_of l.words);
}
