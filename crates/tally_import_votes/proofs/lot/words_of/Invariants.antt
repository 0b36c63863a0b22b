use Rattle.std.proofs.Common.{◌≡◌, ◌++◌, [], drop}
use Rattle.tally_import_votes.specs.Lot.{bytes_of, words_of}
use Rattle.tally_import_votes.proofs.lot.words_of.Given as goal

abbrev pub invariant-loop-byte : goal.invariant-loop-byte
invariant-loop-byte l =
    bytes_of l.words.items ++ words_of l.word.items (drop l.byte-index l.text) ≡ words_of [] l.text
