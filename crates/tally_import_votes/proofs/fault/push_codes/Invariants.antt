use Rattle.std.proofs.Common.{◌≡◌, ◌++◌, take, string_bytes}
use Rattle.tally_import_votes.specs.Troubles.{codes_text}
use Rattle.tally_import_votes.proofs.fault.push_codes.Given as goal

abbrev pub invariant-loop-code : goal.invariant-loop-code
invariant-loop-code l = string_bytes l.text ≡ string_bytes l.fn.text ++ codes_text (take l.code-index l.codes)
