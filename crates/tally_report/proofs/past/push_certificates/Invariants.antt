use Rattle.std.proofs.Common.{◌≡◌, ◌++◌, take, string_bytes}
use Rattle.std.specs.List.{flat_map}
use Rattle.tally_report.specs.PastText.{past_lines}
use Rattle.tally_report.proofs.past.push_certificates.Given as goal

abbrev pub invariant-loop-certificate : goal.invariant-loop-certificate
invariant-loop-certificate l = string_bytes l.text ≡ string_bytes l.fn.text ++ flat_map (past_lines l.con) (take l.certificate-index l.past)
