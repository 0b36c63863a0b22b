use Rattle.std.proofs.Common.{◌≡◌, ◌/◌, ◌%◌, ◌++◌, ◌∷◌, string_bytes, append_assoc}
use Rattle.std.specs.Fmt.{decimal}
use Rattle.tally_report_lines.specs.Columns.{number}
use Rattle.tally_report_lines.proofs.ColumnLemmas.{hundredths-is}
use Rattle.tally_report_lines.proofs.votes.push_hundredths.Goals as goal

pub returns : goal.returns
returns c =
    let old = string_bytes c.args.text.now in
    let n = c.args.n in
    let whole : string_bytes c.push_number.new.text ≡ old ++ number 5 (n / 100) = c.in_ok-push_number.ensures in
    rw (← hundredths-is n, ← append_assoc old (number 5 (n / 100)) (46 ∷ (decimal (n / 10 % 10) ++ decimal (n % 10))), ← whole) c.write.ensures.bytes
