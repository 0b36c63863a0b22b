use Rattle.std.proofs.Common.{◌≡◌, ◌∙◌, ap, true, Option, is_some}
use Rattle.std.specs.Prelude.{option_and_then}
use Rattle.clap.specs.Words.{Text}
use Rattle.tally_office_line.specs.Line.{number_in_range}
use Rattle.tally_office_line.proofs.NumberLemmas.{number_lies}
use Rattle.tally_office_line.proofs.line.read_number.Goals as goal

pub unreachable-requires : goal.unreachable-requires
unreachable-requires c =
    let text = c.in-Some.text.now in
    let some : is_some (number_in_range 1 c.args.most text) ≡ true = ap (λ (o : Option Text). is_some (option_and_then (number_in_range 1 c.args.most) o)) c.in-Some.ensures ∙ c.requires in
    let lies = number_lies 1 c.args.most text some in
    absurd (c.in-Err.ensures.value.0 (lies.0, lies.1))
