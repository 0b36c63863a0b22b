use Rattle.std.proofs.Common.{◌∙◌, ◌++◌, string_bytes, ap, sym, append_assoc}
use Rattle.std.specs.List.{repeat}
use Rattle.tally_report.specs.HoldersText.{empty_line}
use Rattle.tally_report.proofs.HolderLemmas.{repeat-more}
use Rattle.tally_report.proofs.holders.push_empty.Goals as goal

pub loop-preserved : goal.loop-preserved
loop-preserved c =
    let old = string_bytes c.args.text.now in
    let line = empty_line c.args.list.now in
    let n = c.loop.counter in
    c.in_ok-push_empty_seat.ensures
    ∙ ap (λ t. t ++ line) c.loop.invariant
    ∙ append_assoc old (repeat n line) line
    ∙ ap (λ t. old ++ t) (sym (repeat-more n line))
