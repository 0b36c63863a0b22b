use Rattle.std.proofs.Common.{◌∙◌, ◌+◌, ◌++◌, string_bytes, ap, sym, append_assoc}
use Rattle.std.specs.List.{flat_map, range_with_len}
use Rattle.tally_report.specs.QuotientsText.{quotient_column}
use Rattle.tally_report.proofs.QuotientLemmas.{columns-more}
use Rattle.tally_report.proofs.quotients.push_quotients.Goals as goal

pub loop-won-preserved : goal.loop-won-preserved
loop-won-preserved g c =
    let old = string_bytes c.args.text.now in
    let column = quotient_column (g.D.Divisors.divisor c.args.divisors.now) (g.D.Divisors.unit_of c.args.divisors.now) c.args.votes c.args.seats in
    let n = c.loop-won.won in
    c.in_ok-push_quotient.ensures
    ∙ ap (λ t. t ++ column (n + 1)) c.loop-won.invariant
    ∙ append_assoc old (flat_map column (range_with_len 1 n)) (column (n + 1))
    ∙ ap (λ t. old ++ t) (sym (columns-more column n))
