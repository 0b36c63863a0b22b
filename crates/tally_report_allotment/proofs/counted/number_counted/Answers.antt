use Rattle.std.proofs.Common.{◌≡◌, ◌∙◌, ℕ, length, sym, ap, subst, arith}
use Rattle.tally_setup.specs.Constituency.{Constituency}
use Rattle.tally_report_allotment.specs.Recount.{counted}
use Rattle.tally_report_allotment.specs.internal.Counting.{AreForLists}
use Rattle.tally_report_allotment.proofs.CountedLemmas.{for-lists, one-each}
use Rattle.tally_report_allotment.proofs.counted.number_counted.Goals as goal

pub sum_counted-requires-clause-each : goal.sum_counted-requires-clause-each
sum_counted-requires-clause-each c =
    let con = c.args.con.now in
    let lists : c.len.result ≡ length con.lists = omega (arith, c.len.ensures, c.con.inside.lists.ok.0, ap (λ (k : Constituency). length k.lists) c.con.view_is) in
    subst (λ (n : ℕ). AreForLists n c.args.returns.now) (sym lists) (for-lists con c.args.returns.now c.requires)

pub returns : goal.returns
returns c = c.sum_counted.ensures ∙ one-each (counted c.args.returns.now)
