use Rattle.std.proofs.Common.{◌≡◌, ℕ, length, sym, ap, subst, arith}
use Rattle.tally_setup.specs.Constituency.{Constituency}
use Rattle.tally_report_allotment.specs.internal.Counting.{AreForLists}
use Rattle.tally_report_allotment.proofs.CountedLemmas.{for-lists}
use Rattle.tally_report_allotment.proofs.counted.votes_counted.Goals as goal

pub votes_of_lists-requires-clause-each : goal.votes_of_lists-requires-clause-each
votes_of_lists-requires-clause-each c =
    let con = c.args.con.now in
    let lists : c.len.result ≡ length con.lists = omega (arith, c.len.ensures, c.con.inside.lists.ok.0, ap (λ (k : Constituency). length k.lists) c.con.view_is) in
    subst (λ (n : ℕ). AreForLists n c.args.returns.now) (sym lists) (for-lists con c.args.returns.now c.requires)
