use Rattle.std.proofs.Common.{◌≡◌, ◌∙◌, List, [], Vec, Global, ℕ, replicate, ap, arith}
use Rattle.tally_report.proofs.GoneLemmas.{one_more_none}
use Rattle.tally_report.proofs.holders.nobody.Goals as goal

pub loop-preserved : goal.loop-preserved
loop-preserved c =
    one_more_none (λ (places : Vec ℕ Global). places.items) c.loop.gone.items c.push.new.self.items c.new.result c.loop.counter
    c.in_ok-push.ensures.items c.loop.invariant c.new.ensures.items

pub returns : goal.returns
returns c =
    let all : c.loop.counter ≡ c.args.lists = omega (arith, c.loop.auto.counter-end, c.loop-test.false) in
    c.loop.invariant ∙ ap (λ n. replicate {A = List ℕ} n []) all
